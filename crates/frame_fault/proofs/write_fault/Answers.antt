-- Line after line.
use Rattle.frame_fault.specs.Fault.{fault}
use Rattle.frame_fault_fields.proofs.Laying.{also}
use Rattle.frame_fault.proofs.write_fault.Goals as goal

pub returns : goal.returns
unfolding fault
returns c =
    also c.write_frame-to.ensures (also c.write_refused-to.ensures (also c.write_place-to.ensures c.write_own.ensures))
