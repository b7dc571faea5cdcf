-- Two numbers and the texts around them.
use Rattle.frame_listing_fields.specs.Text.{text, decimal}
use Rattle.frame_fault.specs.Fault.{frame_line}
use Rattle.frame_fault_fields.proofs.Laying.{also}
use Rattle.frame_fault.proofs.Lines.{twice}
use Rattle.frame_fault.proofs.write_frame.Goals as goal

pub returns : goal.returns
unfolding frame_line
returns c =
    let a = c.args in
    rw (twice (text "frame    ") (decimal a.frame) (text ", from byte ") (decimal a.from) (text " of the input\n")) at
    (also c.write_counted-to.ensures c.write_counted.ensures)
