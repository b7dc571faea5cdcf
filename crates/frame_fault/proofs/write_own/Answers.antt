-- The dump of the frame's own bytes, and the end of its last line.
use mathlib.Core.Path.{sym}
use lib.Seq.{length-take-le}
use Rattle.frame_listing_fields.specs.Text.{text}
use Rattle.frame_fault_fields.proofs.Laying.{piece, also}
use Rattle.frame_fault.proofs.write_own.Goals as goal

pub returns : goal.returns
returns c =
    rw (sym c.own_length-end.ensures.1) (also (piece _ c.write_dump-to.ensures) (piece (text "\n") c.write_bytes.ensures))

pub slice_bounds-write_dump-end : goal.slice_bounds-write_dump-end
slice_bounds-write_dump-end c = sym (length-take-le _ _ c.own_length-end.ensures.0)
