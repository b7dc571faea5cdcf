-- Two digits, between marks or blanks.
use mathlib.Core.Path.{sym}
use Rattle.frame_fault_fields.specs.Dump.{between}
use Rattle.frame_fault_fields.proofs.Laying.{piece}
use Rattle.frame_fault_fields.proofs.write_byte.Goals.{then-marked, else-marked}
use Rattle.frame_fault_fields.proofs.write_byte.Goals as goal

pub returns : goal.returns
unfolding between
returns c =
    elim c.if-marked.branch [
      | then-marked w ↦ rw (w.if-marked.true, sym c.hex_digit-low.ensures, sym c.hex_digit-high.ensures, sym w.cell-is) (piece _ c.write_bytes.ensures)
      | else-marked w ↦ rw (w.if-marked.false, sym c.hex_digit-low.ensures, sym c.hex_digit-high.ensures, sym w.cell-is) (piece _ c.write_bytes.ensures)
    ]
