-- A byte, the mark past the end, or nothing.
use borrow.Author.Tests.{lt-ltb, le-ltb}
use Rattle.frame_fault_fields.specs.Dump.{cell}
use Rattle.frame_fault_fields.proofs.Laying.{piece, none, also}
use Rattle.frame_fault_fields.proofs.write_cell.Goals as goal

pub returns-then-i-frame : goal.returns-then-i-frame
unfolding cell
returns-then-i-frame c =
    rw (lt-ltb _ _ c.if-i-frame.true) (also c.write_margin-to.ensures c.write_byte.ensures)

pub returns-then-marked : goal.returns-then-marked
unfolding cell
returns-then-marked c =
    rw (le-ltb _ _ c.if-i-frame.false, c.if-marked.true) (also c.write_margin-to-then-marked.ensures (piece _ c.write_bytes.ensures))

pub returns : goal.returns
unfolding cell
returns c = rw (le-ltb _ _ c.if-i-frame.false, c.if-marked.false) (none _ _)
