-- The column, or nothing.
use borrow.Author.Tests.{eq-eqb, ne_eqb}
use Rattle.frame_fault_fields.specs.Dump.{margin}
use Rattle.frame_fault_fields.proofs.Laying.{none}
use Rattle.frame_fault_fields.proofs.write_margin.Goals as goal

pub returns-then-i-ne0 : goal.returns-then-i-ne0
returns-then-i-ne0 c = rw (ne_eqb _ 0 c.if-i-ne0.true, margin) (none _ _)

pub returns : goal.returns
returns c = rw (eq-eqb _ 0 c.if-i-ne0.false, margin) c.write_column.ensures
