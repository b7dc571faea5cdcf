-- One byte after the other.
use mathlib.Core.Path.{◌≡◌}
use lib.ListN.{length}
use Rattle.frame_fault_fields.specs.Dump.{cells}
use Rattle.frame_fault_fields.specs.Steps.{Lays}
use Rattle.frame_fault_fields.proofs.lay_cells.Given as goal

abbrev pub invariant-loop-i : goal.invariant-loop-i
invariant-loop-i l = (length l.text ≡ length l.initial.text) × Lays l.initial.text 0 (cells l.frame l.place l.from l.i) l.text l.to
