-- The entries before the index are as they will be, and the next one is carried.
use mathlib.Core.Path.{◌≡◌}
use mathlib.Core.List.{◌∷◌}
use lib.ListN.{get_or}
use lib.Seq.{paste}
use Rattle.update_table.proofs.shift_in.Given as goal

abbrev pub invariant-loop-entry : goal.invariant-loop-entry
invariant-loop-entry l = (l.entries ≡ paste l.initial.entries 0 (l.p ∷ l.initial.entries) l.entry-index) × (l.carry ≡ get_or (l.p ∷ l.initial.entries) l.entry-index 0)
