-- What is laid, and then what is left, is what was to be laid at first.
use mathlib.Core.Path.{◌≡◌}
use mathlib.Core.List.{map}
use Prim.Native.Nat.{◌+◌}
use lib.ListN.{drop}
use Rattle.update_running.specs.Steps.{entry_of, laid_from}
use Rattle.update_running.proofs.lay_removed.Given as goal

abbrev pub invariant-loop-i : goal.invariant-loop-i
invariant-loop-i l = laid_from (l.laid + l.i) (map (entry_of 0x21 l.f) (drop l.i l.places)) l.back ≡ laid_from l.laid (map (entry_of 0x21 l.f) l.places) l.initial.back
