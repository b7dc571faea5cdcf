-- What is summed, and then what is left, is what was to be summed at first.
use mathlib.Core.Path.{◌≡◌}
use mathlib.Core.List.{map}
use Prim.Native.Nat.{ℕ, ◌+◌, ◌*◌, ◌≤◌}
use lib.ListN.{drop}
use Rattle.update_places.specs.Place.{length_of, sum}
use Rattle.update_running.proofs.gone_of.Given as goal

abbrev pub invariant-loop-p : goal.invariant-loop-p
invariant-loop-p l = (l.bytes ≤ 32768 * l.p-index) × (l.back ≤ 32780 * l.p-index)
    × (l.bytes + sum (map length_of (drop l.p-index l.places)) ≡ sum (map length_of l.places))
    × (l.back + sum (map (λ (p : ℕ). l.head + length_of p) (drop l.p-index l.places)) ≡ sum (map (λ (p : ℕ). l.head + length_of p) l.places))
