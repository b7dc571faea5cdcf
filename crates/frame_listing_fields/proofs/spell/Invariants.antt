-- `spell` goes from the last digit to the first: the digits that are left, with those that stand, are all.
use mathlib.Core.Path.{◌≡◌}
use mathlib.Core.List.{◌++◌}
use Prim.Native.Nat.{◌^◌, ◌<◌, ◌≤◌}
use lib.ListN.{length, drop}
use Rattle.frame_listing_fields.specs.Text.{decimal}
use Rattle.frame_listing_fields.specs.Steps.{ended}
use Rattle.frame_listing_fields.proofs.spell.Given as goal

abbrev pub invariant-loop-i : goal.invariant-loop-i
invariant-loop-i l = (length l.text ≡ 21) × (l.rest < 10 ^ 20) × (length (decimal l.rest) ≤ l.i) × (decimal l.rest ++ drop l.i l.text ≡ ended l.n l.end)
