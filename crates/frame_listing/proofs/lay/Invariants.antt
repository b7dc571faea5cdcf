-- The lines one after the other: what stands, with what is still to come, is all.
use mathlib.Core.Path.{◌≡◌}
use Prim.Native.Nat.{◌+◌, ◌-◌, ◌*◌, ◌≤◌}
use lib.ListN.{length, drop}
use Rattle.frame_listing.specs.Listing.{lines}
use Rattle.frame_listing.proofs.Standing.{Standing}
use Rattle.frame_listing.proofs.lay.Given as goal

abbrev pub invariant-loop-line : goal.invariant-loop-line
invariant-loop-line l = (length l.line ≡ 64) × (length l.out ≡ length l.initial.out) × (l.at ≤ length l.input) × (l.number ≤ l.at + 1) × (l.to ≤ 21 * l.at)
    × Standing l.from (lines 0 1 l.input) l.initial.out l.out l.to (lines 0 l.number (drop l.at l.input))

abbrev pub decreases-loop-line : goal.decreases-loop-line
decreases-loop-line l = length l.input - l.at
