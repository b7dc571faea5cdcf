-- Absent, outside, or within.
use Prim.Native.Nat.{ℕ, ◌+◌, ◌<◌, ◌≤◌}
use mathlib.Core.Path.{◌≡◌}
use mathlib.Core.Bool.{true}
use mathlib.Core.List.{List}
use native.Mathlib.Omega.{arith}
use borrow.Author.Tests.{not-true, not-false, le-leb, lt-leb}
use lib.ListN.{length}
use Rattle.frames.specs.declared.Place.{Place}
use Rattle.frame_items.specs.Content.{place_content}
use Rattle.frame_items.specs.declared.Content.TheVariants.{Outside, View}
use Rattle.frame_keys.proofs.place_content.Goals.{then-bytes-place-via-then-bytes-place, then-bytes-place-via-else-bytes-place+then-bytes-place-2}
use Rattle.frame_keys.proofs.place_content.Goals as goal

outside : (s : List ℕ) (p : Place) → p.present ≡ true → length s < p.start + p.length → Outside ≡ place_content s p
unfolding place_content
outside s p e h = rw (e, lt-leb (p.start + p.length) (length s) h)

inside : (s : List ℕ) (p : Place) → p.present ≡ true → p.start + p.length ≤ length s → View p ≡ place_content s p
unfolding place_content
inside s p e h = rw (e, le-leb (p.start + p.length) (length s) h)

pub returns-then-not-place : goal.returns-then-not-place
returns-then-not-place c = unfold place_content in rw (not-true c.args.place.present c.if-not-place.true)

pub returns-then-bytes-place : goal.returns-then-bytes-place
returns-then-bytes-place c =
    elim c.then-bytes-place.branch [
      | then-bytes-place-via-then-bytes-place w ↦ outside _ _ (not-false _ c.if-not-place.false) (omega arith)
      | then-bytes-place-via-else-bytes-place+then-bytes-place-2 w ↦ outside _ _ (not-false _ c.if-not-place.false) (omega arith)
    ]

pub returns : goal.returns
returns c = inside _ _ (not-false _ c.if-not-place.false) (omega arith)
