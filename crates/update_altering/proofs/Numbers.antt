-- Computed numbers, written behind the bytes that are in use. Assumes nothing.
use Rattle.std.specs.Prelude.{Ok, Err}
use mathlib.Core.Path.{◌≡◌, ◌∙◌}
use mathlib.Core.Logic.{⊎_elim}
use Prim.Native.Nat.{ℕ, ◌+◌, ◌<◌, ◌≤◌}
use native.Mathlib.Omega.{arith}
use borrow.Author.Tests.{le-leb, lt-leb}
use lib.ListN.{length}
use Rattle.msgpack_first_bytes.specs.Bytes.{Bytes}
use Rattle.msgpack_first_bytes.proofs.Logic.{either}
use Rattle.msgpack_scalars.specs.declared.Int.{Int, TheVariants.FromZero, TheVariants.BelowZero}
use Rattle.msgpack_writing.specs.Put.{next, Writes}
use Rattle.msgpack_writing.specs.Put as Writing
use Rattle.msgpack_writing.proofs.Lengths.{Long, unsigned-long, negative_long}
use Rattle.msgpack_read_back.specs.Claims.{integer_form, InRange}
use Rattle.tuples.specs.Limits.{max_tuple}
use Rattle.tuples.specs.Edit.{put}
use Rattle.update_altering.specs.Altering.{Alters}
use Rattle.update_altering.proofs.Edits.{put_full, put_is}
use Rattle.update_altering.specs.declared.Obstacle.TheVariants.{Full}

integer-long : (z : Int) → InRange z → Long 9 (integer_form z)
integer-long (FromZero n) h = unsigned-long n
integer-long (BelowZero m) h = negative_long m h

module _ (z : Int) (work : Bytes) (used : ℕ) (i : InRange z) {e : ℕ} {left : Bytes} (h : Writes used (integer_form z) e work left) where
  abbrev b : Bytes
  b = integer_form z

  few : length b ≤ max_tuple
  few = let l = integer-long z i in omega arith

  room : used + length b ≤ length work → e ≡ used + length b
  unfolding next
  room k = h.0 ∙ rw (le-leb (used + length b) (length work) k)

  none_left : length work < used + length b → (e ≡ used) × (left ≡ work)
  unfolding next Writing.put
  none_left k = (h.0 ∙ rw (lt-leb (used + length b) (length work) k), h.1 ∙ rw (lt-leb (used + length b) (length work) k))

  pub number-none : e ≡ used → Alters (put 0 b) used (Err Full) work left
  number-none q =
      ⊎_elim (λ k. let r = room k in let l = integer-long z i in absurd (omega arith)) (λ k. rw (none_left k).1 (put_full b work used few k))
      (either (used + length b) (length work))

  pub number_is : (e ≡ used → ⊥) → Alters (put 0 b) used (Ok e) work left
  number_is q = ⊎_elim (λ k. put_is b work used few k h) (λ k. absurd (q (none_left k).0)) (either (used + length b) (length work))
