-- A frame that was read has two bytes at least, and no more than there are. Assumes nothing.
use Rattle.std.specs.Prelude.{Ok, Err}
use mathlib.Core.Path.{◌≡◌, refl}
use mathlib.Core.Bool.{Bool, true, false}
use Prim.Native.Nat.{ℕ, ◌+◌, ◌≤◌}
use native.Mathlib.Omega.{arith}
use borrow.Author.Tests.{leb-true, eqb-true, eqb-false}
use lib.Dec.{leb, eqb}
use lib.ListN.{length, take}
use lib.Seq.{length-take-le}
use Rattle.msgpack_first_bytes.specs.Bytes.{Bytes}
use Rattle.frames.specs.Cascade.{check}
use Rattle.frames.specs.Reading.{refuse, in_frame, by_size, size_of, frame_read, Size}
use Rattle.frames.specs.declared.FrameAnswer.{FrameAnswer}
use Rattle.frames.proofs.Sizes.{Told, size_told}
use Rattle.frames.proofs.Judged.{Judged, judged}

-- an answer on n bytes; l of them at least where it is no refusal
pub record Within (l n : ℕ) (a : FrameAnswer) : Type 0 where
  pub fits : a.length ≤ n
  pub least : a.number ≡ 0 → l ≤ a.length

refusal : {l n : ℕ} (k : ℕ) → (k ≡ 0 → ⊥) → Within l n (refuse k)
unfolding refuse
refusal k h = record { fits = omega arith; least = λ e. absurd (h e) }

contents : {l n m : ℕ} (a : FrameAnswer) → Judged m a → l ≤ m → m ≤ n → Within l n a
contents {l} {n} {m} a j p q = go (eqb a.number 0) refl
  where
    go : (b : Bool) → eqb a.number 0 ≡ b → Within l n a
    go true e = let w = j.whole (eqb-true a.number 0 e) in record { fits = omega arith; least = λ _. omega arith }
    go false e = let z = eqb-false a.number 0 e in let w = j.none z in record { fits = omega arith; least = λ y. absurd (z y) }

pub frame-within : (s : Bytes) → Within 2 (length s) (frame_read s)
unfolding frame_read by_size check
frame-within s = go (size_of s) (size_told s)
  where
    by_end : (n k : ℕ) → Told s (Ok (n, k)) → (b : Bool) → leb (k + n) (length s) ≡ b → Within 2 (length s) (check (refuse 1) b (in_frame (take (k + n) s) k))
    by_end n k t true e =
        let i = t.0.0 in
        let j = t.1.some in
        let h = leb-true (k + n) (length s) e in
        let l = length-take-le (k + n) s h in
        contents _ (judged (take (k + n) s) k) (omega arith) (omega arith)
    by_end n k t false e = refusal 1 (λ e. omega arith)

    go : (z : Size) → Told s z → Within 2 (length s) (by_size s z)
    go (Err (n, k)) t = refusal n (λ e. let m = (t.1 (λ q. omega arith)).0 in omega arith)
    go (Ok (n, k)) t = by_end n k t (leb (k + n) (length s)) refl
