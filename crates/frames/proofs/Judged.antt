-- Reading contents never answers 1, and accepts all of them. Assumes nothing.
use Rattle.std.specs.Prelude.{Ok, Err}
use mathlib.Core.Path.{◌≡◌, refl}
use mathlib.Core.Bool.{true}
use mathlib.Core.List.{[], ◌∷◌}
use mathlib.Core.Logic.{◌⊎◌, inl, inr, ⊎_elim}
use Prim.Native.Nat.{ℕ, ◌+◌, ◌≤◌}
use native.Mathlib.Omega.{arith}
use borrow.Author.Tests.{leb-true, le-leb}
use lib.Dec.{leb}
use lib.ListN.{length, drop, length-drop}
use Rattle.msgpack_first_bytes.specs.Bytes.{Bytes}
use Rattle.msgpack_first_bytes.proofs.Logic.{impossible}
use Rattle.msgpack_values.specs.Value.{value}
use Rattle.msgpack_values.specs.Spoiled.{no_place}
use Rattle.msgpack_values.specs.declared.OptionalNumber.{OptionalNumber}
use Rattle.msgpack_values.proofs.Local.{value_good}
use Rattle.frames.specs.Limits.{max_depth}
use Rattle.frames.specs.Reading.{refuse_at, refuse, accept, by_places, by_entries, body_value, broken, in_frame}
use Rattle.frames.specs.declared.Frame.{Frame}
use Rattle.frames.specs.declared.FrameAnswer.{FrameAnswer}
use Rattle.frames.proofs.Cascade.{by_check, by_given, by_whole}

-- ---- every way through the contents

body-broken : (t : Bytes) (p : ℕ) → body_value t ≡ Err p → value max_depth t ≡ Err p
unfolding body_value
body-broken [] p e = impossible cc
body-broken (b ∷ t) p e = e

-- header or body: what begins at `at`, or after a whole value there
abbrev pub Begins : Bytes → ℕ → ℕ → Type 0
Begins s at from = (from ≡ at) ⊎ ((h : ℕ) × (value max_depth (drop at s) ≡ Ok h) × (from ≡ at + h))

pub begins_after : (s : Bytes) (at from : ℕ) → Begins s at from → at ≤ from
begins_after s at from b = ⊎_elim (λ e. omega arith) (λ x. let e = x.2 in omega arith) b

pub begins_inside : (s : Bytes) (at from : ℕ) → Begins s at from → at ≤ length s → from ≤ length s
begins_inside s at from b l =
    ⊎_elim (λ e. omega arith) (λ x.
    let i = (value_good max_depth (drop at s) x.0 x.1).0 in
    let j = length-drop at s in
    let e = x.2 in
    omega arith) b

-- 5 to 10, 4 where header or body is broken, or the record
module _ (P : FrameAnswer → Type 0) (s : Bytes) (at : ℕ) (refuses : (k : ℕ) → leb 5 k ≡ true → P (refuse k))
    (breaks : (from p : ℕ) → Begins s at from → value max_depth (drop from s) ≡ Err p → P (broken s from)) (accepts : (r : Frame) → P (accept (length s) r)) where
  pub in_frame_lem : P (in_frame s at)
  unfolding in_frame by_entries by_places
  in_frame_lem =
      by_whole P _ (λ p e. breaks at p (inl refl) e) (λ h e.
      by_whole P _ (λ p f. breaks (at + h) p (inr (h, e, refl)) (body-broken _ p f)) (λ b _.
      by_check P _ (refuses 5 refl) (λ _.
      by_given P _ (refuses 6 refl) (λ hs _.
      by_given P _ (refuses 6 refl) (λ bs _.
      by_check P _ (refuses 7 refl) (λ _.
      by_given P _ (refuses 8 refl) (λ code _.
      by_given P _ (refuses 8 refl) (λ needs _.
      by_check P _ (refuses 9 refl) (λ _.
      by_check P _ (refuses 10 refl) (λ _.
      accepts _))))))))))

-- ---- what they say of the answer

-- an answer on n bytes
pub record Judged (n : ℕ) (a : FrameAnswer) : Type 0 where
  pub settled : a.number ≡ 1 → ⊥
  pub whole : a.number ≡ 0 → a.length ≡ n
  pub none : (a.number ≡ 0 → ⊥) → a.length ≡ 0

refusal : (n k : ℕ) (p : OptionalNumber) → leb 2 k ≡ true → Judged n (refuse_at k p)
refusal n k p h = let l = leb-true 2 k h in record { settled = λ e. omega arith; whole = λ e. absurd (omega arith); none = λ e. refl }

pub judged : (s : Bytes) (at : ℕ) → Judged (length s) (in_frame s at)
unfolding refuse broken accept
judged s at =
    in_frame_lem (Judged (length s)) s at (λ k h. refusal (length s) k no_place (le-leb 2 k (let l = leb-true 5 k h in omega arith)))
    (λ from p _ _. refusal (length s) 4 _ refl) (λ r. record { settled = λ e. omega arith; whole = λ e. refl; none = λ e. absurd (e refl) })
