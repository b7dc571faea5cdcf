-- Big-endian numbers: the sum by powers of 256, a byte at a time, over the width. Assumes nothing.
use Rattle.std.specs.Prelude.{Some, None}
use mathlib.Core.Path.{◌≡◌, refl, sym, ◌∙◌}
use mathlib.Core.Bool.{Bool, true, false, ◌&&◌}
use mathlib.Core.Logic.{⊎_elim}
use mathlib.Core.List.{[], ◌∷◌, ◌++◌}
use Prim.Native.Nat.{ℕ, ◌+◌, ◌*◌, ◌^◌, ◌<◌, ◌≤◌}
use native.Mathlib.Nat.{add-zero, mul_assoc}
use native.Mathlib.Omega.{arith}
use native.Mathlib.Numerals.{add-one}
use lib.ListN.{length, length-append, length-drop, get_or, take, drop}
use lib.Seq.{take-suc, get_or-drop, drop-append_seam, take-append_seam}
use borrow.Author.Tests.{leb-true, le-leb}
use lib.Dec.{leb}
use lib.Arith.{digits_lt}
use lib.Pow.{pow-add, pow_mono}
use Rattle.msgpack_first_bytes.specs.Bytes.{Bytes, pick}
use Rattle.msgpack_numbers.specs.Number.{number, number_at}
use Rattle.msgpack_first_bytes.proofs.Logic.{impossible, either}

-- one byte more at the low end
pub number-last : (s : Bytes) (b : ℕ) → number (s ++ (b ∷ [])) ≡ number s * 256 + b
unfolding number
number-last [] b = omega arith
number-last (x ∷ s) b =
    let e : number (s ++ (b ∷ [])) ≡ number s * 256 + b = number-last s b in
    let l : length (s ++ (b ∷ [])) ≡ length s + 1 = length-append s (b ∷ []) in
    let p : 256 ^ (length s + 1) ≡ 256 ^ length s * 256 = pow-add 256 (length s) 1 in
    let q : x * 256 ^ length s * 256 ≡ x * (256 ^ length s * 256) = mul_assoc x (256 ^ length s) 256 in
    rw (e, l, p) (omega (arith, q))

-- the first i + 1 bytes
pub number_suc : (s : Bytes) (i : ℕ) → i < length s → number (take (i + 1) s) ≡ number (take i s) * 256 + get_or s i 0
number_suc s i h = rw (add-one, take-suc s i 0 h, number-last)

-- .. from a place on
pub number-next : (s : Bytes) (at i : ℕ) → at + i < length s
    → number (take (i + 1) (drop at s)) ≡ number (take i (drop at s)) * 256 + get_or s (at + i) 0
number-next s at i h =
    let d : i < length (drop at s) = simp length-drop (omega arith) in
    rw (number_suc (drop at s) i d, get_or-drop)

pub grow : {n b : ℕ} (i : ℕ) → n < 2 ^ (8 * i) → b < 256 → n * 256 + b < 2 ^ (8 * (i + 1))
grow {n} {b} i h k =
    let e : 8 * (i + 1) ≡ 8 * i + 8 = omega arith in
    rw (e, pow-add 2 (8 * i) 8) (digits_lt h k)

pub small : (n i k : ℕ) → i ≤ k → n < 2 ^ (8 * i) → n < 2 ^ (8 * k)
small n i k h l = let m : 2 ^ (8 * i) ≤ 2 ^ (8 * k) = pow_mono (omega arith) in omega arith

-- a number of w bytes, from its first byte on, one byte after the other
pub number-first : (s : Bytes) (at w n : ℕ) → at < length s → w ≡ 1 → n ≡ 0 * 256 + get_or s at 0 → n ≡ number (take w (drop at s))
unfolding number
number-first s at w n h e q = rw e (q ∙ sym (rw add-zero at (number-next s at 0 (omega arith))))

pub number_step : (s : Bytes) (at i w n m : ℕ) → at + i < length s → w ≡ i + 1 → n ≡ number (take i (drop at s)) → m ≡ n * 256 + get_or s (at + i) 0
    → m ≡ number (take w (drop at s))
number_step s at i w n m h e p q = rw (e, number-next s at i h, ← p) q

-- what the answer of `number_at` says
pub number_missing : (w at : ℕ) (s : Bytes) → w ≤ 8 → None ≡ number_at w at s → length s < at + w
number_missing w at s h e =
    ⊎_elim (λ l. impossible (let q = simp (le-leb w 8 h, le-leb (at + w) (length s) l) at e in cc)) (λ l. l) (either (at + w) (length s))

pub number_is : (w at n : ℕ) (s : Bytes) → Some n ≡ number_at w at s → (at + w ≤ length s) × (n ≡ number (take w (drop at s)))
number_is w at n s e = go (leb w 8) (leb (at + w) (length s)) refl e
  where
    go : (a b : Bool) → leb (at + w) (length s) ≡ b → Some n ≡ pick (a && b) (Some (number (take w (drop at s)))) None
        → (at + w ≤ length s) × (n ≡ number (take w (drop at s)))
    go true true q e = (leb-true (at + w) (length s) q, cc)
    go true false q e = impossible cc
    go false b q e = impossible cc

-- bytes that stand anywhere, in every width: their sum by powers of 256
pub number_there : (s bs t : Bytes) → length bs ≤ 8 → number_at (length bs) (length s) (s ++ (bs ++ t)) ≡ Some (number bs)
number_there s bs t h =
    let l : length s + length bs ≤ length (s ++ (bs ++ t)) = simp length-append (omega arith) in
    simp (le-leb (length bs) 8 h, le-leb (length s + length bs) (length (s ++ (bs ++ t))) l, drop-append_seam, take-append_seam)
