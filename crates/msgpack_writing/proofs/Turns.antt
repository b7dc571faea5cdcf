-- A turn of each loop that writes. Assumes nothing.
use mathlib.Core.Path.{◌≡◌, ap}
use mathlib.Core.List.{[], ◌∷◌, ◌++◌, append_assoc}
use Prim.Native.Nat.{ℕ, zero, suc, ◌+◌, ◌-◌, ◌<◌, ◌/◌, ◌%◌}
use native.Mathlib.Omega.{arith}
use native.Mathlib.Nat.{zero-add}
use native.Mathlib.Numerals.{add-one}
use lib.ListN.{length, take, drop, set, get_or, length-set}
use lib.Seq.{drop-cons, drop-set-lt, get_or-set_same, paste-suc}
use Rattle.msgpack_first_bytes.specs.Bytes.{Bytes}
use Rattle.msgpack_writing.specs.Forms.{big_endian}

-- a store at j, as the list from j on has it
drop_store : (l : Bytes) (j v : ℕ) → j < length l → drop j (set l j v) ≡ v ∷ drop (j + 1) l
drop_store l j v h =
    let k : j < length (set l j v) = simp length-set h in
    rw (add-one, drop-cons (set l j v) j 0, get_or-set_same l j v 0, drop-set-lt (suc j) l j v (omega arith))

-- a number's loop goes from the last byte to the first: what is still to be written, and what stands after it
pub number_turn : (i high : ℕ) (l : Bytes) → 0 < i → i < length l
    → big_endian (i - 1) (high / 256) ++ drop (i - 1 + 1) (set l (i - 1 + 1) (high % 256)) ≡ big_endian i high ++ drop (i + 1) l
unfolding big_endian
number_turn zero high l h k = absurd (omega arith)
number_turn (suc j) high l h k =
    let e : suc j - 1 ≡ j = omega arith in
    let f : j + 1 ≡ suc j = omega arith in
    rw (e, f, drop_store l (suc j) (high % 256)) (simp append_assoc)

-- and the first byte before it comes last
pub tag_store : (l q : Bytes) (tag : ℕ) → 0 < length l → drop 1 l ≡ q → set l 0 tag ≡ tag ∷ q
tag_store [] q tag h e = absurd (omega arith)
tag_store (b ∷ l) q tag h e = ap (◌∷◌ tag) e

-- a copy's loop goes from the first byte to the last
pub copy_turn : (d s l : Bytes) (i : ℕ) → i < length s → i < length d → l ≡ take i s ++ drop i d
    → set l i (get_or s i 0) ≡ take (i + 1) s ++ drop (i + 1) d
copy_turn d s l i h k e = rw (e, add-one) (simp zero-add at (paste-suc d 0 s i 0 (rw zero-add k) h))
