-- What an entry says: its form, by its digits; which entries single bytes are tested for; the rows of a table. Assumes nothing.
use mathlib.Core.Path.{◌≡◌, sym, ap}
use mathlib.Core.Bool.{Bool, true, false}
use mathlib.Core.List.{List}
use Prim.Native.Nat.{ℕ, ◌+◌, ◌*◌, ◌/◌, ◌<◌, ◌≤◌}
use native.Mathlib.Omega.{arith}
use borrow.Author.Tests.{le-leb, lt-leb, eq-eqb, ne_eqb}
use lib.Dec.{T, leb, leb→le, ltb, eqb}
use Rattle.msgpack_first_bytes.specs.Bytes.{pick}
use Rattle.msgpack_first_bytes.specs.FirstByte.{form_of}
use Rattle.msgpack_first_bytes.specs.Entry.{entry_by, length_bytes, kind_digit, fixed_payload, entry_of, Told, positive_fixint, common_length}
use Rattle.msgpack_first_bytes.specs.Rows.{four, row_of}
use Rattle.msgpack_first_bytes.specs.declared.Form.{Form}
use Rattle.msgpack_first_bytes.specs.declared.Form.TheVariants.{Unused, Scalar, Array, Map}
use Rattle.msgpack_first_bytes.proofs.Logic.{by_leb, by_eqb}
use Rattle.msgpack_first_bytes.proofs.Range.{both, both_left, both_right, agree_tests}
use Rattle.msgpack_first_bytes.proofs.Forms.{kind_at, agree, every, each_form}

-- a form from its kind's digit, its length bytes and its fixed payload
abbrev pub form_by : ℕ → ℕ → ℕ → Form
form_by k w f = pick (leb k 8) (Scalar (kind_at k) w f) (pick (eqb k 9) (Array w f) (pick (eqb k 10) (Map w f) Unused))

-- an entry says its form
module _ (b e : ℕ) (q : e ≡ entry_of b) where
  pub said : form_by (kind_digit e) (length_bytes e) (fixed_payload e) ≡ form_of b
  unfolding entry_of entry_by form_of
  said =
      rw q
      (every (λ h. form_by (kind_digit (entry_by h)) (length_bytes (entry_by h)) (fixed_payload (entry_by h)) ≡ h)
      (λ b l. agree (λ b. form_by (kind_digit (entry_of b)) (length_bytes (entry_of b)) (fixed_payload (entry_of b))) form_of 0 256 tt l (omega arith)) b)

  pub scalar_said : kind_digit e < 9 → Scalar (kind_at (kind_digit e)) (length_bytes e) (fixed_payload e) ≡ form_of b
  scalar_said k = rw (le-leb (kind_digit e) 8 (omega arith)) at said

  pub array_said : kind_digit e ≡ 9 → Array (length_bytes e) (fixed_payload e) ≡ form_of b
  array_said k = rw k at said

  pub map_said : kind_digit e ≡ 10 → Map (length_bytes e) (fixed_payload e) ≡ form_of b
  map_said k = rw k at said

  pub unused_said : 10 < kind_digit e → Unused ≡ form_of b
  unused_said k = rw (lt-leb (kind_digit e) 8 (omega arith), ne_eqb (kind_digit e) 9 (λ z. omega arith), ne_eqb (kind_digit e) 10 (λ z. omega arith)) at said

-- which first bytes have the entry of a number from 0 to 127
pub positive_fixint_lem : {b : ℕ} → b < 256 → ltb b 0x80 ≡ eqb (entry_of b) positive_fixint
unfolding entry_of entry_by form_of
positive_fixint_lem {b} h = agree_tests (λ b. ltb b 0x80) (λ b. eqb (entry_of b) positive_fixint) 0 256 tt {b = b} h (omega arith)

-- no length bytes and the kind of an array: a short array, of as many values as the last two digits say
pub short-array_said : (b e : ℕ) → e ≡ entry_of b → e / 256 ≡ 9 → form_of b ≡ Array 0 (fixed_payload e)
short-array_said b e q n =
    let k : kind_digit e ≡ 9 = omega arith in
    let w : length_bytes e ≡ 0 = omega arith in
    sym (rw w at (array_said b e q k))

-- an entry with length bytes: 1, 2 or 4 of them, and nothing fixed but an ext's type
abbrev wide : ℕ → Bool
wide e = pick (leb 1 (length_bytes e)) (both (leb (length_bytes e) 4) (both (pick (eqb (length_bytes e) 3) false true) (leb (fixed_payload e) (pick (leb 9 (kind_digit e)) 0 1)))) true

wide_at : (b : ℕ) → T (wide (entry_of b))
unfolding entry_of entry_by form_of
wide_at = each_form (λ h. wide (entry_by h)) tt

pub record Wide (e : ℕ) : Type 0 where
  pub most : length_bytes e ≤ 4
  pub not_three : length_bytes e ≡ 3 → ⊥
  pub fixed : fixed_payload e ≤ 1
  pub none : 9 ≤ kind_digit e → fixed_payload e ≡ 0

pub wide_said : (b e : ℕ) → e ≡ entry_of b → 1 ≤ length_bytes e → Wide e
wide_said b e q h = go (rw (le-leb 1 (length_bytes e) h) at (rw (sym q) at (wide_at b)))
  where
    go : T (both (leb (length_bytes e) 4) (both (pick (eqb (length_bytes e) 3) false true) (leb (fixed_payload e) (pick (leb 9 (kind_digit e)) 0 1)))) → Wide e
    go t =
        let u = both_right (leb (length_bytes e) 4) _ t in
        let f = leb→le (fixed_payload e) (pick (leb 9 (kind_digit e)) 0 1) (both_right (pick (eqb (length_bytes e) 3) false true) _ u) in
        record {
          most = leb→le (length_bytes e) 4 (both_left (leb (length_bytes e) 4) _ t);
          not_three = λ z. rw (eq-eqb (length_bytes e) 3 z) at (both_left (pick (eqb (length_bytes e) 3) false true) _ u);
          fixed = by_leb (λ n. fixed_payload e ≤ n → fixed_payload e ≤ 1) 9 (kind_digit e) (λ _ l. omega arith) (λ _ l. l) f;
          none = λ k. let g = rw (le-leb 9 (kind_digit e) k) at f in omega arith;
        }

pub unused_entry : (b : ℕ) → Unused ≡ form_of b → entry_of b ≡ 0x0f00
unfolding entry_of entry_by
unused_entry b e = ap entry_by (sym e)

-- the length of an integer or a short string is its first byte and what is due by it
pub common_said : (e k : ℕ) → k ≡ common_length e → 0 < k → (e < 0x900) × (k ≡ 1 + fixed_payload e)
unfolding common_length
common_said e k =
    by_eqb P (e / 256) 2 (λ z q h. (omega arith, q))
    (λ n. by_eqb P (e / 256) 3 (λ z q h. (omega arith, q)) (λ n. by_eqb P (e / 256) 6 (λ z q h. (omega arith, q)) (λ n q h. absurd (omega arith))))
  where
    P : ℕ → Type 0
    P m = k ≡ m → 0 < k → (e < 0x900) × (k ≡ 1 + fixed_payload e)

-- ---- rows of four entries

-- a table that says what the decision says has the rows of the decision
pub row_told : (t : List ℕ) {k r : ℕ} → Told t → (n : ℕ) → n < 32 → k ≡ n → r ≡ four t (0x80 + 4 * n) → r ≡ row_of k
unfolding four row_of Told
row_told t told n h e q =
    rw (e, ← told (0x80 + 4 * n) (omega arith), ← told (0x80 + 4 * n + 1) (omega arith), ← told (0x80 + 4 * n + 2) (omega arith), ← told (0x80 + 4 * n + 3) (omega arith)) q
