-- How long the forms are. Assumes nothing.
use mathlib.Core.Path.{◌≡◌, refl, sym, ap, ◌∙◌}
use mathlib.Core.Bool.{Bool, true, false}
use mathlib.Core.List.{List, [], ◌∷◌}
use Prim.Native.Nat.{ℕ, zero, suc, ◌+◌, ◌^◌, ◌<◌, ◌≤◌, ◌/◌}
use native.Mathlib.Omega.{arith}
use borrow.Author.Tests.{lt-ltb, le-ltb}
use lib.Dec.{T, leb, ltb, leb→le}
use lib.ListN.{length, length-append}
use Rattle.msgpack_first_bytes.specs.Bytes.{Bytes, pick}
use Rattle.msgpack_first_bytes.proofs.Range.{both, both_left, both_right}
use Rattle.msgpack_writing.specs.Forms.{big_endian, tagged, unsigned_form, negative_form, string_header, count_header, array_header, map_header}
use Rattle.msgpack_first_bytes.proofs.Logic.{by_ltb}

pub length-big_endian : (w n : ℕ) → length (big_endian w n) ≡ w
unfolding big_endian
length-big_endian zero n = refl
length-big_endian (suc w) n = let e : length (big_endian w (n / 256)) ≡ w = length-big_endian w (n / 256) in simp length-append (omega arith)

pub length-tagged : (tag w n : ℕ) → length (tagged tag w n) ≡ w + 1
length-tagged tag w n = omega (arith, length-big_endian w n)

-- what the width says of a form that is known as a first byte and a number
pub head-length : (tag w n : ℕ) {p : Bytes} → tagged tag w n ≡ p → w + 1 ≡ length p
head-length tag w n e = sym (length-tagged tag w n) ∙ ap length e

-- ---- a length that goes up in steps: the first whose bound is above n, else the last

abbrev steps : List (ℕ × ℕ) → ℕ → ℕ → ℕ
steps [] last n = last
steps (s ∷ l) last n = pick (ltb n s.0) s.1 (steps l last n)

abbrev lowest : List (ℕ × ℕ) → ℕ → ℕ
lowest [] last = last
lowest (s ∷ l) last = s.1

-- each is no longer than the next: one test for a whole list
abbrev rising : List (ℕ × ℕ) → ℕ → Bool
rising [] last = true
rising (s ∷ l) last = both (leb s.1 (lowest l last)) (rising l last)

module _ (last : ℕ) where
  first_rises : (s : ℕ × ℕ) (l : List (ℕ × ℕ)) → T (rising (s ∷ l) last) → (s.1 ≤ lowest l last) × T (rising l last)
  first_rises s l t =
      let a = leb s.1 (lowest l last) in
      (leb→le s.1 (lowest l last) (both_left a (rising l last) t), both_right a (rising l last) t)

  between : (l : List (ℕ × ℕ)) → T (rising l last) → (n : ℕ) → (lowest l last ≤ steps l last n) × (steps l last n ≤ last)
  between [] t n = (omega arith, omega arith)
  between (s ∷ l) t n =
      let h = first_rises s l t in
      let k = between l h.1 n in
      by_ltb (λ (m : ℕ). (s.1 ≤ m) × (m ≤ last)) n s.0 (λ _. (omega arith, omega arith)) (λ _. (omega arith, omega arith))

  steps_rise : (l : List (ℕ × ℕ)) → T (rising l last) → (n m : ℕ) → n ≤ m → steps l last n ≤ steps l last m
  steps_rise [] t n m h = omega arith
  steps_rise (s ∷ l) t n m h =
      let r = first_rises s l t in
      let k = between l r.1 m in
      let ih = steps_rise l r.1 n m h in
      by_ltb (λ (k : ℕ). pick (ltb n s.0) s.1 (steps l last n) ≤ k) m s.0 (λ g. rw (lt-ltb n s.0 (omega arith)) (omega arith))
      (λ g. by_ltb (λ (k : ℕ). k ≤ steps l last m) n s.0 (λ _. omega arith) (λ _. ih))

length-pick : (t : Bool) (x y : Bytes) → length (pick t x y) ≡ pick t (length x) (length y)
length-pick true x y = refl
length-pick false x y = refl

-- p has a byte at least, and k at most
abbrev pub Long : ℕ → Bytes → Type 0
Long k p = (1 ≤ length p) × (length p ≤ k)

-- a form whose length goes up so, for the numbers that have one
record Stepped (last : ℕ) (form : ℕ → Bytes) (P : ℕ → Type 0) : Type 0 where
  list : List (ℕ × ℕ)
  rises : T (rising ((0, 1) ∷ list) last)
  is : (n : ℕ) → P n → length (form n) ≡ steps list last n

module _ {last : ℕ} {form : ℕ → Bytes} {P : ℕ → Type 0} (f : Stepped last form P) where
  long : (n : ℕ) → P n → Long last (form n)
  long n p =
      let h = first_rises last (0, 1) f.list f.rises in
      let k = between last f.list h.1 n in
      let e = f.is n p in
      (omega arith, omega arith)

  -- a larger number has no shorter form
  mono : (n m : ℕ) → P n → P m → n ≤ m → length (form n) ≤ length (form m)
  mono n m p q h = rw (f.is n p, f.is m q) (steps_rise last f.list (first_rises last (0, 1) f.list f.rises).1 n m h)

abbrev Any : ℕ → Type 0
Any n = Unit {0}

unsigned-steps : Stepped 9 unsigned_form Any
unfolding unsigned_form big_endian
unsigned-steps = record { list = (128, 1) ∷ (2 ^ 8, 2) ∷ (2 ^ 16, 3) ∷ (2 ^ 32, 5) ∷ []; rises = tt; is = λ n _. simp length-pick }

pub unsigned-long : (n : ℕ) → Long 9 (unsigned_form n)
unsigned-long n = long unsigned-steps n tt

pub unsigned_mono : (n m : ℕ) → n ≤ m → length (unsigned_form n) ≤ length (unsigned_form m)
unsigned_mono n m = mono unsigned-steps n m tt tt

negative_steps : Stepped 9 negative_form (λ m. m < 2 ^ 63)
unfolding negative_form big_endian
negative_steps =
    record {
      list = (32, 1) ∷ (2 ^ 7, 2) ∷ (2 ^ 15, 3) ∷ (2 ^ 31, 5) ∷ [];
      rises = tt;
      is = λ m h. simp (length-pick, lt-ltb m (2 ^ 63) h);
    }

pub negative_long : (m : ℕ) → m < 2 ^ 63 → Long 9 (negative_form m)
negative_long = long negative_steps

pub negative_mono : (n m : ℕ) → n ≤ m → m < 2 ^ 63 → length (negative_form n) ≤ length (negative_form m)
negative_mono n m h k = mono negative_steps n m (omega arith) k h

-- below -2^63 there is none
pub negative_none : (m : ℕ) → 2 ^ 63 ≤ m → negative_form m ≡ []
unfolding negative_form
negative_none m h =
    simp (le-ltb m 32 (omega arith), le-ltb m (2 ^ 7) (omega arith), le-ltb m (2 ^ 15) (omega arith), le-ltb m (2 ^ 31) (omega arith), le-ltb m (2 ^ 63) h)

string-steps : Stepped 5 string_header Any
unfolding string_header big_endian
string-steps = record { list = (32, 1) ∷ (2 ^ 8, 2) ∷ (2 ^ 16, 3) ∷ []; rises = tt; is = λ n _. simp length-pick }

pub string-long : (n : ℕ) → Long 5 (string_header n)
string-long n = long string-steps n tt

pub string_mono : (n m : ℕ) → n ≤ m → length (string_header n) ≤ length (string_header m)
string_mono n m = mono string-steps n m tt tt

count-steps : (short long : ℕ) → Stepped 5 (count_header short long) Any
unfolding big_endian
count-steps short long = record { list = (16, 1) ∷ (2 ^ 16, 3) ∷ []; rises = tt; is = λ n _. simp length-pick }

pub array_long : (n : ℕ) → Long 5 (array_header n)
unfolding array_header
array_long n = long (count-steps 0x90 0xdc) n tt

pub array_mono : (n m : ℕ) → n ≤ m → length (array_header n) ≤ length (array_header m)
unfolding array_header
array_mono n m = mono (count-steps 0x90 0xdc) n m tt tt

pub map_mono : (n m : ℕ) → n ≤ m → length (map_header n) ≤ length (map_header m)
unfolding map_header
map_mono n m = mono (count-steps 0x80 0xde) n m tt tt
