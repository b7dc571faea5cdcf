-- Decimal numbers: a digit more, and how many there are. Assumes nothing.
use mathlib.Core.Path.{◌≡◌, sym, ap, ◌∙◌}
use mathlib.Core.List.{◌∷◌, ◌++◌, append_assoc}
use Prim.Native.Nat.{ℕ, zero, suc, ◌+◌, ◌-◌, ◌/◌, ◌%◌, ◌^◌, ◌<◌, ◌≤◌}
use native.Mathlib.Omega.{arith}
use borrow.Author.Tests.{lt-ltb, le-ltb}
use lib.Dec.{ltb}
use lib.ListN.{length, drop, set, length-append, length-set}
use lib.Seq.{drop-cons, drop-set-lt, get_or-set_same}
use Rattle.msgpack_first_bytes.specs.Bytes.{Bytes, pick}
use Rattle.msgpack_first_bytes.proofs.Logic.{by_ltb}
use Rattle.frame_listing_fields.specs.Text.{digit, digits, decimal}

-- where f + 1 digits are enough, more change nothing
enough : (f n : ℕ) → n < 10 ^ suc f → digits f n ≡ digits (suc f) n
unfolding digits
enough zero n h = rw (lt-ltb n 10 (omega arith))
enough (suc f) n h = ap (λ (l : Bytes). pick (ltb n 10) (digit n) (l ++ digit (n % 10))) (enough f (n / 10) (omega arith))

-- no digit is left out
pub decimal-more : (n : ℕ) → 10 ≤ n → n < 10 ^ 20 → decimal n ≡ decimal (n / 10) ++ digit (n % 10)
unfolding decimal digits
decimal-more n h k = rw (le-ltb n 10 h) (ap (λ (l : Bytes). l ++ digit (n % 10)) (enough 18 (n / 10) (omega arith)))

pub decimal_digit : (n : ℕ) → n < 10 → decimal n ≡ digit n
unfolding decimal digits
decimal_digit n h = rw (lt-ltb n 10 h)

-- a number below 10 ^ k has at most k digits, and one at least
few-digits : (f k n : ℕ) → n < 10 ^ suc k → length (digits f n) ≤ suc k
unfolding digits
few-digits zero k n h = omega arith
few-digits (suc f) k n h = by_ltb (λ (l : Bytes). length l ≤ suc k) n 10 (λ l. omega arith) (λ l. go k h (λ i e. few-digits f i (n / 10) e) l)
  where
    go : (k : ℕ) → n < 10 ^ suc k → ((i : ℕ) → n / 10 < 10 ^ suc i → length (digits f (n / 10)) ≤ suc i) → 10 ≤ n
        → length (digits f (n / 10) ++ digit (n % 10)) ≤ suc k
    go zero h r l = absurd (omega arith)
    go (suc k) h r l = let m = r k (omega arith) in simp length-append (omega arith)

pub few : (k n : ℕ) → n < 10 ^ suc k → length (decimal n) ≤ suc k
unfolding decimal
few k n h = few-digits 19 k n h

pub some_digit : (n : ℕ) → 1 ≤ length (decimal n)
unfolding decimal digits
some_digit n = by_ltb (λ (l : Bytes). 1 ≤ length l) n 10 (λ l. omega arith) (λ l. simp length-append (omega arith))

-- ---- the loop goes from the last digit to the first

pub store : (l : Bytes) (j v : ℕ) → j < length l → drop j (set l j v) ≡ v ∷ drop (suc j) l
store l j v h =
    let k : j < length (set l j v) = simp length-set h in
    rw (drop-cons (set l j v) j 0, get_or-set_same l j v 0, drop-set-lt (suc j) l j v (omega arith))

module _ (l w : Bytes) (n i : ℕ) (h : i ≤ length l) (k : length (decimal n) ≤ i) (e : decimal n ++ drop i l ≡ w) where
  -- a digit is stored and more are left
  pub turn : 10 ≤ n → n < 10 ^ 20 → (length (decimal (n / 10)) ≤ i - 1) × (decimal (n / 10) ++ drop (i - 1) (set l (i - 1) (48 + n % 10)) ≡ w)
  turn t u =
      let m : decimal n ≡ decimal (n / 10) ++ digit (n % 10) = decimal-more n t u in
      let s = some_digit (n / 10) in
      let z : length (decimal n) ≡ length (decimal (n / 10)) + 1 = ap length m ∙ length-append (decimal (n / 10)) (digit (n % 10)) in
      let j : suc (i - 1) ≡ i = omega arith in (
        omega arith,
        ap (◌++◌ (decimal (n / 10))) (store l (i - 1) (48 + n % 10) (omega arith))
            ∙ rw j (sym (append_assoc (decimal (n / 10)) (digit (n % 10)) (drop i l)))
            ∙ ap (λ (x : Bytes). x ++ drop i l) (sym m)
            ∙ e,
      )

  -- the last one
  pub last : n / 10 ≡ 0 → 0 < i → drop (i - 1) (set l (i - 1) (48 + n % 10)) ≡ w
  last t u =
      let m : decimal n ≡ digit n = decimal_digit n (omega arith) in
      let j : suc (i - 1) ≡ i = omega arith in
      let v : n % 10 ≡ n = omega arith in
      store l (i - 1) (48 + n % 10) (omega arith) ∙ rw (j, v) (ap (λ (x : Bytes). x ++ drop i l) (sym m)) ∙ e
