-- A rule at every number of a range, by one test that antt computes. Assumes nothing.
use mathlib.Core.Path.{◌≡◌, refl, subst, sym, ◌∙◌}
use mathlib.Core.Bool.{Bool, true, false}
use mathlib.Core.Logic.{⊎_elim}
use mathlib.Core.List.{List, [], ◌∷◌}
use Prim.Native.Nat.{ℕ, zero, suc, ◌+◌, ◌<◌, ◌≤◌}
use native.Mathlib.Nat.{eq-or-lt_of_le, add-zero, zero-add, add-suc, suc-add, le_of_suc-le-suc, not-suc-le-zero}
use native.Mathlib.Omega.{arith}
use borrow.Author.Tests.{ne_eqb}
use lib.Dec.{T, eqb, eqb→eq}
use lib.ListN.{length, get_or}
use Rattle.msgpack_first_bytes.specs.Bytes.{pick}

abbrev pub both : Bool → Bool → Bool
both true b = b
both false b = false

pub both_left : (a b : Bool) → T (both a b) → T a
both_left true b t = tt
both_left false b t = t

pub both_right : (a b : Bool) → T (both a b) → T b
both_right true b t = t
both_right false b t = absurd t

-- the test passes at each of the n numbers from lo
abbrev pub all : (ℕ → Bool) → ℕ → ℕ → Bool
all p lo zero = true
all p lo (suc n) = both (p lo) (all p (suc lo) n)

pub all-at : (p : ℕ → Bool) (lo n : ℕ) → T (all p lo n) → {b : ℕ} → b < lo + n → lo ≤ b → T (p b)
all-at p lo zero t k h = absurd (let z : ⊥ = omega arith in z)
all-at p lo (suc n) t k h =
    ⊎_elim (λ e. subst (λ (m : ℕ). T (p m)) e (both_left (p lo) (all p (suc lo) n) t))
    (λ l. all-at p (suc lo) n (both_right (p lo) (all p (suc lo) n) t) (omega arith) l)
    (eq-or-lt_of_le h)

-- two functions agree at each of the n numbers from lo
pub agrees : (f g : ℕ → ℕ) (lo n : ℕ) → T (all (λ b. eqb (f b) (g b)) lo n) → {b : ℕ} → b < lo + n → lo ≤ b → f b ≡ g b
agrees f g lo n t {b} k h = eqb→eq (f b) (g b) (all-at (λ b. eqb (f b) (g b)) lo n t k h)

-- .. and two tests
abbrev pub alike : Bool → Bool → Bool
alike true b = b
alike false true = false
alike false false = true

alike_eq : (a b : Bool) → T (alike a b) → a ≡ b
alike_eq true true t = refl
alike_eq true false t = absurd t
alike_eq false true t = absurd t
alike_eq false false t = refl

pub agree_tests : (p q : ℕ → Bool) (lo n : ℕ) → T (all (λ b. alike (p b) (q b)) lo n) → {b : ℕ} → b < lo + n → lo ≤ b → p b ≡ q b
agree_tests p q lo n t {b} k h = alike_eq (p b) (q b) (all-at (λ b. alike (p b) (q b)) lo n t k h)

-- two tests that pass together are the same
pub tests_same : (a b : Bool) → (T a → T b) → (T b → T a) → a ≡ b
tests_same true true f g = refl
tests_same true false f g = absurd (f tt)
tests_same false true f g = absurd (g tt)
tests_same false false f g = refl

-- a test that passes at each number below n
pub below_at : (p : ℕ → Bool) {n b : ℕ} → b < n → T (all p 0 n) → T (p b)
below_at p {n} {b} h t = all-at p 0 n t (omega arith) (omega arith)

-- the test passes at each entry of a table, by its place, counted from i
abbrev pub each : (ℕ → ℕ → Bool) → ℕ → List ℕ → Bool
each p i [] = true
each p i (x ∷ xs) = both (p i x) (each p (suc i) xs)

each_from : (p : ℕ → ℕ → Bool) (xs : List ℕ) (i : ℕ) → T (each p i xs) → (k : ℕ) → k < length xs → T (p (i + k) (get_or xs k 0))
each_from p [] i t k h = absurd (not-suc-le-zero h)
each_from p (x ∷ xs) i t zero h = subst (λ (m : ℕ). T (p m x)) (sym (add-zero i)) (both_left (p i x) (each p (suc i) xs) t)
each_from p (x ∷ xs) i t (suc k) h =
    subst (λ (m : ℕ). T (p m (get_or xs k 0))) (suc-add i k ∙ sym (add-suc i k))
    (each_from p xs (suc i) (both_right (p i x) (each p (suc i) xs) t) k (le_of_suc-le-suc h))

pub each_at : (p : ℕ → ℕ → Bool) (xs : List ℕ) → T (each p 0 xs) → (k : ℕ) → k < length xs → T (p k (get_or xs k 0))
each_at p xs t k h = subst (λ (m : ℕ). T (p m (get_or xs k 0))) (zero-add k) (each_from p xs 0 t k h)

-- ---- the last arm of a match

-- b is none of a list, as that arm knows it
abbrev pub Others : List ℕ → ℕ → Type 0
Others [] b = Unit {0}
Others (x ∷ l) b = Others l b × (b ≡ x → ⊥)

-- b is listed, or the test passes
abbrev pub listed_or : List ℕ → Bool → ℕ → Bool
listed_or [] t b = t
listed_or (x ∷ l) t b = pick (eqb b x) true (listed_or l t b)

others_pass : (l : List ℕ) (t : Bool) (b : ℕ) → Others l b → T (listed_or l t b) → T t
others_pass [] t b o p = p
others_pass (x ∷ l) t b o p = others_pass l t b o.0 (rw (ne_eqb b x o.1) at p)

-- the numbers below n, the greatest first, as the arms 0 to n - 1 leave them
abbrev pub below : ℕ → List ℕ
below zero = []
below (suc n) = n ∷ below n

-- the test passes at each number below m but those below n
pub other_at : (p : ℕ → Bool) (n m : ℕ) → T (all (λ b. listed_or (below n) (p b) b) 0 m) → (b : ℕ) → b < m → Others (below n) b → T (p b)
other_at p n m t b h o = others_pass (below n) (p b) b o (all-at (λ b. listed_or (below n) (p b) b) 0 m t (omega arith) (omega arith))
