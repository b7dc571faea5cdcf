-- A case that cannot be, and a choice by a test. Assumes nothing.
use Rattle.std.specs.Prelude.{Result, Ok, Err, IsErrAnd}
use mathlib.Core.Path.{◌≡◌, refl, ap}
use mathlib.Core.Bool.{Bool, true, false, ◌&&◌}
use mathlib.Core.Logic.{◌⊎◌, inl, inr, ⊎_elim}
use Prim.Native.Nat.{ℕ, ◌<◌, ◌≤◌}
use native.Mathlib.Omega.{arith}
use borrow.Author.Tests.{leb-true, leb-false, ltb-true, ltb-false, eqb-true, eqb-false}
use lib.Dec.{leb, ltb, eqb}
use Rattle.msgpack_first_bytes.specs.Bytes.{pick}

-- of two constructors that would be equal, `cc` shows this
pub impossible : {A : Type 0} → ◌≡◌ {A = ℕ} 0 1 → A
impossible z = absurd (omega arith)

-- a rule of what a test chooses, shown in each of the two cases
module _ {A : Type 0} (P : A → Type 0) {x y : A} where
  by : (t : Bool) → (t ≡ true → P x) → (t ≡ false → P y) → P (pick t x y)
  by true f g = f refl
  by false f g = g refl

  pub by_leb : (a b : ℕ) → (a ≤ b → P x) → (b < a → P y) → P (pick (leb a b) x y)
  by_leb a b f g = by (leb a b) (λ e. f (leb-true a b e)) (λ e. g (leb-false a b e))

  pub by_ltb : (a b : ℕ) → (a < b → P x) → (b ≤ a → P y) → P (pick (ltb a b) x y)
  by_ltb a b f g = by (ltb a b) (λ e. f (ltb-true a b e)) (λ e. g (ltb-false a b e))

  pub by_eqb : (a b : ℕ) → (a ≡ b → P x) → ((a ≡ b → ⊥) → P y) → P (pick (eqb a b) x y)
  by_eqb a b f g = by (eqb a b) (λ e. f (eqb-true a b e)) (λ e. g (eqb-false a b e))

pub either : (a b : ℕ) → (a ≤ b) ⊎ (b < a)
either a b = go (leb a b) refl
  where
    go : (t : Bool) → leb a b ≡ t → (a ≤ b) ⊎ (b < a)
    go true e = inl (leb-true a b e)
    go false e = inr (leb-false a b e)

pub equal : (a b : ℕ) → (a ≡ b) ⊎ (a ≡ b → ⊥)
equal a b = ⊎_elim (λ h. ⊎_elim (λ l. inl (omega arith)) (λ l. inr (λ e. omega arith)) (either b a)) (λ h. inr (λ e. omega arith)) (either a b)

-- both of two tests
pub ands : (a b : Bool) → (a && b) ≡ true → (a ≡ true) × (b ≡ true)
ands true b e = (refl, e)
ands false b e = impossible cc

-- what the exit of a `?` answers is the error that it found
pub error_left : {A E : Type 0} (r : Result A E) (e : E) → IsErrAnd r (λ d. d ≡ e) → r ≡ Err e
error_left (Ok a) e h = absurd h
error_left (Err d) e h = ap Err h
