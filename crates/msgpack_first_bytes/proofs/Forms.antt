-- Two functions to forms are equal on a range where antt computes that they are; what it computes of all bytes' forms holds of every number's. Assumes nothing.
use mathlib.Core.Path.{◌≡◌, refl, sym, ap, ap₂, subst, ◌∙◌}
use mathlib.Core.Bool.{Bool, true, false}
use mathlib.Core.List.{List, [], ◌∷◌}
use mathlib.Core.Logic.{⊎_elim}
use Prim.Native.Nat.{ℕ, ◌+◌, ◌-◌, ◌*◌, ◌<◌, ◌≤◌}
use native.Mathlib.Omega.{arith}
use borrow.Author.Tests.{lt-leb}
use lib.Dec.{T, leb, eqb, eqb→eq}
use lib.ListN.{get_or}
use Rattle.msgpack_first_bytes.specs.FirstByte.{form_of, kind_no}
use Rattle.msgpack_first_bytes.specs.declared.Kind.{Kind}
use Rattle.msgpack_first_bytes.specs.declared.Kind.TheVariants.{Nil, Boolean, Unsigned, Signed, Float32, Float64, String, Bin, Ext}
use Rattle.msgpack_first_bytes.specs.declared.Form.{Form}
use Rattle.msgpack_first_bytes.specs.declared.Form.TheVariants.{Unused, Scalar, Array, Map}
use Rattle.msgpack_first_bytes.proofs.Logic.{either}
use Rattle.msgpack_first_bytes.proofs.Range.{both, both_left, both_right, all, all-at}

-- a kind from its number
abbrev pub kind_at : ℕ → Kind
kind_at n = get_or (Nil ∷ Boolean ∷ Unsigned ∷ Signed ∷ Float32 ∷ Float64 ∷ String ∷ Bin ∷ Ext ∷ []) n Nil

kind_back : (k : Kind) → kind_at (kind_no k) ≡ k
kind_back Nil = refl
kind_back Boolean = refl
kind_back Unsigned = refl
kind_back Signed = refl
kind_back Float32 = refl
kind_back Float64 = refl
kind_back String = refl
kind_back Bin = refl
kind_back Ext = refl

-- a form as four numbers, and back
abbrev form_nos : Form → List ℕ
form_nos Unused = 0 ∷ 0 ∷ 0 ∷ 0 ∷ []
form_nos (Scalar k w f) = 1 ∷ kind_no k ∷ w ∷ f ∷ []
form_nos (Array w f) = 2 ∷ 0 ∷ w ∷ f ∷ []
form_nos (Map w f) = 3 ∷ 0 ∷ w ∷ f ∷ []

abbrev form_at : List ℕ → Form
form_at l =
    get_or
    (Unused ∷ Scalar (kind_at (get_or l 1 0)) (get_or l 2 0) (get_or l 3 0) ∷ Array (get_or l 2 0) (get_or l 3 0) ∷ Map (get_or l 2 0) (get_or l 3 0) ∷ [])
    (get_or l 0 0)
    Unused

form_back : (h : Form) → form_at (form_nos h) ≡ h
form_back Unused = refl
form_back (Scalar k w f) = ap (λ (k : Kind). Scalar k w f) (kind_back k)
form_back (Array w f) = refl
form_back (Map w f) = refl

abbrev eq_list : List ℕ → List ℕ → Bool
eq_list [] [] = true
eq_list [] (y ∷ l) = false
eq_list (x ∷ k) [] = false
eq_list (x ∷ k) (y ∷ l) = both (eqb x y) (eq_list k l)

eq_list_eq : (k l : List ℕ) → T (eq_list k l) → k ≡ l
eq_list_eq [] [] t = refl
eq_list_eq [] (y ∷ l) t = absurd t
eq_list_eq (x ∷ k) [] t = absurd t
eq_list_eq (x ∷ k) (y ∷ l) t = ap₂ ◌∷◌ (eqb→eq x y (both_left (eqb x y) (eq_list k l) t)) (eq_list_eq k l (both_right (eqb x y) (eq_list k l) t))

abbrev same_form : (ℕ → Form) → (ℕ → Form) → ℕ → Bool
same_form f g b = eq_list (form_nos (f b)) (form_nos (g b))

-- f and g give the same form at each of the n numbers from lo
pub agree : (f g : ℕ → Form) (lo n : ℕ) → T (all (same_form f g) lo n) → {b : ℕ} → b < lo + n → lo ≤ b → f b ≡ g b
agree f g lo n t {b} k h =
    sym (form_back (f b)) ∙ ap form_at (eq_list_eq (form_nos (f b)) (form_nos (g b)) (all-at (same_form f g) lo n t k h)) ∙ form_back (g b)

-- the first bytes of short maps and arrays
pub short-map : {b : ℕ} → b < 0x90 → 0x80 ≤ b → form_of b ≡ Map 0 (2 * (b - 0x80))
unfolding form_of
short-map = agree form_of (λ b. Map 0 (2 * (b - 0x80))) 0x80 16 tt

pub short-array : {b : ℕ} → b < 0xa0 → 0x90 ≤ b → form_of b ≡ Array 0 (b - 0x90)
unfolding form_of
short-array = agree form_of (λ b. Array 0 (b - 0x90)) 0x90 16 tt

-- ---- the forms of all numbers are those of the bytes

beyond : (b : ℕ) → 255 < b → form_of b ≡ form_of 255
unfolding form_of
beyond b h =
    let out : (n : ℕ) → n ≤ 255 → leb b n ≡ false = λ n k. lt-leb b n (omega arith) in
    simp (
      out 0x7f (omega arith),
      out 0x8f (omega arith),
      out 0x9f (omega arith),
      out 0xbf (omega arith),
      out 0xc0 (omega arith),
      out 0xc1 (omega arith),
      out 0xc3 (omega arith),
      out 0xc6 (omega arith),
      out 0xc9 (omega arith),
      out 0xca (omega arith),
      out 0xcb (omega arith),
      out 0xcf (omega arith),
      out 0xd3 (omega arith),
      out 0xd8 (omega arith),
      out 0xdb (omega arith),
      out 0xdd (omega arith),
      out 0xdf (omega arith),
    )

pub every : (P : Form → Type 0) → ((b : ℕ) → b < 256 → P (form_of b)) → (b : ℕ) → P (form_of b)
every P f b = ⊎_elim (λ h. f b (omega arith)) (λ h. subst P (sym (beyond b h)) (f 255 (omega arith))) (either b 255)

-- a test that antt computes of all bytes' forms
pub each_form : (p : Form → Bool) → T (all (λ b. p (form_of b)) 0 256) → (b : ℕ) → T (p (form_of b))
each_form p t = every (λ h. T (p h)) (λ b l. all-at (λ b. p (form_of b)) 0 256 t l (omega arith))
