-- What each step of reading a number or a header says of the definition. Assumes nothing.
use Rattle.std.specs.Prelude.{Some, None, Ok, Err}
use mathlib.Core.Path.{◌≡◌, refl, ap, ◌∙◌}
use mathlib.Core.List.{[], ◌∷◌}
use mathlib.Core.Bool.{Bool, true}
use Prim.Native.Nat.{ℕ, zero, suc, ◌+◌, ◌-◌, ◌*◌, ◌^◌, ◌<◌, ◌≤◌}
use native.Mathlib.Numerals.{add-one}
use native.Mathlib.Omega.{arith}
use borrow.Author.Tests.{le-leb, lt-leb, lt-ltb, le-ltb}
use lib.Dec.{T, leb, leb→le}
use lib.Pow.{pow-add}
use lib.ListN.{length, take, drop, get_or, length-drop, drop_of_length-le}
use lib.Seq.{drop-cons, drop-drop}
use Rattle.msgpack_first_bytes.specs.Bytes.{Bytes}
use Rattle.msgpack_first_bytes.specs.FirstByte.{form_of, same_kind}
use Rattle.msgpack_first_bytes.specs.declared.Kind.{Kind}
use Rattle.msgpack_first_bytes.specs.declared.Form.{Form}
use Rattle.msgpack_first_bytes.proofs.Logic.{impossible, by_leb}
use Rattle.msgpack_first_bytes.proofs.Range.{both, both_left, both_right, all}
use Rattle.msgpack_first_bytes.proofs.Forms.{each_form}
use Rattle.msgpack_numbers.specs.Number.{number, number_at}
use Rattle.msgpack_numbers.proofs.Big.{number_missing, number_is}
use Rattle.msgpack_scalars.specs.Start.{scalar_of, string_by, array_by, map_by, start_by, Few, Start}
use Rattle.msgpack_scalars.specs.Integer.{due_in, due, natural_of, twos_complement, signed_of, adding, shift_natural, shift_integer, Natural, Integer, Due}
use Rattle.msgpack_scalars.specs.Header.{counted, header, shift_header}
use Rattle.msgpack_scalars.specs.declared.Opening.{Opening}
use Rattle.msgpack_scalars.specs.declared.Opening.TheVariants.{String as Strings, Array as Arrays, Map as Maps}
use Rattle.msgpack_scalars.specs.declared.Int.TheVariants.{FromZero, BelowZero}
use Rattle.msgpack_scalars.specs.declared.NoNumber.TheVariants.{Cut, Other}

-- ---- what a first byte asks for is little: one test over all 256 for each kind of start

unfoldable pub little : ℕ → Start → Bool
little most (Some (w, f)) = both (leb w 4) (leb f most)
little most None = true

is-few : (most : ℕ) (x : Start) → T (little most x) → Few most x
unfolding little
is-few most (Some (w, f)) t = (leb→le w 4 (both_left (leb w 4) (leb f most) t), leb→le f most (both_right (leb w 4) (leb f most) t))
is-few most None t = tt

pub few : (by : Form → Start) (most : ℕ) → T (all (λ b. little most (by (form_of b))) 0 256) → (b : ℕ) → Few most (by (form_of b))
few by most t b = is-few most (by (form_of b)) (each_form (λ h. little most (by h)) t b)

pub start-few : (o : Opening) (b : ℕ) → Few 31 (start_by o (form_of b))
unfolding little form_of same_kind
start-few Strings = few string_by 31 tt
start-few Arrays = few array_by 31 tt
start-few Maps = few map_by 31 tt

-- ---- numbers

pub due_end : (k : Kind) (s : Bytes) (at : ℕ) → length s ≤ at → Err Cut ≡ due k (drop at s)
unfolding due
due_end k s at h = rw (drop_of_length-le s h)

-- a byte is left
pub due-start : (k : Kind) (s : Bytes) (at : ℕ) (x : Start) → at < length s → x ≡ scalar_of k (form_of (get_or s at 0)) → due k (drop at s) ≡ due_in x (drop (at + 1) s)
unfolding due
due-start k s at x h e = rw (e, add-one, drop-cons s at 0 h)

pub due-cut : (s : Bytes) (at w f : ℕ) → length s - at ≤ f → at < length s → Err Cut ≡ due_in (Some (w, f)) (drop (at + 1) s)
unfolding due_in
due-cut s at w f k h =
    let l : length (drop (at + 1) s) < f = simp length-drop (omega arith) in
    rw (lt-leb f (length (drop (at + 1) s)) l)

pub due-more : (s : Bytes) (at w f : ℕ) → f < length s - at → Ok f ≡ due_in (Some (w, f)) (drop (at + 1) s)
unfolding due_in
due-more s at w f k =
    let l : f ≤ length (drop (at + 1) s) = simp length-drop (omega arith) in
    rw (le-leb f (length (drop (at + 1) s)) l)

-- of a kind that asks for little, what is due is there
module _ (k : Kind) (t : T (all (λ b. little 8 (scalar_of k (form_of b))) 0 256)) where
  due-few : (f : ℕ) (s : Bytes) → Ok f ≡ due k s → (f ≤ 8) × (1 + f ≤ length s)
  unfolding due due_in
  due-few f [] e = impossible cc
  due-few f (b ∷ s) e = go (scalar_of k (form_of b)) (few (scalar_of k) 8 t b) e
    where
      go : (x : Start) → Few 8 x → Ok f ≡ due_in x s → (f ≤ 8) × (1 + f ≤ suc (length s))
      go (Some (w, g)) m e =
          by_leb (λ (d : Due). Ok f ≡ d → (f ≤ 8) × (1 + f ≤ suc (length s))) g (length s) (λ l q. let i : f ≡ g = cc in (omega arith, omega arith)) (λ l q. impossible cc) e
      go None m e = impossible cc

  pub due_there : (s : Bytes) (at f : ℕ) → Ok f ≡ due k (drop at s) → (f ≤ 8) × (at + (1 + f) ≤ length s)
  due_there s at f e =
      let r = due-few f (drop at s) e in
      let l = simp length-drop at r.1 in
      (r.0, omega arith)

-- the number after a first byte is there, and is the one defined
pub natural_there : (s : Bytes) (at f : ℕ) → f ≤ 8 → at + 1 + f ≤ length s → None ≡ number_at f (at + 1) s → ⊥
natural_there s at f h l e = omega (arith, number_missing f (at + 1) s h e)

pub natural-more : (s : Bytes) (at f n : ℕ) → 0 < f → Some n ≡ number_at f (at + 1) s → n ≡ natural_of f (drop at s)
unfolding natural_of
natural-more s at zero n h e = absurd (omega arith)
natural-more s at (suc f) n h e = (number_is (suc f) (at + 1) n s e).1 ∙ rw drop-drop

-- two's complement, by the sign bit h
pub doubled : (f : ℕ) → 0 < f → 2 ^ (8 * f) ≡ 2 ^ (8 * f - 1) + 2 ^ (8 * f - 1)
doubled f h =
    let e : 8 * f ≡ 8 * f - 1 + 1 = omega arith in
    let p : 2 ^ (8 * f - 1 + 1) ≡ 2 ^ (8 * f - 1) * 2 ^ 1 = pow-add 2 (8 * f - 1) 1 in
    ap (λ (k : ℕ). 2 ^ k) e ∙ p ∙ omega arith

pub signed_low : (s : Bytes) (f n h : ℕ) → 0 < f → n ≡ natural_of f s → h ≡ 2 ^ (8 * f - 1) → n < h → FromZero n ≡ signed_of f s
unfolding signed_of twos_complement
signed_low s zero n h k e g l = absurd (omega arith)
signed_low s (suc f) n h k e g l =
    let m : n < 2 ^ (8 * suc f - 1) = rw (← g) l in
    rw (← e, lt-ltb n (2 ^ (8 * suc f - 1)) m)

pub signed_high : (s : Bytes) (f n h : ℕ) → 0 < f → n ≡ natural_of f s → h ≡ 2 ^ (8 * f - 1) → h ≤ n → n < 2 ^ (8 * f) → BelowZero (h - 1 - (n - h)) ≡ signed_of f s
unfolding signed_of twos_complement
signed_high s zero n h k e g l b = absurd (omega arith)
signed_high s (suc f) n h k e g l b =
    let m : 2 ^ (8 * suc f - 1) ≤ n = rw (← g) l in
    let d = doubled (suc f) k in
    let q : h - 1 - (n - h) ≡ 2 ^ (8 * suc f) - 1 - n = omega arith in
    rw (← e, le-ltb n (2 ^ (8 * suc f - 1)) m) (ap BelowZero q)

-- an integer counted from `at` before, by the unsigned number counted so
pub adding_shift : (at : ℕ) (u : Natural) (z : Integer) → shift_integer at (adding u z) ≡ adding (shift_natural at u) (shift_integer at z)
unfolding adding
adding_shift at (Ok (m, f)) z = refl
adding_shift at (Err Cut) z = refl
adding_shift at (Err Other) z = refl

-- ---- headers

pub header-start : (by : Form → Start) (s : Bytes) (at : ℕ) → at < length s → header by (drop at s) ≡ counted (by (form_of (get_or s at 0))) (drop (at + 1) s)
unfolding header
header-start by s at h = rw (add-one, drop-cons s at 0 h)

pub counted-cut : (s : Bytes) (at w f : ℕ) → length s < at + 1 + w → at < length s → None ≡ shift_header at (counted (Some (w, f)) (drop (at + 1) s))
unfolding counted
counted-cut s at w f h k =
    let l : length (drop (at + 1) s) < w = simp length-drop (omega arith) in
    rw (lt-leb w (length (drop (at + 1) s)) l)

pub counted_is : (s : Bytes) (at w f n : ℕ) → at + 1 + w ≤ length s → n ≡ number (take w (drop (at + 1) s))
    → Some (n + f, at + (1 + w)) ≡ shift_header at (counted (Some (w, f)) (drop (at + 1) s))
unfolding counted
counted_is s at w f n h e =
    let l : w ≤ length (drop (at + 1) s) = simp length-drop (omega arith) in
    rw (← e, le-leb w (length (drop (at + 1) s)) l)
