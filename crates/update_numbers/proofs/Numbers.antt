-- An integer, held to a bound, or with the base taken off. Assumes nothing.
use Rattle.std.specs.Prelude.{Some, None, Option, SomeIff}
use mathlib.Core.Path.{◌≡◌, refl, ap, ◌∙◌}
use mathlib.Core.Bool.{Bool, true, false}
use Prim.Native.Nat.{ℕ, ◌-◌, ◌≤◌}
use native.Mathlib.Omega.{arith}
use borrow.Author.Tests.{le-leb, lt-leb}
use lib.Dec.{leb}
use lib.ListN.{length}
use Rattle.msgpack_first_bytes.specs.Bytes.{Bytes, pick}
use Rattle.msgpack_scalars.specs.declared.Int.{Int, TheVariants.FromZero, TheVariants.BelowZero}
use Rattle.tuples.specs.Decoding.{Got, fails, gets, Decoder, on_got, then, any_integer, less, floor, at_least, position}
use Rattle.update_parts.specs.Part.{signed_by, natural_by}
use Rattle.update_numbers.specs.FieldNumber.{field_by, Field}

-- what follows an integer that was read, if one was
abbrev pub on_signed : (Int → ℕ → Option (ℕ × ℕ)) → Option (Int × ℕ) → Option (ℕ × ℕ)
on_signed of (Some (z, e)) = of z e
on_signed of None = None

-- ---- a number, from which the base is taken off

module _ (base : ℕ) {z : Int} where
  pub field-from : {n : ℕ} → z ≡ FromZero n → (r : Option ℕ) → SomeIff r (base ≤ n) (n - base) → r ≡ field_by (less base z)
  unfolding less
  field-from {n} q (Some x) h = rw (q, le-leb base n h.0) (ap Some h.1)
  field-from {n} q None h = rw (q, lt-leb base n (omega (arith, h)))

  pub field_below : {m : ℕ} → z ≡ BelowZero m → None ≡ field_by (less base z)
  unfolding less
  field_below q = rw q

-- ---- an integer that is held to a bound, and one from which the base is taken off

abbrev pub least_in : ℕ → Int → ℕ → Option (ℕ × ℕ)
least_in low (FromZero n) e = pick (leb low n) (Some (n, e)) None
least_in low (BelowZero m) e = None

abbrev pub field_in : Field → ℕ → Option (ℕ × ℕ)
field_in (Some p) e = Some (p, e)
field_in None e = None

floor-is : (l : Bytes) (low : ℕ) (z : Int) (s : Bytes) → least_in low z (length l - length s) ≡ natural_by l (floor low z s)
unfolding floor
floor-is l low (FromZero n) s = go (leb low n)
  where
    go : (b : Bool) → pick b (Some (n, length l - length s)) None ≡ natural_by l (pick b (gets n s) fails)
    go true = refl
    go false = refl
floor-is l low (BelowZero m) s = refl

field_least : (z : Int) (e : ℕ) → field_in (field_by z) e ≡ least_in 0 z e
field_least (FromZero n) e = rw (le-leb 0 n (omega arith))
field_least (BelowZero m) e = refl

module _ (l s : Bytes) {r : Option (Int × ℕ)} (h : r ≡ signed_by l (any_integer s)) where
  -- what follows the integer is next
  then-integer : (next : Int → Decoder ℕ) (of : Int → ℕ → Option (ℕ × ℕ)) → ((z : Int) (s : Bytes) → of z (length l - length s) ≡ natural_by l (next z s))
      → on_signed of r ≡ natural_by l (then any_integer next s)
  unfolding then on_got
  then-integer next of f = ap (on_signed of) h ∙ go (any_integer s)
    where
      go : (g : Got Int) → on_signed of (signed_by l g) ≡ natural_by l (on_got g next)
      go fails = refl
      go (gets z s) = f z s

  pub least : (low : ℕ) → on_signed (least_in low) r ≡ natural_by l (at_least low s)
  unfolding at_least
  least low = then-integer (floor low) (least_in low) (floor-is l low)

  pub position-is : (base : ℕ) → on_signed (λ z. field_in (field_by (less base z))) r ≡ natural_by l (position base s)
  unfolding position
  position-is base = then-integer (λ z. floor 0 (less base z)) (λ z. field_in (field_by (less base z))) (λ z s. field_least (less base z) (length l - length s) ∙ floor-is l 0 (less base z) s)
