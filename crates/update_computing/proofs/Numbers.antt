-- Computed numbers: summed, and bit by bit. Assumes nothing.
use Rattle.std.specs.Prelude.{Some, None, Ok, Err, Option}
use Rattle.std.specs.Option.{ok_or}
use native.Mathlib.Omega.{arith}
use mathlib.Core.Path.{◌≡◌, refl, sym, ap, ◌∙◌}
use mathlib.Core.Bool.{Bool, true, false}
use Prim.Native.Nat.{ℕ, ◌^◌, ◌<◌}
use borrow.Author.Tests.{lt-ltb, le-ltb}
use lib.IntN.{ℤ, pos, negsuc, ◌+ℤ◌, ◌-ℤ◌}
use Rattle.msgpack_first_bytes.specs.Bytes.{Bytes, pick}
use Rattle.msgpack_first_bytes.proofs.Logic.{by_ltb}
use Rattle.msgpack_scalars.specs.declared.Int.{Int, TheVariants.FromZero}
use Rattle.msgpack_read_back.specs.Claims.{integer_form}
use Rattle.tuples.specs.Decoding.{Got, fails, gets, any_integer, at_least}
use Rattle.tuples.specs.Edit.{Edit, refuse, put, asℤ, ranged, became, suited, altered, edit_at}
use Rattle.tuples.specs.declared.Refusal.{Refusal, TheVariants.Unsuited, TheVariants.OutOfRange}
use Rattle.update_parts.specs.Part.{signed_by, natural_by}
use Rattle.update_operations.specs.declared.Bitwise.{Bitwise, TheVariants.And, TheVariants.Xor, TheVariants.Or}
use Rattle.update_sums.specs.Range.{in_range}
use Rattle.update_computing.specs.Computing.{bitwise_of, bits_edit, sum_edit, Computes}

-- ---- sums and differences

sum-ranged : (k : ℤ) → Computes (became 0 (ranged k)) (ok_or (in_range k) OutOfRange)
unfolding in_range ranged became
sum-ranged (pos n) = by_ltb (λ s. Computes (became 0 (ranged (pos n))) (ok_or s OutOfRange)) n (2 ^ 64) (λ h. (rw (lt-ltb n (2 ^ 64) h), h)) (λ h. (rw (le-ltb n (2 ^ 64) h), tt))
sum-ranged (negsuc m) = by_ltb (λ s. Computes (became 0 (ranged (negsuc m))) (ok_or s OutOfRange)) m (2 ^ 63) (λ h. (rw (lt-ltb m (2 ^ 63) h), h)) (λ h. (rw (le-ltb m (2 ^ 63) h), tt))

-- what `+` or `-` makes of the field that was read
abbrev sum_of : Bool → Int → Option (Int × ℕ) → Edit
sum_of less v (Some (z, e)) = became 0 (ranged (pick less (asℤ z -ℤ asℤ v) (asℤ z +ℤ asℤ v)))
sum_of less v None = refuse Unsuited

module _ (less : Bool) (v : Int) (field : Bytes) {s : Bytes} {r : Option (Int × ℕ)} (b : s ≡ field) (h : r ≡ signed_by s (any_integer s)) where
  sum_told : {x : Option (Int × ℕ)} → r ≡ x → sum_edit less v field ≡ sum_of less v x
  unfolding edit_at altered suited
  sum_told q = go less (any_integer field) refl ∙ ap (sum_of less v) (sym (rw b at h) ∙ q)
    where
      go : (less : Bool) (g : Got Int) → any_integer field ≡ g → sum_edit less v field ≡ sum_of less v (signed_by field g)
      go true fails e = rw e
      go true (gets z s) e = rw e
      go false fails e = rw e
      go false (gets z s) e = rw e

  pub sum_unsuited : {k : Refusal} → Err k ≡ ok_or r Unsuited → Computes (sum_edit less v field) (Err k)
  sum_unsuited {k} q = let i : r ≡ None = grind arith in let p = rw i at q in let j : k ≡ Unsuited = cc in rw j (sum_told i, tt)

  pub sum_is : {z : Int} {e : ℕ} → Ok (z, e) ≡ ok_or r Unsuited → {t : Option Int} → t ≡ in_range (pick less (asℤ z -ℤ asℤ v) (asℤ z +ℤ asℤ v))
      → Computes (sum_edit less v field) (ok_or t OutOfRange)
  sum_is {z} {e} q i =
      let j : r ≡ Some (z, e) = grind arith in
      let k = sum-ranged (pick less (asℤ z -ℤ asℤ v) (asℤ z +ℤ asℤ v)) in
      rw i (sum_told j ∙ k.0, k.1)

-- ---- bit by bit

abbrev bits_of : Bitwise → ℕ → Option (ℕ × ℕ) → Edit
bits_of g v (Some (n, e)) = put 0 (integer_form (FromZero (bitwise_of g n v)))
bits_of g v None = refuse Unsuited

module _ (by : Bitwise) (v : ℕ) (field : Bytes) {s : Bytes} {r : Option (ℕ × ℕ)} (b : s ≡ field) (h : r ≡ natural_by s (at_least 0 s)) where
  bits_told : {x : Option (ℕ × ℕ)} → r ≡ x → bits_edit by v field ≡ bits_of by v x
  unfolding edit_at altered suited became
  bits_told q = go by (at_least 0 field) refl ∙ ap (bits_of by v) (sym (rw b at h) ∙ q)
    where
      go : (by : Bitwise) (g : Got ℕ) → at_least 0 field ≡ g → bits_edit by v field ≡ bits_of by v (natural_by field g)
      go And fails e = rw e
      go And (gets n s) e = rw e
      go Xor fails e = rw e
      go Xor (gets n s) e = rw e
      go Or fails e = rw e
      go Or (gets n s) e = rw e

  pub bits_unsuited : {k : Refusal} → Err k ≡ ok_or r Unsuited → Computes (bits_edit by v field) (Err k)
  bits_unsuited {k} q = let i : r ≡ None = grind arith in let p = rw i at q in let j : k ≡ Unsuited = cc in rw j (bits_told i, tt)

  pub bits_is : {n e : ℕ} → Ok (n, e) ≡ ok_or r Unsuited → {m : ℕ} → m ≡ bitwise_of by n v → m < 2 ^ 64 → Computes (bits_edit by v field) (Ok (FromZero m))
  bits_is {n} {e} q i k =
      let j : r ≡ Some (n, e) = grind arith in
      (bits_told j ∙ ap (λ (m : ℕ). put 0 (integer_form (FromZero m))) (sym i), k)
