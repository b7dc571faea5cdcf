-- Fields that a tuple may have: few, short together, each one whole value. Assumes nothing.
use mathlib.Core.Path.{◌≡◌, refl, subst}
use mathlib.Core.Bool.{Bool, true, false}
use mathlib.Core.List.{List, [], ◌∷◌, ◌++◌, append_assoc}
use Prim.Native.Nat.{suc, ◌+◌, ◌≤◌}
use native.Mathlib.Omega.{arith}
use borrow.Author.Tests.{leb-true, le-leb}
use lib.Dec.{leb}
use lib.ListN.{length, length-append}
use Rattle.msgpack_first_bytes.specs.Bytes.{Bytes, pick}
use Rattle.msgpack_values.specs.Value.{value}
use Rattle.msgpack_values.specs.Pieces.{joined, Each}
use Rattle.msgpack_writing.specs.Forms.{array_header}
use Rattle.msgpack_writing.proofs.Lengths.{array_mono}
use Rattle.tuples.specs.Limits.{max_fields, max_tuple, field_depth}
use Rattle.tuples.specs.Tuple.{Fields, plain}
use Rattle.tuples.specs.Edit.{stop, next, fits, limited}
use Rattle.tuples.specs.declared.Refusal.TheVariants.{TooLarge}
use Rattle.msgpack_first_bytes.proofs.Logic.{impossible}
use Rattle.tuples.proofs.Cases.{both_hold}

pub record Fits (t : Fields) : Type 0 where
  pub few : length t ≤ max_fields
  pub short : length (plain t) ≤ max_tuple

pub record Legal (t : Fields) : Type 0 where
  pub fit : Fits t
  pub whole : Each (value field_depth) t

pub limited-fits : (t : Fields) → Fits t → limited t ≡ next t
unfolding limited fits
limited-fits t h = rw (le-leb _ _ h.few, le-leb _ _ h.short)

pub limited-next : (t u : Fields) → limited t ≡ next u → (t ≡ u) × Fits u
unfolding limited fits
limited-next t u h = go (fits t) refl h
  where
    go : (b : Bool) → fits t ≡ b → pick b (next t) (stop TooLarge) ≡ next u → (t ≡ u) × Fits u
    go true e q =
        let p : t ≡ u = cc in
        let (f, s) = both_hold (leb (length t) max_fields) (leb (length (plain t)) max_tuple) e in
        (p, subst Fits p (record { few = leb-true _ _ f; short = leb-true _ _ s }))
    go false e q = impossible (cc)

pub plain-length : (t : List Bytes) → length (plain t) ≡ length (array_header (length t)) + length (joined t)
unfolding plain
plain-length t = length-append (array_header (length t)) (joined t)

joined-append : (s t : List Bytes) → joined (s ++ t) ≡ joined s ++ joined t
unfolding joined
joined-append [] t = refl
joined-append (x ∷ s) t = rw (joined-append s t, append_assoc)

-- how long a field is that stands among others
pub field-length : (s : Fields) (x : Bytes) (t : Fields) → length (joined (s ++ x ∷ t)) ≡ length (joined (s ++ t)) + length x
unfolding joined
field-length s x t = rw (joined-append s (x ∷ t), joined-append s t) (simp length-append (omega arith))

-- one field less
pub fits-less : (s : Fields) (x : Bytes) (t : Fields) → Fits (s ++ x ∷ t) → Fits (s ++ t)
fits-less s x t h =
    let l : length (s ++ x ∷ t) ≡ suc (length (s ++ t)) = rw (length-append, length-append) (omega arith) in
    let p = plain-length (s ++ x ∷ t) in
    let q = plain-length (s ++ t) in
    let m = array_mono (length (s ++ t)) (length (s ++ x ∷ t)) (omega arith) in
    let j = field-length s x t in
    record { few = omega arith; short = omega arith }
