-- What every edit is that an operation asks for: at a place that the fields have, with bytes that are one whole value. Assumes nothing.
use mathlib.Core.Path.{◌≡◌, refl}
use mathlib.Core.Bool.{Bool, true, false}
use mathlib.Core.List.{List, [], ◌∷◌, append-nil}
use mathlib.Core.Logic.{⊎_elim}
use mathlib.Core.Option.{Option, none, some}
use Prim.Native.Nat.{ℕ, ◌^◌, ◌<◌, ◌≤◌}
use native.Mathlib.Omega.{arith}
use borrow.Author.Tests.{eqb-true, le-ltb}
use lib.Dec.{eqb}
use lib.IntN.{ℤ, pos, negsuc, ◌+ℤ◌, ◌-ℤ◌}
use lib.ListN.{length, get_or, length-append}
use Rattle.msgpack_first_bytes.specs.Bytes.{Bytes, pick}
use Rattle.msgpack_first_bytes.specs.FirstByte.{form_of}
use Rattle.msgpack_numbers.specs.Number.{number}
use Rattle.msgpack_values.specs.Value.{value, one, by_form, sized, payload}
use Rattle.msgpack_values.specs.Pieces.{Single}
use Rattle.msgpack_scalars.specs.declared.Int.{Int}
use Rattle.msgpack_scalars.specs.declared.Int.TheVariants.{FromZero, BelowZero}
use Rattle.msgpack_writing.specs.Forms.{big_endian, unsigned_form, string_header, string_form}
use Rattle.msgpack_read_back.proofs.Back.{integer-whole, string-whole}
use Rattle.msgpack_first_bytes.proofs.Logic.{by_leb, by_ltb, either}
use Rattle.tuples.specs.Limits.{max_tuple, field_depth}
use Rattle.tuples.specs.Tuple.{Fields}
use Rattle.tuples.specs.Decoding.{Got, fails, gets, Decoder, any_integer, at_least, string}
use Rattle.tuples.specs.Operation.{Action, plus, minus, and, xor, or, assign, insert, remove, splice, Operation}
use Rattle.tuples.specs.Edit.{Edit, refuse, put, add, cut, asℤ, ranged, spliced, became, suited, altered, edit_at, field_at, Plan, plan_of, plans}
use Rattle.tuples.specs.declared.Refusal.TheVariants.{NoField}
use Rattle.tuples.proofs.Decode.{Fine, FineOperation, AllFine, end, fine}

-- ---- computed and spliced fields are whole values

-- one whole value, where it is short enough to stay
abbrev pub Brief : Bytes → Type 0
Brief b = length b ≤ max_tuple → Single (value field_depth) b

abbrev Brings : Option Bytes → Type 0
Brings none = Unit {0}
Brings (some b) = Brief b

-- (nothing is said of the numbers that are computed; those from 2^64 up take the widest form too)
wide_value : (n : ℕ) → 2 ^ 64 ≤ n → Single (value field_depth) (unsigned_form n)
unfolding unsigned_form big_endian value one by_form form_of sized payload number
wide_value n h =
    rw (le-ltb n 128 (omega arith), le-ltb n (2 ^ 8) (omega arith), le-ltb n (2 ^ 16) (omega arith), le-ltb n (2 ^ 32) (omega arith))

unsigned-value : (n : ℕ) → Single (value field_depth) (unsigned_form n)
unsigned-value n = ⊎_elim (λ h. wide_value n h) (λ h. rw append-nil at (integer-whole field_depth (FromZero n) [] h)) (either (2 ^ 64) n)

ranged_brings : (z : ℤ) → Brings (ranged z)
unfolding ranged
ranged_brings (pos n) = by_ltb Brings n (2 ^ 64) (λ h _. unsigned-value n) (λ _. tt)
ranged_brings (negsuc m) = by_ltb Brings m (2 ^ 63) (λ h _. rw append-nil at (integer-whole field_depth (BelowZero m) [] h)) (λ _. tt)

string_brief : (s : Bytes) → Brief (string_form s)
string_brief s h =
    let l = length-append (string_header (length s)) s in
    rw append-nil at (string-whole field_depth s [] (omega arith))

-- ---- edits

abbrev pub Sound : Edit → Fields → Type 0
Sound (refuse k) t = Unit {0}
Sound (put f b) t = (f < length t) × Brief b
Sound (add f b) t = (f ≤ length t) × Brief b
Sound (cut f m) t = f < length t

module _ {A : Type 0} (read : Decoder A) (change : A → Option Bytes) (h : (a : A) → Brings (change a)) (f : ℕ) (t : Fields) where
  became-sound : f < length t → (o : Option Bytes) → Brings o → Sound (became f o) t
  unfolding became
  became-sound l none b = tt
  became-sound l (some x) b = (l, b)

  altered-sound : Sound (altered read change f t) t
  unfolding altered suited
  altered-sound = by_ltb (λ e. Sound e t) f (length t) (λ l. go l (read (get_or t f []))) (λ _. tt)
    where
      go : f < length t → (g : Got A) → Sound (suited f g change) t
      go l fails = tt
      go l (gets a s) = became-sound l (change a) (h a)

edit_sound : (a : Action) → Fine a → (f : ℕ) (t : Fields) → Sound (edit_at a f t) t
unfolding edit_at
edit_sound (plus v) k f t = altered-sound any_integer _ (λ z. ranged_brings (asℤ z +ℤ asℤ v)) f t
edit_sound (minus v) k f t = altered-sound any_integer _ (λ z. ranged_brings (asℤ z -ℤ asℤ v)) f t
edit_sound (and v) k f t = altered-sound (at_least 0) _ (λ n _. unsigned-value _) f t
edit_sound (xor v) k f t = altered-sound (at_least 0) _ (λ n _. unsigned-value _) f t
edit_sound (or v) k f t = altered-sound (at_least 0) _ (λ n _. unsigned-value _) f t
edit_sound (assign b) k f t =
    by_ltb (λ e. Sound e t) f (length t) (λ l. (l, λ _. k)) (λ _. appended (eqb f (length t)) refl)
  where
    appended : (c : Bool) → eqb f (length t) ≡ c → Sound (pick c (add f b) (refuse NoField)) t
    appended true e = (omega (arith, eqb-true f (length t) e), λ _. k)
    appended false e = tt
edit_sound (insert b) k f t = by_leb (λ e. Sound e t) f (length t) (λ l. (l, λ _. k)) (λ _. tt)
edit_sound (remove m) k f t = by_ltb (λ e. Sound e t) f (length t) (λ l. l) (λ _. tt)
edit_sound (splice p c a) k f t = altered-sound string _ (λ s. string_brief (spliced p c a s)) f t

pub plan_sound : (o : Operation) → FineOperation o → (t : Fields) → Sound (plan_of o t) t
unfolding plan_of field_at
plan_sound o k t = go o.number
  where
    go : (z : Int) → Sound (field_at z (λ f. edit_at o.action f t)) t
    go (FromZero f) = edit_sound o.action k f t
    go (BelowZero m) = tt

pub data AllSound : List Plan → Type 0 where
  none_left : AllSound []
  one_more : {p : Plan} {ps : List Plan} → ((t : Fields) → Sound (p t) t) → AllSound ps → AllSound (p ∷ ps)

pub plans-sound : {os : List Operation} → AllFine os → AllSound (plans os)
unfolding plans
plans-sound end = none_left
plans-sound (fine {o = o} k ks) = one_more (plan_sound o k) (plans-sound ks)
