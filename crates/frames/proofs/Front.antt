-- What is read at the front of bytes is what their definition says, counted from there. Assumes nothing.
use Rattle.std.specs.Prelude.{Some, None, Ok, Err}
use Prim.Native.Nat.{ℕ}
use mathlib.Core.Path.{◌≡◌, refl, sym, ◌∙◌}
use native.Mathlib.Nat.{zero-add}
use Rattle.msgpack_first_bytes.specs.Bytes.{Bytes}
use Rattle.msgpack_first_bytes.specs.declared.Form.{Form}
use Rattle.msgpack_values.specs.Value.{shift, value, Read}
use Rattle.msgpack_scalars.specs.Integer.{unsigned, shift_natural, Natural}
use Rattle.msgpack_scalars.specs.Header.{header, shift_header, Header}
use Rattle.msgpack_scalars.specs.Start.{Start}
use Rattle.msgpack_scalars.specs.declared.NoNumber.TheVariants.{Cut, Other}

same-natural : (x : Natural) → shift_natural 0 x ≡ x
same-natural (Ok (n, k)) = rw zero-add
same-natural (Err Cut) = refl
same-natural (Err Other) = refl

pub number-front : (v : Bytes) {r u : Natural} → r ≡ u → r ≡ shift_natural 0 (unsigned v) → unsigned v ≡ u
number-front v q e = sym (sym q ∙ e ∙ same-natural (unsigned v))

same-header : (x : Header) → shift_header 0 x ≡ x
same-header (Some (n, k)) = rw zero-add
same-header None = refl

pub header-front : (f : Form → Start) (v : Bytes) {r u : Header} → r ≡ u → r ≡ shift_header 0 (header f v) → header f v ≡ u
header-front f v q e = sym (sym q ∙ e ∙ same-header (header f v))

same_read : (x : Read) → shift 0 x ≡ x
same_read (Ok n) = rw zero-add
same_read (Err p) = rw zero-add

pub value-front : (d : ℕ) (v : Bytes) {r u : Read} → r ≡ u → r ≡ shift 0 (value d v) → value d v ≡ u
value-front d v q e = sym (sym q ∙ e ∙ same_read (value d v))
