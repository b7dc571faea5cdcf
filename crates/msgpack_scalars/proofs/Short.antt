-- What a first byte tells, at a place: nothing past the end, by its form a short array, by its entry a number of one byte. Assumes nothing.
use Rattle.std.specs.Prelude.{Some, None, Ok, Err}
use mathlib.Core.Path.{◌≡◌, sym, ap}
use Prim.Native.Nat.{ℕ, suc, ◌+◌, ◌<◌, ◌≤◌}
use native.Mathlib.Omega.{arith}
use borrow.Author.Tests.{le-leb}
use lib.ListN.{length, drop, get_or, drop_of_length-le}
use lib.Seq.{drop-cons}
use Rattle.msgpack_first_bytes.specs.Bytes.{Bytes}
use Rattle.msgpack_first_bytes.specs.FirstByte.{form_of, same_kind}
use Rattle.msgpack_first_bytes.specs.Entry.{entry_of, positive_fixint}
use Rattle.msgpack_first_bytes.specs.declared.Kind.TheVariants.{Unsigned}
use Rattle.msgpack_first_bytes.specs.declared.Form.{Form}
use Rattle.msgpack_first_bytes.specs.declared.Form.TheVariants.{Scalar, Array}
use Rattle.msgpack_first_bytes.proofs.Entries as Entries
use Rattle.msgpack_numbers.specs.Number.{number}
use Rattle.msgpack_scalars.specs.Start.{array_by}
use Rattle.msgpack_scalars.specs.Header.{counted, header, shift_header}
use Rattle.msgpack_scalars.specs.Integer.{due_in, due, natural_of, unsigned_by, unsigned, adding, integer, shift_natural, shift_integer}
use Rattle.msgpack_scalars.specs.declared.Int.TheVariants.{FromZero}
use Rattle.msgpack_scalars.specs.declared.NoNumber.TheVariants.{Cut}

module _ (s : Bytes) (at : ℕ) where
  pub header_past : (by : Form → _) → length s ≤ at → None ≡ shift_header at (header by (drop at s))
  unfolding header
  header_past by h = rw (drop_of_length-le s h)

  pub integer_past : length s ≤ at → Err Cut ≡ shift_integer at (integer (drop at s))
  unfolding integer adding unsigned unsigned_by due
  integer_past h = rw (drop_of_length-le s h)

  pub array-short : at < length s → {n : ℕ} → form_of (get_or s at 0) ≡ Array 0 n → Some (n, at + 1) ≡ shift_header at (header array_by (drop at s))
  unfolding header counted number
  array-short h e = rw (drop-cons s at 0 h, e, le-leb 0 (length (drop (suc at) s)) (omega arith)) (ap (λ (n : ℕ). Some (n, at + 1)) (omega arith))

  module _ (h : at < length s) (e : entry_of (get_or s at 0) ≡ positive_fixint) where
    form : form_of (get_or s at 0) ≡ Scalar Unsigned 0 0
    form = sym (Entries.scalar_said (get_or s at 0) positive_fixint (sym e) (omega arith))

    pub unsigned_small : Ok (get_or s at 0, at + 1) ≡ shift_natural at (unsigned (drop at s))
    unfolding unsigned unsigned_by due due_in natural_of same_kind
    unsigned_small = rw (drop-cons s at 0 h, form, le-leb 0 (length (drop (suc at) s)) (omega arith))

    pub integer-small : Ok (FromZero (get_or s at 0), at + 1) ≡ shift_integer at (integer (drop at s))
    unfolding integer adding unsigned unsigned_by due due_in natural_of same_kind
    integer-small = rw (drop-cons s at 0 h, form, le-leb 0 (length (drop (suc at) s)) (omega arith))
