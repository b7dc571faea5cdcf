-- Keys, numbers and sizes that were written are read back. Assumes nothing.
use Rattle.std.specs.Prelude.{Ok}
use Prim.Native.Nat.{ℕ, ◌^◌, ◌≤◌, ◌<◌}
use mathlib.Core.Path.{◌≡◌}
use mathlib.Core.List.{[], ◌∷◌, ◌++◌, append-nil}
use mathlib.Core.Option.{some}
use native.Mathlib.Omega.{arith}
use borrow.Author.Tests.{lt-ltb, le-leb}
use lib.ListN.{length, length-append}
use lib.Seq.{take_at}
use Rattle.msgpack_first_bytes.specs.Bytes.{Bytes}
use Rattle.msgpack_first_bytes.specs.FirstByte.{form_of, same_kind}
use Rattle.msgpack_values.specs.Value.{value}
use Rattle.msgpack_scalars.specs.Integer.{due_in, due, natural_of, unsigned_by, unsigned}
use Rattle.msgpack_scalars.specs.declared.Int.TheVariants.{FromZero}
use Rattle.msgpack_writing.specs.Forms.{big_endian, tagged, unsigned_form}
use Rattle.msgpack_writing.proofs.Lengths.{length-big_endian}
use Rattle.msgpack_read_back.proofs.Digits.{number-big_endian}
use Rattle.msgpack_read_back.proofs.Back.{unsigned_back, integer-whole}
use Rattle.frames.specs.Held.{as_number}

pub unsigned_form_lem : (n : ℕ) → n < 2 ^ 64 → as_number (unsigned (unsigned_form n)) ≡ some n
unfolding as_number
unsigned_form_lem n h = let e = rw append-nil at (unsigned_back n [] h) in rw e

pub form_whole : (d n : ℕ) → n < 2 ^ 64 → value d (unsigned_form n) ≡ Ok (length (unsigned_form n))
form_whole d n h = rw append-nil at (integer-whole d (FromZero n) [] h)

-- a key is one byte
key_form : (k : ℕ) → k < 128 → unsigned_form k ≡ k ∷ []
unfolding unsigned_form
key_form k h = rw (lt-ltb k 128 h)

pub key-whole : (d k : ℕ) → k < 128 → value d (k ∷ []) ≡ Ok 1
key-whole d k h = rw (key_form k h) at (form_whole d k (omega arith))

pub key-read : (k : ℕ) (t : Bytes) → k < 128 → unsigned (k ∷ t) ≡ Ok (k, 1)
key-read k t h = rw (key_form k h) at (unsigned_back k t (omega arith))

-- "the size as `ce` and four bytes"
pub size_read : (n : ℕ) (c : Bytes) → n < 2 ^ 32 → unsigned (tagged 0xce 4 n ++ c) ≡ Ok (n, 5)
unfolding unsigned unsigned_by due due_in form_of same_kind natural_of
size_read n c h =
    let l : 4 ≤ length (big_endian 4 n ++ c) = omega (arith, length-append (big_endian 4 n) c, length-big_endian 4 n) in
    rw (le-leb 4 (length (big_endian 4 n ++ c)) l, take_at (big_endian 4 n) c 4 (length-big_endian 4 n), number-big_endian 4 n h)
