-- Unsigned numbers and integers at the front of bytes, each with the bytes that it takes. "Each width is accepted even where a shorter one would do."
use Rattle.std.specs.Prelude.{ℕ, zero, suc, ◌+◌, ◌-◌, ◌*◌, ◌^◌, [], ◌∷◌, leb, ltb, length, take, drop, get_or, Some, None, Ok, Err, Result}
use Rattle.msgpack_first_bytes.specs.Bytes.{Bytes, pick}
use Rattle.msgpack_first_bytes.specs.FirstByte.{form_of}
use Rattle.msgpack_first_bytes.specs.declared.Kind.{Kind}
use Rattle.msgpack_first_bytes.specs.declared.Kind.TheVariants.{Unsigned, Signed}
use Rattle.msgpack_numbers.specs.Number.{number}
use Rattle.msgpack_scalars.specs.Start.{scalar_of, Start}
use Rattle.msgpack_scalars.specs.declared.Int.{Int}
use Rattle.msgpack_scalars.specs.declared.Int.TheVariants.{FromZero, BelowZero}
use Rattle.msgpack_scalars.specs.declared.NoNumber.TheVariants.{Cut, Other}
use Rattle.msgpack_scalars.specs.declared.NoNumber.{NoNumber}

-- an unsigned number, with the place after it
abbrev pub Natural : Type 0
Natural = Result (ℕ × ℕ) NoNumber

-- an integer, with the place after it
abbrev pub Integer : Type 0
Integer = Result (Int × ℕ) NoNumber

-- how many bytes are due after a first byte, and there
abbrev pub Due : Type 0
Due = Result ℕ NoNumber

-- a number of kind k at the front: how many bytes are due after its first byte, or they have not all come, or the first byte is of another kind
unfoldable pub due_in : Start → Bytes → Due
due_in (Some (w, f)) s = pick (leb f (length s)) (Ok f) (Err Cut)
due_in None s = Err Other

unfoldable pub due : Kind → Bytes → Due
due k [] = Err Cut
due k (b ∷ s) = due_in (scalar_of k (form_of b)) s

-- the number of a first byte and the f bytes due after it: the byte itself where none is due
unfoldable pub natural_of : ℕ → Bytes → ℕ
natural_of zero s = get_or s 0 0
natural_of (suc f) s = number (take (suc f) (drop 1 s))

unfoldable pub unsigned_by : Due → Bytes → Natural
unsigned_by (Ok f) s = Ok (natural_of f s, 1 + f)
unsigned_by (Err e) s = Err e

-- "Unsigned" means forms 00 to 7f and cc to cf: the first bytes of kind Unsigned (computed in Examples)
unfoldable pub unsigned : Bytes → Natural
unsigned s = unsigned_by (due Unsigned s) s

-- the number that w bytes are in two's complement; BelowZero m is -1 - m
unfoldable pub twos_complement : ℕ → ℕ → Int
twos_complement w n = pick (ltb n (2 ^ (8 * w - 1))) (FromZero n) (BelowZero (2 ^ (8 * w) - 1 - n))

-- a first byte from e0 up alone is that byte less 256
unfoldable pub signed_of : ℕ → Bytes → Int
signed_of zero s = BelowZero (255 - get_or s 0 0)
signed_of (suc f) s = twos_complement (suc f) (natural_of (suc f) s)

unfoldable pub signed_by : Due → Bytes → Integer
signed_by (Ok f) s = Ok (signed_of f s, 1 + f)
signed_by (Err e) s = Err e

unfoldable pub signed : Bytes → Integer
signed s = signed_by (due Signed s) s

unfoldable pub adding : Natural → Integer → Integer
adding (Ok (n, e)) z = Ok (FromZero n, e)
adding (Err Cut) z = Err Cut
adding (Err Other) z = z

-- "Integer" adds e0 to ff and d0 to d3, range -2^63 to 2^64-1
unfoldable pub integer : Bytes → Integer
integer s = adding (unsigned s) (signed s)

-- the same, counted from k bytes before
abbrev pub shift_natural : ℕ → Natural → Natural
shift_natural k (Ok (n, e)) = Ok (n, k + e)
shift_natural k (Err e) = Err e

abbrev pub shift_integer : ℕ → Integer → Integer
shift_integer k (Ok (z, e)) = Ok (z, k + e)
shift_integer k (Err e) = Err e
