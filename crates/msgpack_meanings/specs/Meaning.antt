-- What a whole value means, and a value read alone.
use Rattle.std.specs.Prelude.{ℕ, ◌+◌, ◌-◌, eqb, get_or, Some, None, Ok, Err, Option}
use Rattle.std.specs.Float.{binary32, binary64}
use Rattle.std.specs.Float.Ieee.{of_bits}
use Rattle.msgpack_first_bytes.specs.Bytes.{Bytes, pick}
use Rattle.msgpack_first_bytes.specs.FirstByte.{form_of, same_kind}
use Rattle.msgpack_first_bytes.specs.declared.Kind.{Kind}
use Rattle.msgpack_first_bytes.specs.declared.Kind.TheVariants.{Nil, Boolean, Unsigned, Signed, Float32, Float64, String, Bin, Ext}
use Rattle.msgpack_first_bytes.specs.declared.Form.{Form}
use Rattle.msgpack_first_bytes.specs.declared.Form.TheVariants.{Unused, Scalar, Array, Map}
use Rattle.msgpack_numbers.specs.Number.{number_at}
use Rattle.msgpack_values.specs.Value.{value, Read}
use Rattle.msgpack_values.specs.Spoiled.{no_place, spoiled_at}
use Rattle.msgpack_scalars.specs.Integer.{integer, Integer}
use Rattle.msgpack_meanings.specs.declared.Meaning.{Meaning}
use Rattle.msgpack_meanings.specs.declared.Meaning.TheVariants.{
  Absent,
  Nil as MeansNil,
  Boolean as MeansBoolean,
  Integer as MeansInteger,
  Float32 as MeansFloat32,
  Float64 as MeansFloat64,
  String as MeansString,
  Bin as MeansBin,
  Ext as MeansExt,
  Array as MeansArray,
  Map as MeansMap,
}
use Rattle.msgpack_meanings.specs.declared.Alone.{Alone}

unfoldable pub of_integer : Integer → Meaning
of_integer (Ok (z, e)) = MeansInteger z
of_integer (Err e) = Absent

-- "a float 32 or a float 64 with exactly the bits sent": the float, and the bits beside it, which of a NaN say which
unfoldable pub of_float32 : Option ℕ → Meaning
of_float32 (Some n) = MeansFloat32 (of_bits binary32 n) n
of_float32 None = Absent

unfoldable pub of_float64 : Option ℕ → Meaning
of_float64 (Some n) = MeansFloat64 (of_bits binary64 n) n
of_float64 None = Absent

-- an ext's type
unfoldable pub type_bytes : Kind → ℕ
type_bytes k = pick (same_kind k Ext) 1 0

-- a scalar of n bytes in all, w of them length bytes: its meaning, or the place of its content; an ext's type stands before its content
unfoldable pub scalar_meaning : Kind → ℕ → Bytes → ℕ → Meaning
scalar_meaning Nil w s n = MeansNil
scalar_meaning Boolean w s n = MeansBoolean (eqb (get_or s 0 0) 0xc3)
scalar_meaning Unsigned w s n = of_integer (integer s)
scalar_meaning Signed w s n = of_integer (integer s)
scalar_meaning Float32 w s n = of_float32 (number_at 4 1 s)
scalar_meaning Float64 w s n = of_float64 (number_at 8 1 s)
scalar_meaning String w s n = MeansString (1 + w) (n - (1 + w))
scalar_meaning Bin w s n = MeansBin (1 + w) (n - (1 + w))
scalar_meaning Ext w s n = MeansExt (get_or s (1 + w) 0) (2 + w) (n - (2 + w))

-- "A container is offered by its place": its whole encoding
unfoldable pub meaning : Form → Bytes → ℕ → Meaning
meaning Unused s n = Absent
meaning (Scalar k w f) s n = scalar_meaning k w s n
meaning (Array w f) s n = MeansArray 0 n
meaning (Map w f) s n = MeansMap 0 n

-- "A value read alone is held to depth 16"
abbrev pub alone_depth : ℕ
alone_depth = 16

-- ".. and nothing past its end is judged." 4: broken, past its bytes, or too deep; then the place of "the first byte that spoils it"
unfoldable pub alone_by : Read → Bytes → Alone
alone_by (Ok n) s = record { number = 0; length = n; meaning = meaning (form_of (get_or s 0 0)) s n; place = no_place }
alone_by (Err p) s = record { number = 4; length = 0; meaning = Absent; place = spoiled_at alone_depth 0 s }

unfoldable pub alone : Bytes → Alone
alone s = alone_by (value alone_depth s) s
