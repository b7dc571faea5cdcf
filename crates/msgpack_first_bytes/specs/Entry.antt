-- An entry of the table of first bytes, four hexadecimal digits. Document 02, 6/12: "kind, length bytes, fixed payload (the bytes, for an array or
-- map the values, due by the first byte alone; an ext's type is one)": length bytes, kind, and two digits for the fixed payload.
use Rattle.std.specs.Prelude.{ℕ, ◌+◌, ◌*◌, ◌/◌, ◌%◌, ◌<◌, ◌≡◌, List, eqb, get_or}
use Rattle.msgpack_first_bytes.specs.Bytes.{pick}
use Rattle.msgpack_first_bytes.specs.FirstByte.{form_of, kind_no}
use Rattle.msgpack_first_bytes.specs.declared.Form.{Form}
use Rattle.msgpack_first_bytes.specs.declared.Form.TheVariants.{Unused, Scalar, Array, Map}

unfoldable pub entry_by : Form → ℕ
entry_by Unused = 0x0f00
entry_by (Scalar k w f) = 0x1000 * w + 0x100 * kind_no k + f
entry_by (Array w f) = 0x1000 * w + 0x900 + f
entry_by (Map w f) = 0x1000 * w + 0xa00 + f

-- the digits of an entry
abbrev pub length_bytes : ℕ → ℕ
length_bytes e = e / 0x1000

abbrev pub kind_digit : ℕ → ℕ
kind_digit e = e / 0x100 % 16

abbrev pub fixed_payload : ℕ → ℕ
fixed_payload e = e % 0x100

-- the entry of a first byte, by the decision over ranges
unfoldable pub entry_of : ℕ → ℕ
entry_of b = entry_by (form_of b)

-- "each entry says what the decision says", of a whole table
unfoldable pub Told : List ℕ → Type 0
Told t = (b : ℕ) → b < 256 → get_or t b 0 ≡ entry_of b

-- ---- what first bytes are tested for, by their entries

-- a number from 0 to 127: unsigned, and nothing is due
abbrev pub positive_fixint : ℕ
positive_fixint = 0x0200

-- an array of one value, with no count bytes
abbrev pub array_of_one : ℕ
array_of_one = 0x0901

-- the length of an integer or a short string: no length bytes and kind 2, 3 or 6; 0 of any other
unfoldable pub common_length : ℕ → ℕ
common_length e = let n = 1 + fixed_payload e in pick (eqb (e / 0x100) 2) n (pick (eqb (e / 0x100) 3) n (pick (eqb (e / 0x100) 6) n 0))
