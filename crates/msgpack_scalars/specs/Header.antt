-- The header of a string, an array or a map at the front of bytes: its length or count, and the bytes that it takes.
use Rattle.std.specs.Prelude.{ℕ, ◌+◌, [], ◌∷◌, leb, length, take, Some, None, Option}
use Rattle.msgpack_first_bytes.specs.Bytes.{Bytes, pick}
use Rattle.msgpack_first_bytes.specs.FirstByte.{form_of}
use Rattle.msgpack_first_bytes.specs.declared.Form.{Form}
use Rattle.msgpack_numbers.specs.Number.{number}
use Rattle.msgpack_scalars.specs.Start.{Start}

-- a length or a count, with the place after the header
abbrev pub Header : Type 0
Header = Option (ℕ × ℕ)

-- a first byte that says f, and w bytes after it that say more
unfoldable pub counted : Start → Bytes → Header
counted (Some (w, f)) s = pick (leb w (length s)) (Some (number (take w s) + f, 1 + w)) None
counted None s = None

-- by `string_by`, `array_by` or `map_by`
unfoldable pub header : (Form → Start) → Bytes → Header
header by [] = None
header by (b ∷ s) = counted (by (form_of b)) s

-- the same, counted from k bytes before
abbrev pub shift_header : ℕ → Header → Header
shift_header k (Some (n, e)) = Some (n, k + e)
shift_header k None = None
