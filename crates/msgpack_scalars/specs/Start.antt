-- Whether a form begins what is asked for: its length bytes, and what is due by its first byte alone.
use Rattle.std.specs.Prelude.{ℕ, ◌/◌, ◌≤◌, Some, None, Option}
use Rattle.msgpack_first_bytes.specs.Bytes.{pick}
use Rattle.msgpack_first_bytes.specs.FirstByte.{same_kind}
use Rattle.msgpack_first_bytes.specs.declared.Kind.{Kind}
use Rattle.msgpack_first_bytes.specs.declared.Kind.TheVariants.{String}
use Rattle.msgpack_first_bytes.specs.declared.Form.{Form}
use Rattle.msgpack_first_bytes.specs.declared.Form.TheVariants.{Unused, Scalar, Array, Map}
use Rattle.msgpack_scalars.specs.declared.Opening.{Opening}
use Rattle.msgpack_scalars.specs.declared.Opening.TheVariants.{String as Strings, Array as Arrays, Map as Maps}

-- where a form begins what is asked for: its length bytes, and what is due by its first byte
abbrev pub Start : Type 0
Start = Option (ℕ × ℕ)

abbrev pub scalar_of : Kind → Form → Start
scalar_of k Unused = None
scalar_of k (Scalar j w f) = pick (same_kind j k) (Some (w, f)) None
scalar_of k (Array w f) = None
scalar_of k (Map w f) = None

abbrev pub string_by : Form → Start
string_by = scalar_of String

abbrev pub array_by : Form → Start
array_by Unused = None
array_by (Scalar k w f) = None
array_by (Array w f) = Some (w, f)
array_by (Map w f) = None

-- in entries: a first byte counts a key and a value for each
abbrev pub map_by : Form → Start
map_by Unused = None
map_by (Scalar k w f) = None
map_by (Array w f) = None
map_by (Map w f) = Some (w, f / 2)

-- by what is asked for
abbrev pub start_by : Opening → Form → Start
start_by Strings = string_by
start_by Arrays = array_by
start_by Maps = map_by

-- inner: the length bytes are as few as a header's, and the rest is at most that
abbrev pub Few : ℕ → Start → Type 0
Few most (Some (w, f)) = (w ≤ 4) × (f ≤ most)
Few most None = Unit {0}
