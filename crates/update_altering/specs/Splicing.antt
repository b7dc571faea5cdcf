-- Inner: spliced strings.
use Rattle.std.specs.Prelude.{ℕ, ◌+◌, ◌≤◌, ◌++◌, ◌≡◌, length, take, drop}
use Rattle.msgpack_first_bytes.specs.Bytes.{Bytes}
use Rattle.msgpack_writing.specs.Forms.{string_header}
use Rattle.tuples.specs.Limits.{max_tuple}

-- n bytes of a field from `from` on, the argument a, and `rest` bytes of the field from `back` on
abbrev pub cut_by : ℕ → ℕ → Bytes → ℕ → ℕ → Bytes → Bytes
cut_by from n a back rest field = take n (drop from field) ++ (a ++ take rest (drop back field))

-- a string of n bytes, with its header, has room behind `used` bytes of the work array
abbrev pub Fits : ℕ → ℕ → Bytes → Type 0
Fits used n work = (n ≤ max_tuple) × (used + (length (string_header n) + n) ≤ length work)
