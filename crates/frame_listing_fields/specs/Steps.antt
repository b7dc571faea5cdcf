-- Inner: a number with what ends its field.
use Rattle.std.specs.Prelude.{ℕ, [], ◌∷◌, ◌++◌}
use Rattle.msgpack_first_bytes.specs.Bytes.{Bytes}
use Rattle.frame_listing_fields.specs.Text.{decimal}

-- a number, and the byte that ends its field
abbrev pub ended : ℕ → ℕ → Bytes
ended n b = decimal n ++ (b ∷ [])
