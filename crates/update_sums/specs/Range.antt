-- Inner: the range of integers.
use Rattle.std.specs.Prelude.{◌^◌, ltb, ℤ, pos, negsuc, Some, None, Option}
use Rattle.msgpack_first_bytes.specs.Bytes.{pick}
use Rattle.msgpack_scalars.specs.declared.Int.{Int}
use Rattle.msgpack_scalars.specs.declared.Int.TheVariants.{FromZero, BelowZero}

-- "range -2^63 to 2^64-1"
unfoldable pub in_range : ℤ → Option Int
in_range (pos n) = pick (ltb n (2 ^ 64)) (Some (FromZero n)) None
in_range (negsuc m) = pick (ltb m (2 ^ 63)) (Some (BelowZero m)) None
