-- Inner: a field by its number.
use Rattle.std.specs.Prelude.{ℕ, Some, None, Option}
use Rattle.msgpack_scalars.specs.declared.Int.{Int}
use Rattle.msgpack_scalars.specs.declared.Int.TheVariants.{FromZero, BelowZero}

-- a field by its number from 0; none where the number is below 0
abbrev pub Field : Type 0
Field = Option ℕ

-- a field by its number, from which the index base is taken off
abbrev pub field_by : Int → Field
field_by (FromZero f) = Some f
field_by (BelowZero m) = None
