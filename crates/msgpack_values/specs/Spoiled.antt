-- The place of the byte that spoils a value. Document 02, 3/12: "The reading of one value should tell the first byte that spoils it: an unused
-- first byte, the container that goes one too deep, or the end of the bytes where more were due, whichever is leftmost."
use Rattle.std.specs.Prelude.{ℕ, true, false, drop, Ok, Err}
use Rattle.msgpack_first_bytes.specs.Bytes.{Bytes}
use Rattle.msgpack_values.specs.Value.{shift, value, Read}
use Rattle.msgpack_values.specs.declared.OptionalNumber.{OptionalNumber}

-- an absent place is all 0
abbrev pub no_place : OptionalNumber
no_place = record { present = false; value = 0 }

abbrev pub at_place : ℕ → OptionalNumber
at_place p = record { present = true; value = p }

abbrev pub place_of : Read → OptionalNumber
place_of (Ok n) = no_place
place_of (Err p) = at_place p

-- "a place is given exactly then": where no whole value of depth at most d stands at `at`; it counts from the first byte of s
unfoldable pub spoiled_at : ℕ → ℕ → Bytes → OptionalNumber
spoiled_at d at s = place_of (shift at (value d (drop at s)))
