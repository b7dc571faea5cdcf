-- A boolean as 0 or 1.
use mathlib.Core.Path.{◌≡◌, refl}
use mathlib.Core.Bool.{Bool, true, false}
use mir.Val.{bool_byte}
use Rattle.msgpack_shown.specs.Shown.{bit, meaning_shown}
use Rattle.msgpack_shown.proofs.meaning_shown.Goals as goal

as_bit : (b : Bool) → bool_byte b ≡ bit b
unfolding bit
as_bit true = refl
as_bit false = refl

pub returns-in-Boolean : goal.returns-in-Boolean
unfolding meaning_shown
returns-in-Boolean c = rw (c.in-Boolean.is, c.by_bits-in-Boolean.ensures, c.from.ensures, as_bit c.in-Boolean.b)
