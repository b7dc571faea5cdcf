-- The float of the bits, a NaN where they are a NaN's.
use mathlib.Core.Path.{sym, ap}
use lib.Ieee.{Float, binary32, of_bits, div}
use Rattle.msgpack_meanings.specs.declared.Meaning.TheVariants.{Float32}
use Rattle.msgpack_meanings.proofs.Nans.{allowed, nan_is}
use Rattle.msgpack_meanings.proofs.float32.Goals as goal

pub float_from_bits-result : goal.float_from_bits-result
unfolding div of_bits
float_from_bits-result c = allowed binary32 c.args.bits c.if-bits-le2139095040.true

pub returns-else-bits-le2139095040 : goal.returns-else-bits-le2139095040
unfolding div of_bits
returns-else-bits-le2139095040 c = ap (λ (x : Float). Float32 x c.args.bits) (sym (nan_is binary32 c.args.bits c.if-bits-le2139095040.false))
