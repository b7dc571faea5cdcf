-- The float of the bits, a NaN where they are a NaN's.
use mathlib.Core.Path.{sym, ap}
use lib.Ieee.{Float, binary64, of_bits, div}
use Rattle.msgpack_meanings.specs.declared.Meaning.TheVariants.{Float64}
use Rattle.msgpack_meanings.proofs.Nans.{allowed, nan_is}
use Rattle.msgpack_meanings.proofs.float64.Goals as goal

pub float_from_bits-result : goal.float_from_bits-result
unfolding div of_bits
float_from_bits-result c = allowed binary64 c.args.bits c.if-bits-le9218868437227405312.true

pub returns-else-bits-le9218868437227405312 : goal.returns-else-bits-le9218868437227405312
unfolding div of_bits
returns-else-bits-le9218868437227405312 c = ap (λ (x : Float). Float64 x c.args.bits) (sym (nan_is binary64 c.args.bits c.if-bits-le9218868437227405312.false))
