-- By the tests.
use native.Mathlib.Omega.{arith}
use Rattle.std.proofs.lemmas.Int.{ints}
use Rattle.update_sums.proofs.Signs.{low_out, high_out, below-is, from-is}
use Rattle.update_sums.proofs.in_range.Goals as goal

pub returns-then-z-from : goal.returns-then-z-from
returns-then-z-from c = low_out c.args.z (grind (arith, ints))

pub returns-then-from-z : goal.returns-then-from-z
returns-then-from-z c = high_out c.args.z (grind (arith, ints))

pub returns-then-z-lt0 : goal.returns-then-z-lt0
returns-then-z-lt0 c = below-is c.args.z (grind (arith, ints)) (grind (arith, ints))

pub returns : goal.returns
returns c = from-is c.args.z (grind (arith, ints)) (grind (arith, ints))
