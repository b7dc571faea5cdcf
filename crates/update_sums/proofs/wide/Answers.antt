-- By the sign.
use native.Mathlib.Omega.{arith}
use Rattle.std.proofs.lemmas.Int.{ints}
use Rattle.tuples.specs.Edit.{asℤ}
use Rattle.update_sums.proofs.wide.Goals as goal

pub returns-in-FromZero-clause-is : goal.returns-in-FromZero-clause-is
unfolding asℤ
returns-in-FromZero-clause-is c = rw c.in-FromZero.is (omega (arith, ints))

pub returns-in-BelowZero-clause-is : goal.returns-in-BelowZero-clause-is
unfolding asℤ
returns-in-BelowZero-clause-is c = rw c.in-BelowZero.is (omega (arith, ints))
