-- One law for each way back.
use native.Mathlib.Omega.{arith}
use Rattle.update_loading.proofs.Ends.{fixint_ends, uint_16_ends}
use Rattle.update_loading.proofs.short_end.Goals as goal

pub returns-then-s-at-2 : goal.returns-then-s-at-2
returns-then-s-at-2 c = let a = c.args in uint_16_ends a.s.now a.at (omega (arith, c.if-s-at-2.true)) (omega arith) (omega arith)

pub returns-then-s-at-lt128 : goal.returns-then-s-at-lt128
returns-then-s-at-lt128 c = let a = c.args in fixint_ends a.s.now a.at (omega arith) (omega (arith, c.if-s-at-lt128.true)) (omega arith)

pub returns : goal.returns
returns c = c.string_end.ensures
