-- By the integer that was read.
use mathlib.Core.Path.{◌∙◌}
use borrow.Author.Tests.{le-leb, lt-leb}
use lib.ListN.{drop}
use Rattle.update_numbers.proofs.Numbers.{least}
use Rattle.update_numbers.proofs.at_least.Goals as goal

pub returns-in_err-z : goal.returns-in_err-z
returns-in_err-z c = let a = c.args in c.from_residual.ensures ∙ least a.s.now (drop a.at a.s.now) c.in_err-z.ensures a.low

pub returns-in_default : goal.returns-in_default
returns-in_default c = let a = c.args in rw c.in_default.is at (least a.s.now (drop a.at a.s.now) c.in_ok-z.ensures a.low)

pub returns-then-n-low : goal.returns-then-n-low
returns-then-n-low c = let a = c.args in
    rw (c.in-FromZero.is, lt-leb _ _ c.if-n-low.true) at (least a.s.now (drop a.at a.s.now) c.in_ok-z.ensures a.low)

pub returns : goal.returns
returns c = let a = c.args in
    rw (c.in-FromZero.is, le-leb _ _ c.if-n-low.false) at (least a.s.now (drop a.at a.s.now) c.in_ok-z.ensures a.low)
