-- By the integer that was read, and by what is left of it without the base.
use mathlib.Core.Path.{◌∙◌}
use lib.ListN.{drop}
use Rattle.update_numbers.proofs.Numbers.{position-is}
use Rattle.update_numbers.proofs.position_at.Goals as goal

pub returns-in_err-z : goal.returns-in_err-z
returns-in_err-z c = let a = c.args in c.from_residual.ensures ∙ position-is a.s.now (drop a.at a.s.now) c.in_err-z.ensures a.base

pub returns-in_err-p : goal.returns-in_err-p
returns-in_err-p c = let a = c.args in
    c.from_residual-in_err-p.ensures ∙ rw (← c.in_err-p.ensures) at (position-is a.s.now (drop a.at a.s.now) c.in_ok-z.ensures a.base)

pub returns : goal.returns
returns c = let a = c.args in rw (← c.in_ok-p.ensures) at (position-is a.s.now (drop a.at a.s.now) c.in_ok-z.ensures a.base)
