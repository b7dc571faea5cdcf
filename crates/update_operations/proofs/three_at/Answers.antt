-- By the value, or by the integer, that was read for the mark.
use mathlib.Core.Path.{◌∙◌}
use borrow.Author.Tests.{eq-eqb, ne_eqb}
use Rattle.update_operations.proofs.Actions.{three-value, three-integer}
use Rattle.update_operations.proofs.three_at.Goals as goal

pub returns-in_err-start : goal.returns-in_err-start
returns-in_err-start c = let a = c.args in
    c.from_residual.ensures ∙ rw (← c.in_err-start.ensures) at (three-value a.list.now a.at a.mark c.if-mark.true)

pub returns-then-mark-eq61 : goal.returns-then-mark-eq61
returns-then-mark-eq61 c = let a = c.args in
    rw (← c.in_ok-start.ensures, eq-eqb _ _ c.if-mark-eq61.true) at (three-value a.list.now a.at a.mark c.if-mark.true)

pub returns-then-mark : goal.returns-then-mark
returns-then-mark c = let a = c.args in
    rw (← c.in_ok-start.ensures, ne_eqb _ _ c.if-mark-eq61.false) at (three-value a.list.now a.at a.mark c.if-mark.true)

pub returns-in_err-z : goal.returns-in_err-z
returns-in_err-z c = let a = c.args in
    c.from_residual-in_err-z.ensures ∙ rw (← c.in_err-z.ensures) at (three-integer a.list.now a.at a.mark c.if-mark.false)

pub returns : goal.returns
returns c = let a = c.args in
    c.by_integer.ensures ∙ rw (← c.in_ok-z.ensures) at (three-integer a.list.now a.at a.mark c.if-mark.false)
