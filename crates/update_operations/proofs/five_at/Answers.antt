-- Position, count and argument, one after the other.
use mathlib.Core.Path.{◌∙◌}
use Rattle.update_operations.proofs.Actions.{five_other, five-is}
use Rattle.update_operations.proofs.five_at.Goals as goal

pub returns-then-mark-ne58 : goal.returns-then-mark-ne58
returns-then-mark-ne58 c = five_other _ _ _ _ c.if-mark-ne58.true

pub returns-in_err-position : goal.returns-in_err-position
returns-in_err-position c = let a = c.args in
    c.from_residual.ensures ∙ rw c.if-mark-ne58.false (rw (← c.in_err-position.ensures) at (five-is a.list.now a.at a.base))

pub returns-in_err-count : goal.returns-in_err-count
returns-in_err-count c = let a = c.args in
    c.from_residual-in_err-count.ensures ∙ rw c.if-mark-ne58.false (rw (← c.in_ok-position.ensures, ← c.in_err-count.ensures) at (five-is a.list.now a.at a.base))

pub returns-in_err-start : goal.returns-in_err-start
returns-in_err-start c = let a = c.args in
    c.from_residual-in_err-start.ensures ∙ rw c.if-mark-ne58.false (rw (← c.in_ok-position.ensures, ← c.in_ok-count.ensures, ← c.in_err-start.ensures) at (five-is a.list.now a.at a.base))

pub returns : goal.returns
returns c = let a = c.args in
    rw c.if-mark-ne58.false (rw (← c.in_ok-position.ensures, ← c.in_ok-count.ensures, ← c.in_ok-start.ensures) at (five-is a.list.now a.at a.base))
