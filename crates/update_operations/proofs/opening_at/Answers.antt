-- Count, mark and field number, one after the other.
use mathlib.Core.Path.{◌∙◌}
use Rattle.update_operations.proofs.Opening.{opening-is}
use Rattle.update_operations.proofs.opening_at.Goals as goal

pub returns-in_err-count : goal.returns-in_err-count
returns-in_err-count c = let a = c.args in c.from_residual.ensures ∙ rw (← c.in_err-count.ensures) at (opening-is a.list.now a.at)

pub returns-in_err-mark : goal.returns-in_err-mark
returns-in_err-mark c = let a = c.args in
    c.from_residual-in_err-mark.ensures ∙ rw (← c.in_ok-count.ensures, ← c.in_err-mark.ensures) at (opening-is a.list.now a.at)

pub returns-in_err-number : goal.returns-in_err-number
returns-in_err-number c = let a = c.args in
    c.from_residual-in_err-number.ensures ∙ rw (← c.in_ok-count.ensures, ← c.in_ok-mark.ensures, ← c.in_err-number.ensures) at (opening-is a.list.now a.at)

pub returns : goal.returns
returns c = let a = c.args in
    rw (← c.in_ok-count.ensures, ← c.in_ok-mark.ensures, ← c.in_ok-number.ensures) at (opening-is a.list.now a.at)
