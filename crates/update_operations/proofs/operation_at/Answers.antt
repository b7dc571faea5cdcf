-- By how the operation begins, and by its action.
use mathlib.Core.Path.{◌∙◌}
use Rattle.update_operations.proofs.Opening.{operation_decoded}
use Rattle.update_operations.proofs.operation_at.Goals as goal

pub returns-in_err-opened : goal.returns-in_err-opened
returns-in_err-opened c = let a = c.args in c.from_residual.ensures ∙ rw (← c.in_err-opened.ensures) at (operation_decoded a.base a.list.now a.at)

pub returns-in_err-action : goal.returns-in_err-action
returns-in_err-action c = let a = c.args in
    c.from_residual-in_err-action.ensures ∙ rw (← c.in_ok-opened.ensures, ← c.in_err-action.ensures) at (operation_decoded a.base a.list.now a.at)

pub returns : goal.returns
returns c = let a = c.args in
    rw (← c.in_ok-opened.ensures, ← c.in_ok-action.ensures, ← c.field_of.ensures) at (operation_decoded a.base a.list.now a.at)
