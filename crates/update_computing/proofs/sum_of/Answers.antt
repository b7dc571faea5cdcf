-- The field and the argument, as integers.
use mathlib.Core.Path.{◌∙◌}
use Rattle.msgpack_first_bytes.proofs.Logic.{error_left}
use Rattle.update_computing.proofs.Numbers.{sum_unsuited, sum_is}
use Rattle.update_computing.proofs.sum_of.Goals as goal
use Rattle.update_computing.proofs.sum_of.Goals.{then-minus, else-minus}

pub returns-in_err-z : goal.returns-in_err-z
returns-in_err-z c =
    rw (error_left _ _ c.from_residual.ensures.1) (sum_unsuited c.args.minus c.args.v _ c.bytes.ensures c.any_integer.ensures c.in_err-z.ensures.value)

pub returns : goal.returns
returns c =
    rw c.ok_or-2.ensures.value (
    sum_is c.args.minus c.args.v _ c.bytes.ensures c.any_integer.ensures c.in_ok-z.ensures.value
    (elim c.if-minus.branch [ then-minus w ↦ rw w.if-minus.true (w.sum-is ∙ w.subtract-sum.ensures) | else-minus w ↦ rw w.if-minus.false (w.sum-is ∙ w.add-sum.ensures) ]))
