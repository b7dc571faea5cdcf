use Rattle.msgpack_first_bytes.proofs.Logic.{error_left}
use Rattle.update_delivering.proofs.Tries.{carried_stands, carried_undoes, press-fails, press-refuses, press-writes}
use Rattle.update_delivering.proofs.press_with.Goals as goal

pub deliver_both-requires : goal.deliver_both-requires
deliver_both-requires c = let K = c.in_ok-stage.ensures in (carried_stands K, carried_undoes K c.carry_out.auto.back)

pub returns-in_err-stage : goal.returns-in_err-stage
returns-in_err-stage c =
    let a = c.args in
    rw (error_left _ _ c.from_residual.ensures.1) (press-fails _ _ _ _ _ _ _ _ _ _ a.table.now a.work.now c.carry_out.auto.table c.carry_out.auto.work c.in_err-stage.field-0.0 c.in_err-stage.ensures a.out.now a.undo.now)

pub returns-in_err-deliver_both : goal.returns-in_err-deliver_both
returns-in_err-deliver_both c =
    let a = c.args in
    rw (error_left _ _ c.from_residual-in_err-deliver_both.ensures.1) (press-refuses c.in_ok-stage.ensures a.work.now a.out.now _ a.table.now c.carry_out.auto.back a.undo.now _ _ (rw c.in_err-deliver_both.was at c.deliver_both.ensures))

pub returns : goal.returns
returns c =
    let a = c.args in
    press-writes c.in_ok-stage.ensures a.work.now a.out.now _ a.table.now c.carry_out.auto.back a.undo.now _ _ (rw c.in_ok-deliver_both.was at c.deliver_both.ensures)
