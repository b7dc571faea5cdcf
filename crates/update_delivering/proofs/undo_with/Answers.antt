use Rattle.msgpack_first_bytes.proofs.Logic.{error_left}
use Rattle.update_delivering.proofs.Tries.{carried_undoes, undo-fails, undo-refuses, undo-writes}
use Rattle.update_delivering.proofs.undo_with.Goals as goal

pub deliver_undo-requires : goal.deliver_undo-requires
deliver_undo-requires c = carried_undoes c.in_ok-stage.ensures c.carry_out.auto.back

pub returns-in_err-stage : goal.returns-in_err-stage
returns-in_err-stage c =
    let a = c.args in
    rw (error_left _ _ c.from_residual.ensures.1) (undo-fails _ _ _ _ _ _ _ _ _ _ a.table.now a.work.now c.carry_out.auto.table c.carry_out.auto.work c.in_err-stage.field-0.0 c.in_err-stage.ensures a.out.now)

pub returns-in_err-deliver_undo : goal.returns-in_err-deliver_undo
returns-in_err-deliver_undo c =
    let a = c.args in
    rw (error_left _ _ c.from_residual-in_err-deliver_undo.ensures.1) (undo-refuses c.in_ok-stage.ensures a.work.now a.out.now _ a.table.now c.carry_out.auto.back _ (rw c.in_err-deliver_undo.was at c.deliver_undo.ensures))

pub returns : goal.returns
returns c =
    let a = c.args in
    undo-writes c.in_ok-stage.ensures a.work.now a.out.now _ a.table.now c.carry_out.auto.back (rw c.in_ok-deliver_undo.was at c.deliver_undo.ensures)
