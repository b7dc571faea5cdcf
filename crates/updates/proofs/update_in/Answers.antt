-- What was tried, told.
use Rattle.std.specs.Prelude.{Ok, Err}
use Rattle.msgpack_first_bytes.proofs.Logic.{error_left}
use Rattle.updates.proofs.Calls.{told-update}
use Rattle.updates.proofs.update_in.Goals as goal

pub returns-in_err-update_with : goal.returns-in_err-update_with
returns-in_err-update_with c =
    let a = c.args in
    rw (error_left _ _ c.from_residual.ensures.1) (told-update a.request.tuple.now a.request.list.now a.request.base a.request.count a.request.start c.requires a.out.now _ (Err c.in_err-update_with.field-0.0) _ _ a.work.now a.table.now (rw c.in_err-update_with.was at c.update_with.ensures))

pub returns : goal.returns
returns c =
    let a = c.args in
    told-update a.request.tuple.now a.request.list.now a.request.base a.request.count a.request.start c.requires a.out.now _ (Ok c.in_ok-update_with.field-0) _ _ a.work.now a.table.now (rw c.in_ok-update_with.was at c.update_with.ensures)
