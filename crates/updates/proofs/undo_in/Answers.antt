-- What was tried, told.
use Rattle.updates.proofs.Calls.{told-undo}
use Rattle.updates.proofs.undo_in.Goals as goal

pub returns : goal.returns
returns c =
    let a = c.args in
    told-undo a.request.tuple.now a.request.list.now a.request.base a.request.count a.request.start c.requires a.out.now _ c.undo_with.result a.work.now a.table.now c.undo_with.ensures
