-- What was tried, told.
use Rattle.updates.proofs.Calls.{told-press}
use Rattle.updates.proofs.press_in.Goals as goal

pub returns : goal.returns
returns c =
    let a = c.args in
    told-press a.request.tuple.now a.request.list.now a.request.base a.request.count a.request.start c.requires a.out.now _ a.back.now _ c.press_with.result a.work.now a.table.now c.press_with.ensures
