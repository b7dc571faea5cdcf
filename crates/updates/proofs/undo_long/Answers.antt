-- What was tried in the longest arrays, told.
use native.Mathlib.Omega.{arith}
use Rattle.updates.proofs.Calls.{told-long}
use Rattle.updates.proofs.undo_long.Goals as goal

pub returns : goal.returns
returns c =
    let a = c.args in
    told-long a.request.tuple.now a.request.list.now a.request.base a.request.count a.request.start c.requires a.out.now _ c.undo_with.result _ _ (omega arith) (omega arith) c.undo_with.ensures
