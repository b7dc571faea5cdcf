-- What was tried in the longest arrays, told.
use native.Mathlib.Omega.{arith}
use Rattle.updates.proofs.Calls.{told-long-press}
use Rattle.updates.proofs.press_long.Goals as goal

pub returns : goal.returns
returns c =
    let a = c.args in
    told-long-press a.request.tuple.now a.request.list.now a.request.base a.request.count a.request.start c.requires a.out.now _ a.back.now _ c.press_with.result _ _ (omega arith) (omega arith) c.press_with.ensures
