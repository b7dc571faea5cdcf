-- The answer with its place.
use Rattle.std.specs.Prelude.{Ok, Err}
use Rattle.tuples.specs.Call.{undo, undo_call}
use Rattle.updates.proofs.Calls.{answers, answers-long}
use Rattle.updates.proofs.undo.Goals as goal
use Rattle.update_delivering.specs.declared.Failed.TheVariants.{Refused}

pub returns-in-Ok : goal.returns-in-Ok
unfolding undo_call
returns-in-Ok c =
    let a = c.args in
    let n = c.in-Ok in
    rw c.answer_of-in-Ok.ensures (answers a.tuple.now a.list.now (Ok n.length) (undo a.tuple.now a.list.now a.index_base) a.out.now _ n.ensures)

pub returns-in-Err-Refused : goal.returns-in-Err-Refused
unfolding undo_call
returns-in-Err-Refused c =
    let a = c.args in
    let n = c.in-Err-Refused in
    rw c.answer_of-in-Err-Refused.ensures (answers a.tuple.now a.list.now (Err (Refused n.refusal n.i)) (undo a.tuple.now a.list.now a.index_base) a.out.now _ (rw n.field-0-is at n.ensures))

pub returns-in-Err-NoRoom : goal.returns-in-Err-NoRoom
unfolding undo_call
returns-in-Err-NoRoom c =
    let a = c.args in
    let n = rw c.in-Err-NoRoom.field-0-is at c.in-Err-NoRoom.ensures in
    rw c.answer_of.ensures (answers-long a.tuple.now a.list.now a.index_base c.judged.result (undo a.tuple.now a.list.now a.index_base) a.out.now _ n.0 n.1 c.judged.ensures)
