-- The answer with its place.
use Rattle.updates.proofs.Calls.{press-both, press-declined, press-long}
use Rattle.updates.proofs.press.Goals as goal

pub returns-in-Ok : goal.returns-in-Ok
returns-in-Ok c =
    let a = c.args in
    let n = c.in-Ok in
    rw (c.press_answer.ensures, c.answer_of.ensures) (press-both a.tuple.now a.list.now a.index_base a.out.now a.back.now n.length n.undo_length _ _ n.ensures)

pub returns-in-Err-Refused : goal.returns-in-Err-Refused
returns-in-Err-Refused c =
    let a = c.args in
    let n = c.in-Err-Refused in
    let h = rw n.field-0-is at n.ensures in
    rw (c.press_answer-in-Err-Refused.ensures, c.answer_of-in-Err-Refused.ensures) (press-declined a.tuple.now a.list.now a.index_base a.out.now a.back.now n.refusal n.i _ _ h.0)

pub returns-in-Err-NoRoom : goal.returns-in-Err-NoRoom
returns-in-Err-NoRoom c =
    let a = c.args in
    let n = rw c.in-Err-NoRoom.field-0-is at c.in-Err-NoRoom.ensures in
    rw (c.press_answer-in-Err-NoRoom.ensures, c.answer_of-in-Err-NoRoom.ensures) (press-long a.tuple.now a.list.now a.index_base a.out.now a.back.now c.judged.result _ _ n.0 n.1 n.2 c.judged.ensures)
