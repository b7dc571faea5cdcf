-- By what the call came to.
use mathlib.Core.Path.{ap, ◌∙◌}
use native.Mathlib.Omega.{arith}
use Rattle.tuples.specs.declared.Answer.{Answer}
use Rattle.tuples.specs.Call.{spoiled_in}
use Rattle.update_answers.specs.Seen.{answer_at}
use Rattle.updates.proofs.Calls.{few_in, answer_failed}
use Rattle.updates.proofs.answer_of.Goals as goal

pub overflow_cast-i : goal.overflow_cast-i
overflow_cast-i c = omega (arith, few_in c.in-Err-Refused.is (rw c.in-Err-Refused.is at c.in-Err-Refused.field-0-is) c.requires)

pub returns-in-Err-Refused : goal.returns-in-Err-Refused
returns-in-Err-Refused c =
    let a = c.args in
    let n = c.in-Err-Refused in
    answer_failed n.is a.tuple.now a.list.now (rw n.is at n.field-0-is) (c.with_place.ensures ∙ ap (λ (r : Answer). answer_at (spoiled_in r.number a.tuple.now a.list.now) r) c.refused.ensures)

pub returns-in-Err-NoRoom : goal.returns-in-Err-NoRoom
returns-in-Err-NoRoom c =
    let a = c.args in
    let n = c.in-Err-NoRoom in
    answer_failed n.is a.tuple.now a.list.now (rw n.is at n.field-0-is) c.refused-in-Err-NoRoom.ensures
