-- The answer with its place.
use mathlib.Core.Path.{ap, ◌∙◌}
use Rattle.tuples.specs.Call.{update, update_call}
use Rattle.tuples.specs.declared.Answer.{Answer}
use Rattle.update_answers.specs.Seen.{seen}
use Rattle.updates.proofs.Calls.{answers}
use Rattle.updates.proofs.update.Goals as goal

pub returns : goal.returns
unfolding update_call
returns c =
    let a = c.args in
    ap (λ (r : Answer). seen r c.updated.new.out) c.answer_of.ensures
    ∙ answers a.tuple.now a.list.now c.updated.result (update a.tuple.now a.list.now a.index_base) a.out.now c.updated.new.out c.updated.ensures
