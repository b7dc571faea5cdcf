-- `tuples::a_press_goes_in_exactly_where_the_update_does` states the laws of proofs/Presses.antt.
use Rattle.tuples.proofs.Presses.{goes_in-alike, as_the_two_calls}
use Rattle.tuples.proofs.a_press_goes_in_exactly_where_the_update_does.Goals as goal

pub returns-clause-state : goal.returns-clause-state
returns-clause-state c = goes_in-alike

pub returns-clause-calls : goal.returns-clause-calls
returns-clause-calls c t l b out un = as_the_two_calls t l out un b
