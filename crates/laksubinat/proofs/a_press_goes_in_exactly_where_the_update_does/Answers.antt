-- The theorem of tuples, stated beside the calls.
use Rattle.tuples.proofs.Presses.{goes_in-alike}
use Rattle.laksubinat.proofs.a_press_goes_in_exactly_where_the_update_does.Goals as goal

pub returns : goal.returns
returns c = goes_in-alike
