-- The theorem of tuples, stated beside the calls.
use Rattle.tuples.proofs.Sequences.{demand_3}
use Rattle.laksubinat.proofs.demand_3.Goals as goal

pub returns : goal.returns
returns c = demand_3
