-- `tuples::demand_3` states the law of proofs/Sequences.antt.
use Rattle.tuples.proofs.Sequences.{demand_3}
use Rattle.tuples.proofs.demand_3.Goals as goal

pub returns : goal.returns
returns c = demand_3
