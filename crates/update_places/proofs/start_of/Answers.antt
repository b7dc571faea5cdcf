use native.Mathlib.Omega.{arith}
use Rattle.update_places.specs.Place.{start_of}
use Rattle.update_places.proofs.start_of.Goals as goal

pub returns : goal.returns
unfolding start_of
returns c = (omega arith, omega arith)
