use mathlib.Core.Path.{refl}
use native.Mathlib.Omega.{arith}
use Rattle.update_places.specs.Place.{length_of}
use Rattle.update_places.proofs.length_of.Goals as goal

pub returns : goal.returns
unfolding length_of
returns c = (refl, omega arith)
