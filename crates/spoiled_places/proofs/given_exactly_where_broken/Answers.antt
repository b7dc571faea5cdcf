-- As the claim has it.
use Rattle.spoiled_places.proofs.Given.{given_exactly}
use Rattle.spoiled_places.proofs.given_exactly_where_broken.Goals as goal

pub returns : goal.returns
returns c = given_exactly
