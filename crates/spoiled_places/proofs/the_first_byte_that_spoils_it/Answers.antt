-- As the claim has it.
use Rattle.spoiled_places.proofs.First.{first_spoiling}
use Rattle.spoiled_places.proofs.the_first_byte_that_spoils_it.Goals as goal

pub returns : goal.returns
returns c = first_spoiling
