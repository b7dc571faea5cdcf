-- As the claim has it.
use Rattle.spoiled_places.proofs.Lists.{accepted-whole}
use Rattle.spoiled_places.proofs.what_is_accepted_is_whole.Goals as goal

pub returns : goal.returns
returns c = accepted-whole
