-- As `Runs` has it.
use Rattle.sessions.proofs.Runs.{any_two}
use Rattle.sessions.proofs.any_two_cuttings_agree.Goals as goal

pub returns : goal.returns
returns c = any_two
