-- The claim as `sessions` proves it.
use Rattle.sessions.proofs.Runs.{every}
use Rattle.laksubinat.proofs.every_cutting_shows_the_same.Goals as goal

pub returns : goal.returns
returns c = every
