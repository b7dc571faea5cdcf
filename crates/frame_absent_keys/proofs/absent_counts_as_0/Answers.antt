-- As `Absence` has it.
use Rattle.frame_absent_keys.proofs.Absence.{absent-keys}
use Rattle.frame_absent_keys.proofs.absent_counts_as_0.Goals as goal

pub returns : goal.returns
returns c = absent-keys
