-- As `Narrowed` has it.
use Rattle.frame_absent_keys.proofs.Narrowed.{narrowed}
use Rattle.frame_absent_keys.proofs.only_10_is_narrowed.Goals as goal

pub returns : goal.returns
returns c = narrowed
