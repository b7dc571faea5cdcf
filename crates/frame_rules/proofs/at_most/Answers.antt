-- An unsigned number in its range.
use Rattle.frames.specs.Held.{as_number, number_or_bytes, value_held, suits}
use Rattle.frames.proofs.Front.{number-front}
use Rattle.frame_rules.proofs.at_most.Goals as goal

pub returns-in-Ok : goal.returns-in-Ok
unfolding suits value_held number_or_bytes as_number
returns-in-Ok c = rw (number-front _ c.in-Ok.is c.unsigned_at.ensures)

pub returns-in-Err : goal.returns-in-Err
unfolding suits value_held number_or_bytes as_number
returns-in-Err c = rw (number-front _ c.in-Err.is c.unsigned_at.ensures)
