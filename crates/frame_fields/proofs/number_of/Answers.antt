-- An unsigned number, or none.
use Rattle.frames.specs.Held.{as_number}
use Rattle.frames.specs.Keys.{optional}
use Rattle.frames.proofs.Front.{number-front}
use Rattle.frame_fields.proofs.number_of.Goals as goal

pub returns-in-Ok : goal.returns-in-Ok
unfolding optional as_number
returns-in-Ok c = rw (number-front _ c.in-Ok.is c.unsigned_at.ensures)

pub returns-in-Err : goal.returns-in-Err
unfolding optional as_number
returns-in-Err c = rw (number-front _ c.in-Err.is c.unsigned_at.ensures)
