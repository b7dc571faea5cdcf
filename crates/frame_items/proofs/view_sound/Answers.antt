-- Whole, up to the last byte.
use Rattle.frames.specs.Limits.{held_depth}
use Rattle.frames.specs.Writing.{sound, is_whole}
use Rattle.frames.proofs.Front.{value-front}
use Rattle.frame_items.proofs.view_sound.Goals as goal

pub returns-in-Ok : goal.returns-in-Ok
returns-in-Ok c = unfold sound is_whole in rw (value-front held_depth _ c.in-Ok.is c.read_value.ensures)

pub returns-in-Err : goal.returns-in-Err
returns-in-Err c = unfold sound is_whole in rw (value-front held_depth _ c.in-Err.is c.read_value.ensures)
