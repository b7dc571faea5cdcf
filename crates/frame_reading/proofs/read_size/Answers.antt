-- Each way that the size number is judged.
use Rattle.std.specs.Prelude.{Err}
use mathlib.Core.Path.{ap, ◌∙◌}
use Rattle.frames.specs.Reading.{size_by, size_of}
use Rattle.frames.proofs.Front.{number-front}
use Rattle.frame_reading.proofs.Contents.{size_none, size_large, size_is}
use Rattle.frame_reading.proofs.read_size.Goals as goal

pub returns-then-n-eq0 : goal.returns-then-n-eq0
unfolding size_of
returns-then-n-eq0 c = let n = c.before in rw (number-front _ n.in-Ok.is n.unsigned_at.ensures) (size_none _ c.if-n-eq0.true)

pub returns-then-n : goal.returns-then-n
unfolding size_of
returns-then-n c =
    let n = c.before.before in
    rw (number-front _ n.in-Ok.is n.unsigned_at.ensures) (size_large _ _ c.if-n.true)

pub returns-else-n : goal.returns-else-n
unfolding size_of
returns-else-n c =
    let n = c.before.before in
    rw (number-front _ n.in-Ok.is n.unsigned_at.ensures) (size_is _ _ c.if-n-eq0.false c.if-n.false)

pub returns-in-Err-Cut : goal.returns-in-Err-Cut
unfolding size_of size_by
returns-in-Err-Cut c = let e = c.in-Err-Cut in rw (number-front _ (e.is ∙ ap Err e.field-0-is) c.unsigned_at.ensures)

pub returns-in-Err-Other : goal.returns-in-Err-Other
unfolding size_of size_by
returns-in-Err-Other c = let e = c.in-Err-Other in rw (number-front _ (e.is ∙ ap Err e.field-0-is) c.unsigned_at.ensures)
