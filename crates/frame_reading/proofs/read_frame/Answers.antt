-- Each way that the size is judged, then the contents.
use mathlib.Core.Path.{sym, ◌∙◌}
use native.Mathlib.Omega.{arith}
use lib.Seq.{length-take-le}
use Rattle.frame_reading.proofs.Contents.{frame_refused, size_fits, not_all_come, all_come}
use Rattle.frame_reading.proofs.read_frame.Goals as goal

pub overflow_sub-s : goal.overflow_sub-s
overflow_sub-s c = size_fits c.args.s.now _ _ (sym c.in-Ok.is ∙ c.read_size.ensures)

pub returns-then-s-from : goal.returns-then-s-from
returns-then-s-from c = c.refused-then-s-from.ensures ∙ not_all_come c.args.s.now _ _ (sym c.in-Ok.is ∙ c.read_size.ensures) c.if-s-from.true

pub slice_bounds-read_contents-end : goal.slice_bounds-read_contents-end
slice_bounds-read_contents-end c =
    let s = c.args.s.now in
    let h = size_fits s _ _ (sym c.in-Ok.is ∙ c.read_size.ensures) in
    sym (length-take-le _ s (omega arith))

pub returns-in-Err : goal.returns-in-Err
returns-in-Err c = c.refused.ensures ∙ frame_refused c.args.s.now _ _ (sym c.in-Err.is ∙ c.read_size.ensures)

pub returns-else-s-from : goal.returns-else-s-from
returns-else-s-from c = c.read_contents.ensures ∙ all_come c.args.s.now _ _ (sym c.in-Ok.is ∙ c.read_size.ensures) c.if-s-from.false
