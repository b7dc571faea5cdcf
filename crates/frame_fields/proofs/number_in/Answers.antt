-- Absent, or there.
use mathlib.Core.Path.{◌∙◌}
use Rattle.frame_fields.proofs.Laws.{number_there, number-none}
use Rattle.frame_fields.proofs.number_in.Goals as goal

pub returns-then-place : goal.returns-then-place
returns-then-place c =
    let p = c.before.before.before in
    let a = p.args in
    c.number_of.ensures ∙ number_there a.s.now _ _ p.place_in-place.ensures _ c.if-place.true c.view_of.ensures

pub returns-else-place : goal.returns-else-place
returns-else-place c =
    let p = c.before in
    let a = p.args in
    number-none a.s.now _ _ p.place_in-place.ensures c.if-place.false
