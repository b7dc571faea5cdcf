-- Absent, or there.
use mathlib.Core.Path.{◌∙◌}
use Rattle.frame_fields.proofs.Laws.{suits_there, suits-none}
use Rattle.frame_suits.proofs.key_suits.Goals as goal

pub returns-then-place : goal.returns-then-place
returns-then-place c =
    let p = c.before.before.before in
    let a = p.args in
    c.suits_rule.ensures ∙ suits_there a.s.now _ _ p.place_in-place.ensures a.line.rule _ c.if-place.true c.view_of.ensures

pub returns-else-place : goal.returns-else-place
returns-else-place c =
    let p = c.before in
    let a = p.args in
    suits-none a.s.now _ _ p.place_in-place.ensures a.line.rule c.if-place.false
