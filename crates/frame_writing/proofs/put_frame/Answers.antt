-- The size, then the two maps.
use mathlib.Core.Path.{refl, ◌∙◌}
use Rattle.frame_writing.proofs.Turns.{header_form, body_form, size_turn, turn_on, first-room}
use Rattle.frame_writing.proofs.put_frame.Goals as goal

pub put_map-b-requires : goal.put_map-b-requires
put_map-b-requires c =
    let a = c.args in
    let t = size_turn a.frame a.bytes.now a.size c.requires.0.0 c.requires.1 c.write_tagged-a.ensures in
    (c.requires.0.1.0, first-room (header_form a.frame a.bytes.now) (body_form a.frame a.bytes.now) c.write_tagged-a.result refl t.room)

pub put_map-requires : goal.put_map-requires
put_map-requires c =
    let a = c.args in
    let t = size_turn a.frame a.bytes.now a.size c.requires.0.0 c.requires.1 c.write_tagged-a.ensures in
    (c.requires.0.1.1, (turn_on t (header_form a.frame a.bytes.now) refl c.put_map-b.ensures).room)

pub returns : goal.returns
returns c =
    let a = c.args in
    let t = size_turn a.frame a.bytes.now a.size c.requires.0.0 c.requires.1 c.write_tagged-a.ensures in
    let u = turn_on t (header_form a.frame a.bytes.now) refl c.put_map-b.ensures in
    (c.put_map.ensures.0 ∙ u.end, c.put_map.ensures.1 ∙ u.is)
