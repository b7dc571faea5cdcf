-- The header, then the pairs.
use mathlib.Core.Path.{◌∙◌}
use Rattle.msgpack_writing.specs.Forms.{map_header}
use Rattle.frame_judging.specs.Parts.{items_of}
use Rattle.frame_writing.proofs.Turns.{map_first, turn}
use Rattle.frame_writing.proofs.put_map.Goals as goal

pub put_pairs-requires : goal.put_pairs-requires
put_pairs-requires c =
    let a = c.args in
    let t = turn a.out.now a.at (map_header a.count) (map_first (items_of a.part a.frame a.bytes.now) c.requires.0) c.requires.1 c.write_map_header-a.ensures in
    t.room

pub returns : goal.returns
returns c =
    let a = c.args in
    let t = turn a.out.now a.at (map_header a.count) (map_first (items_of a.part a.frame a.bytes.now) c.requires.0) c.requires.1 c.write_map_header-a.ensures in
    (c.put_pairs.ensures.0 ∙ t.end, c.put_pairs.ensures.1 ∙ t.is)
