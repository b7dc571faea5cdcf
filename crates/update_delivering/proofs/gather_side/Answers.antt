use Rattle.std.proofs.Common.{rules, ◌<◌, length}
use Rattle.update_delivering.proofs.Sides.{side_none, side_after, side_written}
use Rattle.update_delivering.proofs.gather_side.Goals.{After-start_of-from}
use Rattle.update_delivering.proofs.gather_side.Goals as goal

some : (c : After-start_of-from) → 0 < length c.args.entries.now
some c = search rules

pub overflow_sub-n : goal.overflow_sub-n
overflow_sub-n c =
    side_after c.requires.0 c.requires.1 (some (goal.at.overflow_sub-n c).After-start_of-from) _ _ _ c.start_of-from.ensures.0 c.start_of.ensures.0 c.length_of.ensures.0

pub returns : goal.returns
returns c =
    side_written c.requires.0 c.requires.1 (some (goal.at.returns c).After-start_of-from) _ _ _ c.start_of-from.ensures.0 c.start_of.ensures.0 c.length_of.ensures.0
    c.copy_from.ensures

pub returns-then-is_empty : goal.returns-then-is_empty
returns-then-is_empty c = side_none c.requires.0 (search rules)
