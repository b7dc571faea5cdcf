-- The key, or the next.
use mathlib.Core.Path.{◌≡◌}
use Rattle.frames.specs.Limits.{known_keys}
use Rattle.frames.specs.Held.{locate}
use Rattle.frames.specs.Keys.{body_items}
use Rattle.frame_judging.specs.Parts.{items_between}
use Rattle.frame_judging.proofs.holds.Given as goal

abbrev pub invariant-loop-i : goal.invariant-loop-i
invariant-loop-i l = locate (items_between l.i known_keys l.frame l.bytes) l.key ≡ locate (body_items l.frame l.bytes) l.key
