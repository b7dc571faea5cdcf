-- The measures are twice what is left of depth and bytes, and one more for `read_items`.
-- The invariant of its loop: what is still to be read from here is what was to be read from the start.
use mathlib.Core.Path.{◌≡◌}
use Prim.Native.Nat.{◌+◌, ◌-◌, ◌*◌, ◌≤◌}
use lib.ListN.{length, drop}
use Rattle.msgpack_values.specs.Value.{shift, items, value}
use Rattle.msgpack_values.proofs.+read_item_read_items.Given as goal

abbrev pub decreases-read_item : goal.decreases-read_item
decreases-read_item l = 2 * (l.depth + (length l.s.now - l.at))

abbrev pub decreases-read_items : goal.decreases-read_items
decreases-read_items l = 2 * (l.depth + (length l.s.now - l.at)) + 1

abbrev pub invariant-read_items-loop-left : goal.invariant-read_items-loop-left
invariant-read_items-loop-left l =
    (l.at ≤ l.end) × (shift l.at (items (value l.depth) l.n (drop l.at l.s)) ≡ shift l.end (items (value l.depth) l.left (drop l.end l.s)))

abbrev pub decreases-read_items-loop-left : goal.decreases-read_items-loop-left
decreases-read_items-loop-left l = l.left
