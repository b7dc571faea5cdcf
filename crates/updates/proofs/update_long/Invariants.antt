-- `updates::update_long` meets its contract. The invariant: what is left to do on the tuple that stands in the first array is what was to be
-- done, and nothing is written.
use mathlib.Core.Path.{◌≡◌}
use Prim.Native.Nat.{◌-◌, ◌≤◌}
use lib.ListN.{length, take}
use Rattle.tuples.specs.Tuple.{fields_of}
use Rattle.update_running.specs.Carrying.{comes_to, rest_of}
use Rattle.updates.specs.Telling.{came_of}
use Rattle.updates.proofs.update_long.Given as goal

abbrev pub invariant-loop-n : goal.invariant-loop-n
invariant-loop-n l = (comes_to l.i (fields_of (take l.length l.one)) (rest_of l.request.base l.request.count l.i l.at l.request.list.now) ≡ came_of l.request.tuple.now l.request.list.now l.request.base) × ((l.out ≡ l.initial.out) × ((length l.out ≡ length l.initial.out) × ((l.length ≤ 16384) × ((length l.one ≡ 16384) × ((length l.other ≡ 16384) × ((length l.table ≡ 192) × (length l.work ≡ 16384)))))))

abbrev pub decreases-loop-n : goal.decreases-loop-n
decreases-loop-n l = l.request.count - l.i
