-- `update_running::run` meets its contract. The invariant: what is left to do is what was to be done, and the arrays keep their lengths.
use mathlib.Core.Path.{◌≡◌}
use lib.ListN.{length}
use Rattle.update_running.proofs.Turns.{InCourse}
use Rattle.update_running.proofs.Turning.{fields_at}
use Rattle.update_running.proofs.run.Given as goal

abbrev pub invariant-loop-i : goal.invariant-loop-i
invariant-loop-i l = InCourse l.base l.count l.first l.start (fields_at l.tuple l.list l.initial.work l.initial.table l.initial.course) l.tuple l.list l.work l.table l.back l.course l.i l.at
    × ((length l.work ≡ length l.initial.work) × ((length l.table ≡ length l.initial.table) × (length l.back ≡ length l.initial.back)))
