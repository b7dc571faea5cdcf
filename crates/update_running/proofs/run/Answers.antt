-- `update_running::run` meets its contract. The invariant: what is left to do is what was to be done, and the arrays keep their lengths.
use mathlib.Core.Path.{refl, ◌∙◌}
use Prim.Native.Nat.{◌≤◌}
use native.Mathlib.Omega.{arith}
use borrow.Author.Rules.{rules}
use lib.ListN.{length}
use Rattle.update_operations.proofs.Opening.{operation-is, operation_bad}
use Rattle.update_running.specs.Carrying.{work_room}
use Rattle.update_running.proofs.Turns.{course_bad}
use Rattle.update_running.proofs.Turning.{course_sound, turn_next, turn_full, course_begins, course_finished}
use Rattle.update_running.proofs.run.Goals as goal

pub loop-i-init : goal.loop-i-init
loop-i-init c = (course_begins c.requires, (refl, (refl, refl)))

pub returns-in_default : goal.returns-in_default
returns-in_default c =
    let g = c.loop-i in
    let a = c.args in (
      course_bad a.base a.count a.first a.start _ a.tuple.now a.list.now g.work g.table g.back g.i g.at c.requires.few c.requires.short (omega arith) g.course g.invariant.0
          (operation_bad a.base a.list.now g.at c.operation_at.ensures c.in_default.is),
      omega arith,
    )

pub step-requires : goal.step-requires
step-requires c =
    let g = c.loop-i in
    let a = c.args in
    course_sound a.base a.count a.first a.start _ a.tuple.now a.list.now g.work g.table g.back g.i g.at g.course g.invariant.0

pub returns-in-Err : goal.returns-in-Err
returns-in-Err c =
    let g = c.loop-i in
    let a = c.args in
    let d = operation-is a.base a.list.now g.at c.operation_at.ensures c.in-Some.is in
    let room : length g.work ≤ work_room = let e = g.invariant.1.0 in let h = c.requires.work in omega arith in
    turn_full a.base a.count a.first a.start _ a.tuple.now a.list.now g.work g.table g.back g.i g.at c.requires.few c.requires.short (omega arith) room d c.requires.sources g.course _ _ _ _ _ g.invariant.0 c.step.ensures c.in-Err.is

pub loop-i-preserved : goal.loop-i-preserved
loop-i-preserved c =
    let g = c.loop-i in
    let a = c.args in
    let d = operation-is a.base a.list.now g.at c.operation_at.ensures c.in-Some.is in
    let room : length g.work ≤ work_room = let e = g.invariant.1.0 in let h = c.requires.work in omega arith in
    let n = turn_next a.base a.count a.first a.start _ a.tuple.now a.list.now g.work g.table g.back g.i g.at c.requires.few c.requires.short (omega arith) room d g.course _ _ _ _ _ g.invariant.0 c.step.ensures c.in-Ok.is in
    (n.0, (n.1 ∙ g.invariant.1.0, (search rules, search rules)))

pub returns : goal.returns
returns c =
    let g = c.loop-i in
    let a = c.args in
    course_finished a.base a.count a.first a.start _ a.tuple.now a.list.now g.work g.table g.back g.i g.at g.course _ c.requires.few c.requires.short (omega arith) c.requires.sources g.invariant.0 c.finished.ensures
