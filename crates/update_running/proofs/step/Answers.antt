-- `update_running::step` meets its contract.
use mathlib.Core.Path.{sym, subst}
use Rattle.update_planning.specs.Plan.{Planned}
use Rattle.update_running.specs.Course.{Course, CourseSound}
use Rattle.update_running.specs.Steps.{Among}
use Rattle.update_running.proofs.Among.{planned-among}
use Rattle.update_running.proofs.step.Goals as goal

pub perform-requires : goal.perform-requires
perform-requires c =
    let a = c.args in
    let z = c.in-Ok.stage in
    let s = subst (λ (x : Course). CourseSound x a.table.now) c.in-Ok.is c.requires in
    (s, subst (λ (p : Planned). Among p z.fields) (sym c.plan-plan.ensures.0) (planned-among a.tuple.now a.list.now a.work.now z.used c.entry_at-old.result z.fields a.field a.action a.end))
