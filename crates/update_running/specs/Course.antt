-- Inner: one operation of a list, in the course of a run.
use Rattle.std.specs.Prelude.{ℕ, List, Ok, Err, Result}
use Rattle.msgpack_first_bytes.specs.Bytes.{Bytes}
use Rattle.tuples.specs.declared.Refusal.{Refusal}
use Rattle.update_numbers.specs.FieldNumber.{Field}
use Rattle.update_operations.specs.declared.Action.{Action}
use Rattle.update_planning.specs.Plan.{planned, work_after, Planned}
use Rattle.update_running.specs.declared.Stage.{Stage}
use Rattle.update_running.specs.Steps.{Performed, old_of, performed, table_after, back_after, Sound}
use Rattle.update_altering.specs.declared.Obstacle.TheVariants.{Full, Refused}

-- the stage in the course of a run; or the refusal of an operation, with its index
abbrev pub Course : Type 0
Course = Result Stage (Refusal × ℕ)

-- the course after an operation; or the stage at which the work array is full
abbrev pub Stepped : Type 0
Stepped = Result Course Stage

-- its plan, in a stage
abbrev pub plan_in : Bytes → Bytes → Bytes → List ℕ → Field → Action → ℕ → Stage → Planned
plan_in t l w table fd x e z = planned t l w z.used (old_of fd z.head z.fields table) z.fields fd x e

abbrev pub on_performed : Performed → Stage → ℕ → Stepped
on_performed (Err (Refused k)) z i = Ok (Err (k, i))
on_performed (Err Full) z i = Err z
on_performed (Ok z') z i = Ok (Ok z')

-- after a refusal what is left is only read
abbrev pub stepped : Course → Bytes → Bytes → Bytes → List ℕ → Field → Action → ℕ → ℕ → Stepped
stepped (Ok z) t l w table fd x e i = on_performed (performed (plan_in t l w table fd x e z) z table) z i
stepped (Err (k, j)) t l w table fd x e i = Ok (Err (k, j))

abbrev pub work_step : Course → Bytes → Bytes → Bytes → List ℕ → Field → Action → ℕ → Bytes
work_step (Ok z) t l w table fd x e = work_after t l w z.used (old_of fd z.head z.fields table) z.fields fd x e
work_step (Err (k, j)) t l w table fd x e = w

abbrev pub table_step : Course → Bytes → Bytes → Bytes → List ℕ → Field → Action → ℕ → List ℕ
table_step (Ok z) t l w table fd x e = table_after (plan_in t l w table fd x e z) z table
table_step (Err (k, j)) t l w table fd x e = table

abbrev pub back_step : Course → Bytes → Bytes → Bytes → List ℕ → List ℕ → Field → Action → ℕ → List ℕ
back_step (Ok z) t l w table back fd x e = back_after (plan_in t l w table fd x e z) z table back
back_step (Err (k, j)) t l w table back fd x e = back

abbrev pub CourseSound : Course → List ℕ → Type 0
CourseSound (Ok z) table = Sound z table
CourseSound (Err (k, j)) table = Unit {0}
