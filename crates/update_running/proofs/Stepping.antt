-- One operation in the course of a run. Assumes nothing.
use mathlib.Core.Path.{◌≡◌}
use mathlib.Core.List.{List}
use Prim.Native.Nat.{ℕ}
use Rattle.msgpack_first_bytes.specs.Bytes.{Bytes}
use Rattle.update_numbers.specs.FieldNumber.{Field}
use Rattle.update_operations.specs.declared.Action.{Action}
use Rattle.update_running.specs.Course.{Course, Stepped, stepped, work_step, table_step, back_step}

-- what `step` ensures
abbrev pub Steps : Course → Bytes → Bytes → Bytes → List ℕ → List ℕ → Field → Action → ℕ → ℕ → Stepped → Bytes → List ℕ → List ℕ → Type 0
Steps c t l w table back fd x e i r w' table' back' =
    (r ≡ stepped c t l w table fd x e i) × (w' ≡ work_step c t l w table fd x e) × (table' ≡ table_step c t l w table fd x e) × (back' ≡ back_step c t l w table back fd x e)
