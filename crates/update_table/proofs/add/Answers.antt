use native.Mathlib.Omega.{arith}
use Rattle.update_table.proofs.Edits.{not_added, put-below, put-above}
use Rattle.update_table.proofs.add.Goals as goal
use Rattle.update_table.proofs.add.Goals.{then-n-f-via-then-n-f, then-n-f-via-else-n-f+then-head-eq0, then-n-f-via-else-n-f+else-head-eq0+then-table-n, then-n-f-via-else-n-f+else-head-eq0+else-table-n+then-table-n-2}

pub returns-then-n-f : goal.returns-then-n-f
returns-then-n-f c =
    let a = c.args in
    not_added a.head a.n a.f a.p a.table.now (λ o.
    elim c.then-n-f.branch [
      | then-n-f-via-then-n-f w ↦ omega arith
      | then-n-f-via-else-n-f+then-head-eq0 w ↦ omega arith
      | then-n-f-via-else-n-f+else-head-eq0+then-table-n w ↦ omega arith
      | then-n-f-via-else-n-f+else-head-eq0+else-table-n+then-table-n-2 w ↦ omega arith
    ])

pub returns-then-f-n : goal.returns-then-f-n
returns-then-f-n c =
    let a = c.args in
    rw c.copy_within.ensures.after (put-below a.head a.n a.f a.p a.table.now (record { entry = omega arith; below = omega arith; above = omega arith }) (omega arith))

pub returns : goal.returns
returns c =
    let a = c.args in
    put-above a.head a.n a.f a.p a.table.now (record { entry = omega arith; below = omega arith; above = omega arith }) (omega arith) _ c.shift_in.ensures
