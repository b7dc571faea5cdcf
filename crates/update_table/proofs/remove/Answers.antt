use native.Mathlib.Omega.{arith}
use Rattle.update_table.proofs.Edits.{not_removed, cut_below, cut-above}
use Rattle.update_table.proofs.remove.Goals as goal
use Rattle.update_table.proofs.remove.Goals.{then-n-f-via-then-n-f, then-n-f-via-else-n-f+then-n-f-2, then-n-f-via-else-n-f+else-n-f-2+then-table-n, then-n-f-via-else-n-f+else-n-f-2+else-table-n+then-table-n-2}

pub returns-then-n-f : goal.returns-then-n-f
returns-then-n-f c =
    let a = c.args in
    not_removed a.head a.n a.f a.m a.table.now (λ o.
    elim c.then-n-f.branch [
      | then-n-f-via-then-n-f w ↦ omega arith
      | then-n-f-via-else-n-f+then-n-f-2 w ↦ omega arith
      | then-n-f-via-else-n-f+else-n-f-2+then-table-n w ↦ omega arith
      | then-n-f-via-else-n-f+else-n-f-2+else-table-n+then-table-n-2 w ↦ omega arith
    ])

pub returns-then-f-behind : goal.returns-then-f-behind
returns-then-f-behind c =
    let a = c.args in
    rw c.copy_within.ensures.after (cut_below a.head a.n a.f a.m a.table.now (record { entries = omega arith; inside = omega arith }) (omega arith))

pub returns : goal.returns
returns c =
    let a = c.args in
    cut-above a.head a.n a.f a.m a.table.now (record { entries = omega arith; inside = omega arith }) (omega arith) _ c.move_down.ensures
