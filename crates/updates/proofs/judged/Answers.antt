-- What the update call refuses, or 17.
use native.Mathlib.Omega.{arith}
use Rattle.updates.proofs.Calls.{judges}
use Rattle.updates.proofs.judged.Goals as goal

pub returns-in-Err-Refused : goal.returns-in-Err-Refused
returns-in-Err-Refused c =
    let a = c.args in
    let h = judges a.tuple.now a.list.now a.base c.updated.result _ _ (omega arith) c.updated.ensures in
    rw (c.in-Err-Refused.is, c.in-Err-Refused.field-0-is) at h

pub returns-in_default-2 : goal.returns-in_default-2
returns-in_default-2 c = rw c.in_default.is at (let a = c.args in judges a.tuple.now a.list.now a.base c.updated.result _ _ (omega arith) c.updated.ensures)
