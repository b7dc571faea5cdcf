-- By the count of the array.
use native.Mathlib.Omega.{arith}
use Rattle.tuples.specs.Operation.{action_of}
use Rattle.update_operations.proofs.Actions.{action_other}
use Rattle.update_operations.proofs.action_at.Goals as goal

pub returns-in-3 : goal.returns-in-3
returns-in-3 c = unfold action_of in rw c.in-3.is c.three_at.ensures

pub returns-in-5 : goal.returns-in-5
returns-in-5 c = unfold action_of in rw c.in-5.is c.five_at.ensures

pub returns-in_default : goal.returns-in_default
returns-in_default c = action_other _ _ _ _ _ (λ e. omega arith) (λ e. omega arith)
