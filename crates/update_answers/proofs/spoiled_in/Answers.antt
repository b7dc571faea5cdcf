-- By the number.
use native.Mathlib.Omega.{arith}
use borrow.Author.Tests.{ne_eqb}
use Rattle.tuples.specs.Call.{spoiled_in}
use Rattle.update_answers.proofs.spoiled_in.Goals as goal

pub returns-in-11 : goal.returns-in-11
unfolding spoiled_in
returns-in-11 c = rw c.in-11.is c.spoiled_at.ensures

pub returns-in-12 : goal.returns-in-12
unfolding spoiled_in
returns-in-12 c = rw c.in-12.is c.spoiled_at-in-12.ensures

pub returns-in_default : goal.returns-in_default
unfolding spoiled_in
returns-in_default c = let n = c.args.number in rw (ne_eqb n 11 (λ e. omega arith), ne_eqb n 12 (λ e. omega arith))
