-- `tuples::worked_examples` states what specs/Examples.antt computes.
use Rattle.tuples.specs.Examples.{worked}
use Rattle.tuples.proofs.worked_examples.Goals as goal

pub returns-clause-rules : goal.returns-clause-rules
returns-clause-rules c = worked.0

pub returns-clause-sequence : goal.returns-clause-sequence
returns-clause-sequence c = worked.1.0

pub returns-clause-presses : goal.returns-clause-presses
returns-clause-presses c = worked.1.1
