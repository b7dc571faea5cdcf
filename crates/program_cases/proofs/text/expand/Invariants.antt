use Rattle.std.proofs.Common.{◌≤◌, length}
use Rattle.program_cases.proofs.text.expand.Given as goal

abbrev pub invariant-loop-piece : goal.invariant-loop-piece
invariant-loop-piece l = l.n ≤ length l.out

abbrev pub decreases-loop-piece : goal.decreases-loop-piece
decreases-loop-piece l = length l.rest
