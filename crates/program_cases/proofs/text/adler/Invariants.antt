use Rattle.std.proofs.Common.{◌<◌}
use Rattle.program_cases.proofs.text.adler.Given as goal

abbrev pub invariant-loop-b : goal.invariant-loop-b
invariant-loop-b l = (l.low < 65521) × (l.high < 65521)
