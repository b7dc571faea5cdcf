-- One more at each turn. The places up to the stop fall.
use Prim.Native.Nat.{◌-◌, ◌≤◌}
use Rattle.msgpack_values.specs.Tokens.{Ones}
use Rattle.msgpack_values.proofs.past_ones.Given as goal

abbrev pub invariant-loop-end : goal.invariant-loop-end
invariant-loop-end l = (l.end ≤ l.stop) × Ones l.s l.at l.end

abbrev pub decreases-loop-end : goal.decreases-loop-end
decreases-loop-end l = l.stop - l.end
