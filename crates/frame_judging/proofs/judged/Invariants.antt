-- One key after the other.
use Prim.Native.Nat.{◌≤◌}
use Rattle.frame_judging.specs.Parts.{items_between}
use Rattle.frame_judging.proofs.Passes.{Left}
use Rattle.frame_judging.proofs.judged.Given as goal

abbrev pub invariant-loop-i : goal.invariant-loop-i
invariant-loop-i l = (l.count ≤ l.i) × Left (items_between l.from l.to l.frame l.bytes) (items_between l.i l.to l.frame l.bytes) l.sound l.suited l.count l.length
