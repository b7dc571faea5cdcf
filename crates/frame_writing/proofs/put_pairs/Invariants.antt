-- One pair after the other.
use Rattle.frame_judging.specs.Parts.{items_between, pair_bytes}
use Rattle.frame_writing.proofs.Turns.{Left}
use Rattle.frame_writing.proofs.put_pairs.Given as goal

abbrev pub invariant-loop-i : goal.invariant-loop-i
invariant-loop-i l = Left l.initial.out l.at (pair_bytes (items_between l.from l.to l.frame l.bytes)) l.out l.a (pair_bytes (items_between l.i l.to l.frame l.bytes))
