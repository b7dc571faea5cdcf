-- One key after the other.
use Rattle.std.proofs.Common.{◌≡◌}
use lib.Seq.{slice}
use Rattle.frames.specs.Keys.{all_lines}
use Rattle.frames.specs.Reading.{suited}
use Rattle.frame_tables.specs.Tables.{place_in}
use Rattle.frame_suits.proofs.keys_suit.Given as goal

abbrev pub invariant-loop-i : goal.invariant-loop-i
invariant-loop-i l = suited (slice l.i l.to all_lines) l.s (place_in l.table) ≡ suited (slice l.from l.to all_lines) l.s (place_in l.table)
