-- The entries after those that are left are written, the last first.
use Rattle.update_delivering.proofs.Undos.{Written}
use Rattle.update_delivering.proofs.write_entries.Given as goal

abbrev pub invariant-loop-entry : goal.invariant-loop-entry
invariant-loop-entry l =
    Written l.sources.tuple.now l.sources.list.now l.sources.work.now l.entries l.initial.out l.at l.entry-iterator.iter.rest.now l.out l.to
