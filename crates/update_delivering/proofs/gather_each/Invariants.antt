-- The entries before those that are left are gathered.
use Rattle.update_delivering.proofs.Runs.{Gathered}
use Rattle.update_delivering.proofs.gather_each.Given as goal

abbrev pub invariant-loop-side : goal.invariant-loop-side
invariant-loop-side l =
    Gathered l.sources.tuple.now l.sources.list.now l.sources.work.now l.entries l.initial.out l.at l.side-iterator.rest.now l.out l.to
