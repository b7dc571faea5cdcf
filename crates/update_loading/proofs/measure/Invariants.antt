-- The invariant: the values before the entry were whole, and the entries before it have their places.
use mathlib.Core.Path.{◌≡◌}
use lib.ListN.{length}
use Rattle.msgpack_values.specs.Value.{value}
use Rattle.tuples.specs.Limits.{field_depth}
use Rattle.update_loading.proofs.Measures.{Sofar}
use Rattle.update_loading.proofs.measure.Given as goal

abbrev pub invariant-loop-entry : goal.invariant-loop-entry
invariant-loop-entry l = (length l.entry-items ≡ l.n) × Sofar (value field_depth) l.tuple l.from l.n l.initial.entry-items l.entry-items l.at l.entry-index
