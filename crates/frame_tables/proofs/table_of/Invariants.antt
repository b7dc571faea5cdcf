-- The loop lays an entry at a time into the table.
use Rattle.std.proofs.Common.{◌≡◌, ◌-◌}
use Rattle.frames.specs.Limits.{held_depth}
use Rattle.frames.specs.Maps.{entries}
use Rattle.frame_tables.specs.Tables.{table, number_of, tabled_on}
use Rattle.frame_tables.proofs.table_of.Given as goal

abbrev pub invariant-loop : goal.invariant-loop
invariant-loop l = tabled_on (table (number_of l.answer) l.values) (entries held_depth l.s (l.count - l.counter) l.at) ≡ tabled_on (table 0 l.initial.values) (entries held_depth l.s l.count l.from)
