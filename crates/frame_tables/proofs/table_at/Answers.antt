-- The map's header, then its entries.
use mathlib.Core.Path.{sym, ap, ◌∙◌}
use Rattle.frames.specs.Limits.{held_depth}
use Rattle.frame_tables.specs.Tables.{table, tabled_on}
use Rattle.frame_tables.proofs.Entries.{no_map, a-map}
use Rattle.frame_tables.proofs.table_at.Goals as goal

pub returns : goal.returns
returns c =
    let a = c.args in
    c.table_of.ensures
    ∙ sym (ap (tabled_on (table 0 a.values.now)) (a-map held_depth a.s.now a.at _ _ (sym c.in-Some.is ∙ c.header_at.ensures)))

pub returns-in_default : goal.returns-in_default
unfolding tabled_on
returns-in_default c =
    let a = c.args in
    c.no_table.ensures
    ∙ sym (ap (tabled_on (table 0 a.values.now)) (no_map held_depth a.s.now a.at (sym c.in_default.is ∙ c.header_at.ensures)))
