-- What the tables say, then the rest.
use mathlib.Core.Path.{◌≡◌, sym, ◌∙◌}
use Rattle.msgpack_first_bytes.proofs.Logic.{error_left}
use Rattle.frames.specs.Limits.{held_depth}
use Rattle.frames.specs.Maps.{entries_at}
use Rattle.frames.specs.Reading.{by_entries}
use Rattle.frame_tables.specs.Tables.{table, number_of, tabled_on, laid_all}
use Rattle.frame_reading.specs.Steps.{entries_in}
use Rattle.frame_reading.proofs.Places.{fresh, judged, told, both_told, refusal_told}
use Rattle.frame_reading.proofs.judge.Goals.{After-both_tabled, in-Some, in-None}
use Rattle.frame_reading.proofs.judge.Goals as goal

-- both tables, laid
tables : (c : After-both_tabled)
    → (let s = c.args.s.now in
    judged s (table (number_of c.table_at-header_tabled.result) c.table_at-header_tabled.new.values) (table (number_of c.match-body_at.body_tabled) c.match-body_at.body)
    ≡ by_entries s (entries_at held_depth s c.args.at) (entries_in s c.args.body_at))
unfolding entries_in tabled_on laid_all
tables c =
    let body : table (number_of c.match-body_at.body_tabled) c.match-body_at.body ≡ fresh (entries_in c.args.s.now c.args.body_at) =
    elim c.match-body_at.branch [
      | in-Some w ↦ rw (w.body-is, w.body_tabled-is, w.in-Some.is) w.table_at-body_tabled.ensures
      | in-None w ↦ rw (w.body-is, w.body_tabled-is, w.in-None.is)
    ] in
    told _ _ _ c.table_at-header_tabled.ensures body

pub returns : goal.returns
returns c =
    c.by_places.ensures
    ∙ both_told _ _ _ _ _ _ (sym c.both_tabled.ensures ∙ c.in_ok-both_tabled.was)
    ∙ tables (goal.at.returns c).After-both_tabled

pub returns-in_err-both_tabled : goal.returns-in_err-both_tabled
returns-in_err-both_tabled c =
    rw (error_left _ _ c.from_residual.ensures.1)
    (refusal_told _ _ _ _ _ _ (sym c.both_tabled.ensures ∙ c.in_err-both_tabled.was) ∙ tables (goal.at.returns-in_err-both_tabled c).After-both_tabled)
