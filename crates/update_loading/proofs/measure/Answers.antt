-- By what the value at the entry's place says of its end.
use mathlib.Core.Path.{◌∙◌}
use native.Mathlib.Omega.{arith}
use lib.Seq.{length-take-le}
use Rattle.std.proofs.lemmas.List.{set-get_or}
use Rattle.msgpack_first_bytes.proofs.Logic.{error_left}
use Rattle.msgpack_values.specs.Value.{value}
use Rattle.msgpack_values.proofs.Local.{value_good}
use Rattle.tuples.specs.Limits.{field_depth}
use Rattle.update_loading.proofs.Measures.{begin, next_turn, next-broken, all_whole, laid}
use Rattle.update_loading.proofs.measure.Goals.{in-Some, in-None+in_ok-end-in-None}
use Rattle.update_loading.proofs.measure.Goals as goal

pub loop-entry-init : goal.loop-entry-init
loop-entry-init c = let a = c.args in (length-take-le a.n a.table.now c.requires.0, begin (value field_depth) a.tuple.now a.from a.n _)

pub loop-entry-preserved : goal.loop-entry-preserved
loop-entry-preserved c =
    let f = c.loop-entry.invariant in
    elim c.match-short_end.branch [
      | in-Some w ↦ next_turn (value_good field_depth) f.1 (omega arith) f.0 (rw w.end-is w.in-Some.ensures) c.place_of.ensures
      | in-None+in_ok-end-in-None w ↦ next_turn (value_good field_depth) f.1 (omega arith) f.0 (rw w.end-is w.in_ok-end-in-None.ensures) c.place_of.ensures
    ]

pub returns-in_err-end-in-None : goal.returns-in_err-end-in-None
returns-in_err-end-in-None c =
    let f = c.loop-entry.invariant in
    let b = next-broken (value_good field_depth) f.1 (omega arith) (omega arith) c.in_err-end-in-None.ensures in
    (error_left _ _ c.from_residual.ensures.1 ∙ b.0, rw set-get_or (laid _ c.args.table.now c.requires.0 f.0 b.1))

pub returns : goal.returns
returns c =
    let f = c.loop-entry.invariant in
    let b = all_whole f.1 (omega arith) (omega arith) in
    (b.0, laid _ c.args.table.now c.requires.0 f.0 b.1)
