-- One law for each way back.
use mathlib.Core.Path.{sym, ap, ◌∙◌}
use native.Mathlib.Omega.{arith}
use Rattle.std.specs.Option.{ok_or}
use Rattle.msgpack_first_bytes.proofs.Logic.{error_left}
use Rattle.update_loading.specs.declared.Unloaded.TheVariants.{Bad}
use Rattle.update_loading.proofs.Judged.{long-tuple, no_array, many_fields, no_room, loaded-broken, loaded-short, loaded-all}
use Rattle.update_loading.proofs.load.Goals as goal

pub returns-then-tuple-gt-MAX_TUPLE : goal.returns-then-tuple-gt-MAX_TUPLE
returns-then-tuple-gt-MAX_TUPLE c = let a = c.args in long-tuple a.tuple.now a.table.now c.if-tuple-gt-MAX_TUPLE.true

pub returns-in_err-n : goal.returns-in_err-n
returns-in_err-n c =
    let a = c.args in
    let e = c.in_err-n.ensures in
    let n = no_array a.tuple.now a.table.now c.if-tuple-gt-MAX_TUPLE.false c.count_at.ensures e.ok_part in
    (error_left _ _ c.from_residual.ensures.1 ∙ e.value ∙ ap (λ o. ok_or o Bad) e.ok_part ∙ n.0, n.1)

pub returns-then-n-gt-MAX_FIELDS : goal.returns-then-n-gt-MAX_FIELDS
returns-then-n-gt-MAX_FIELDS c =
    let a = c.args in
    many_fields a.tuple.now a.table.now c.if-tuple-gt-MAX_TUPLE.false c.count_at.ensures c.in_ok-n.ensures.ok_part (omega arith)

pub returns-then-table-n : goal.returns-then-table-n
returns-then-table-n c =
    let a = c.args in
    no_room a.tuple.now a.table.now c.if-tuple-gt-MAX_TUPLE.false c.count_at.ensures c.in_ok-n.ensures.ok_part (omega arith) c.if-table-n.true

pub returns-in_default : goal.returns-in_default
returns-in_default c =
    let a = c.args in
    loaded-broken a.tuple.now a.table.now c.if-tuple-gt-MAX_TUPLE.false c.count_at.ensures c.in_ok-n.ensures.ok_part (omega arith) c.if-table-n.false
    c.measure.ensures.1 (sym c.in_default.is ∙ c.measure.ensures.0)

pub returns-then-end-tuple : goal.returns-then-end-tuple
returns-then-end-tuple c =
    let a = c.args in
    loaded-short a.tuple.now a.table.now c.if-tuple-gt-MAX_TUPLE.false c.count_at.ensures c.in_ok-n.ensures.ok_part (omega arith) c.if-table-n.false
    c.measure.ensures.1 (sym c.in-Ok.is ∙ c.measure.ensures.0) (λ e. omega arith)

pub returns : goal.returns
returns c =
    let a = c.args in
    loaded-all a.tuple.now a.table.now c.if-tuple-gt-MAX_TUPLE.false c.count_at.ensures c.in_ok-n.ensures.ok_part (omega arith) c.if-table-n.false
    c.measure.ensures.1 (sym c.in-Ok.is ∙ c.measure.ensures.0) (omega arith)
