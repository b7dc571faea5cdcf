use Prim.Native.Nat.{◌≤◌}
use native.Mathlib.Omega.{arith}
use Rattle.update_places.specs.Place.{length_of}
use Rattle.update_running.proofs.Entries.{one-sum, form_short, put_refused, put-done}
use Rattle.update_running.proofs.put_field.Goals.{After-unsigned_length}
use Rattle.update_running.proofs.put_field.Goals as goal

pub overflow_sub-bytes : goal.overflow_sub-bytes
overflow_sub-bytes c =
    let a = c.args in
    let h = one-sum length_of a.stage.head a.stage.fields a.f a.table.now c.requires.1 c.requires.0.inside in
    let e = c.length_of-gone.ensures.0 in
    let b = c.requires.0.bytes in
    omega (arith, h, e, b)

pub returns-then-not-fits : goal.returns-then-not-fits
returns-then-not-fits c =
    let a = c.args in
    put_refused a.stage a.table.now a.back.now a.f a.p a.used _ _ _ c.length_of-gone.ensures.0 c.length_of.ensures.0
    c.fits.ensures c.if-not-fits.true

short : (c : After-unsigned_length) → c.unsigned_length.result ≤ 9
short c = form_short _ _ c.unsigned_length.ensures

pub overflow_add-result-4 : goal.overflow_add-result-4
overflow_add-result-4 c =
    omega (arith, form_short _ _ c.unsigned_length.ensures, c.length_of-gone.ensures.1, c.requires.0.back)

pub returns : goal.returns
returns c =
    let a = c.args in
    put-done a.stage a.table.now a.back.now a.f a.p a.used _ _ _ c.length_of-gone.ensures.0 c.length_of.ensures.0
    c.fits.ensures c.if-not-fits.false _ _ _ _ _ c.unsigned_length.ensures c.min.ensures c.min-2.ensures
    c.entry_of.ensures c.lay.ensures

pub overflow_add-result-2 : goal.overflow_add-result-2
overflow_add-result-2 c = omega (arith, short c)

pub overflow_add-result-3 : goal.overflow_add-result-3
overflow_add-result-3 c = omega (arith, short c, c.length_of-gone.ensures.1)

pub overflow_sub-stage : goal.overflow_sub-stage
overflow_sub-stage c = omega (arith, c.requires.1)
