use Prim.Native.Nat.{◌≤◌}
use native.Mathlib.Omega.{arith}
use Rattle.update_running.proofs.Entries.{form_short, add-refused, add_done}
use Rattle.update_running.proofs.add_field.Goals.{After-unsigned_length}
use Rattle.update_running.proofs.add_field.Goals as goal

pub returns-then-not-fits : goal.returns-then-not-fits
returns-then-not-fits c =
    let a = c.args in
    add-refused a.stage a.table.now a.back.now a.f a.p _ _ c.length_of.ensures.0 c.fits.ensures c.if-not-fits.true

short : (c : After-unsigned_length) → c.unsigned_length.result ≤ 9
short c = form_short _ _ c.unsigned_length.ensures

pub returns : goal.returns
returns c =
    let a = c.args in
    add_done a.stage a.table.now a.back.now a.f a.p _ _ c.length_of.ensures.0 c.fits.ensures c.if-not-fits.false
    _ _ _ _ _ _ _ c.unsigned_length.ensures c.min.ensures c.min-2.ensures c.entry_of.ensures c.lay.ensures c.add-head.ensures

pub overflow_add-result-3 : goal.overflow_add-result-3
overflow_add-result-3 c = omega (arith, short c)

pub overflow_add-result-4 : goal.overflow_add-result-4
overflow_add-result-4 c = omega (arith, short c)

pub overflow_add-result-5 : goal.overflow_add-result-5
overflow_add-result-5 c = omega (arith, form_short _ _ c.unsigned_length.ensures, c.requires.0.back)
