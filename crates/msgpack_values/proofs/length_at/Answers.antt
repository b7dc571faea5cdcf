-- Each width by its bytes, one after the other.
use native.Mathlib.Omega.{arith}
use mathlib.Core.Path.{refl}
use Rattle.msgpack_numbers.proofs.Big as Big
use Rattle.msgpack_values.proofs.length_at.Goals as goal

pub returns : goal.returns
returns c =
    let d = c.before.before.before.before.before.before in
    let a = d.args in
    let n1 = Big.number-first a.s.now a.at 1 _ (omega arith) refl d.longer-2.ensures.0 in
    let n2 = Big.number_step a.s.now a.at 1 2 _ _ (omega arith) refl n1 c.longer-3.ensures.0 in
    let n3 = Big.number_step a.s.now a.at 2 3 _ _ (omega arith) refl n2 c.longer-4.ensures.0 in
    (Big.number_step a.s.now a.at 3 a.width _ _ (omega arith) (omega arith) n3 c.longer-5.ensures.0, omega arith)

pub returns-then-width-eq1 : goal.returns-then-width-eq1
returns-then-width-eq1 c = let d = c.before.before in let a = d.args in
    (Big.number-first a.s.now a.at a.width _ (omega arith) d.if-width-eq1.true c.longer.ensures.0, omega arith)

pub returns-then-width-eq2 : goal.returns-then-width-eq2
returns-then-width-eq2 c = let d = c.before.before in let a = d.args in
    let n = Big.number-first a.s.now a.at 1 _ (omega arith) refl d.longer-then-width-eq2.ensures.0 in
    (Big.number_step a.s.now a.at 1 a.width _ _ (omega arith) d.if-width-eq2.true n c.longer-then-width-eq2-2.ensures.0, omega arith)
