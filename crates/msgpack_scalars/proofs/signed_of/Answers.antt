-- Two's complement, by the sign bit.
use native.Mathlib.Omega.{arith}
use Prim.Native.Nat.{◌-◌, ◌*◌, ◌^◌, ◌<◌, ◌+◌, max}
use mathlib.Core.Path.{◌≡◌}
use lib.Pow.{pow_pos}
use lib.ListN.{drop}
use Rattle.msgpack_scalars.specs.Integer.{natural_of, signed_of}
use Rattle.msgpack_scalars.proofs.Laws as Laws
use Rattle.msgpack_scalars.proofs.signed_of.Goals.{After-sign_bit-half}
use Rattle.msgpack_scalars.proofs.signed_of.Goals as goal

-- the number, the sign bit, and the bounds of both
known : (c : After-sign_bit-half) →
    (let a = c.args in let n = c.natural_of-n.result in let h = c.sign_bit-half.result in
    (n ≡ natural_of a.more (drop a.at a.s.now)) × ((h ≡ 2 ^ (8 * a.more - 1)) × ((n < h + h) × (0 < h))))
known c =
    let a = c.args in
    let e = c.sign_bit-half.ensures in
    let m : max a.more 1 ≡ a.more = omega arith in
    let b = rw m at c.natural_of-n.ensures.1 in
    let d = Laws.doubled a.more (omega arith) in
    let p = pow_pos (8 * a.more - 1) in
    (c.natural_of-n.ensures.0, (e, (omega arith, omega arith)))

pub returns : goal.returns
returns c =
    let a = c.args in
    let k = known (goal.at.returns c).After-sign_bit-half in
    Laws.signed_high (drop a.at a.s.now) a.more _ _ (omega arith) k.0 k.1.0 c.if-n-half.false (rw (Laws.doubled a.more (omega arith), ← k.1.0) k.1.1.0)

pub overflow_sub-result : goal.overflow_sub-result
overflow_sub-result c = let b = rw c.if-more-eq0.true at c.natural_of-n.ensures.1 in omega (arith, b)

pub returns-then-more-eq0 : goal.returns-then-more-eq0
unfolding signed_of natural_of
returns-then-more-eq0 c = rw (c.natural_of-n.ensures.0, c.if-more-eq0.true)

pub returns-then-n-half : goal.returns-then-n-half
returns-then-n-half c = let k = known (goal.at.returns-then-n-half c).After-sign_bit-half in
    let a = c.args in Laws.signed_low _ a.more _ _ (omega arith) k.0 k.1.0 c.if-n-half.true

pub overflow_sub-result-2 : goal.overflow_sub-result-2
overflow_sub-result-2 c = let k = known (goal.at.overflow_sub-result-2 c).After-sign_bit-half in omega arith

pub overflow_sub-result-4 : goal.overflow_sub-result-4
overflow_sub-result-4 c = let k = known (goal.at.overflow_sub-result-4 c).After-sign_bit-half in omega arith
