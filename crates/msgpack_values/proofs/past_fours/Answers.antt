-- Four more at each turn. The places up to the stop fall.
use native.Mathlib.Omega.{arith}
use Prim.Native.Nat.{◌+◌}
use Rattle.msgpack_values.proofs.Tokens.{no_ones, joined}
use Rattle.msgpack_values.proofs.past_fours.Goals as goal

pub loop-end-preserved : goal.loop-end-preserved
loop-end-preserved c =
    let l = c.loop-end in
    let a = c.args in
    (omega arith, joined a.s.now a.at l.end (l.end + 4) l.invariant.1 (c.four_ones.ensures c.if-four_ones.true))

pub loop-end-init : goal.loop-end-init
loop-end-init c = let a = c.args in (c.requires.0, no_ones a.s.now a.at)

pub returns-else-four_ones : goal.returns-else-four_ones
returns-else-four_ones c = c.loop-end.invariant

pub returns-after-loop-end : goal.returns-after-loop-end
returns-after-loop-end c = c.loop-end.invariant
