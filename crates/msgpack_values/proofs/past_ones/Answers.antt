-- One more at each turn. The places up to the stop fall.
use borrow.Author.Tests.{eqb-true}
use native.Mathlib.Omega.{arith}
use Prim.Native.Nat.{◌+◌}
use mathlib.Core.Path.{refl, sym, ◌∙◌}
use Rattle.msgpack_first_bytes.specs.Entry.{array_of_one}
use Rattle.msgpack_values.proofs.Tokens.{no_ones, one, joined}
use Rattle.msgpack_values.proofs.past_ones.Goals as goal

pub loop-end-preserved : goal.loop-end-preserved
loop-end-preserved c =
    let l = c.loop-end in
    let a = c.args in (
      omega arith,
      joined a.s.now a.at l.end (l.end + 1) l.invariant.1
          (one a.s.now l.end (l.end + 1) refl (eqb-true _ array_of_one (sym c.is_array_of_one.ensures ∙ c.if-is_array_of_one.true))),
    )

pub loop-end-init : goal.loop-end-init
loop-end-init c = let a = c.args in (c.requires.0, no_ones a.s.now a.at)

pub returns-else-is_array_of_one : goal.returns-else-is_array_of_one
returns-else-is_array_of_one c = c.loop-end.invariant

pub returns-after-loop-end : goal.returns-after-loop-end
returns-after-loop-end c = c.loop-end.invariant
