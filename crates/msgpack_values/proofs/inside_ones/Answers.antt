-- None, or those that are passed, four at a turn and then one.
use native.Mathlib.Omega.{arith}
use Prim.Native.Nat.{◌≤◌, ◌+◌}
use mathlib.Core.Path.{refl}
use lib.ListN.{length}
use Rattle.msgpack_values.specs.Tokens.{Ones}
use Rattle.msgpack_values.proofs.Tokens.{joined, inside_ones}
use Rattle.msgpack_values.proofs.inside_ones.Goals.{After-past_ones-end}
use Rattle.msgpack_values.proofs.inside_ones.Goals as goal

-- all that are passed
module _ (c : After-past_ones-end) where
  passed : (let a = c.args in Ones a.s.now a.at c.past_ones-end.result)
  passed = let a = c.args in joined a.s.now a.at _ _ c.past_fours.ensures.1 c.past_ones-end.ensures.1

  bounds : (let a = c.args in (a.at ≤ c.past_ones-end.result) × ((c.past_ones-end.result ≤ length a.s.now) × (c.past_ones-end.result ≤ a.at + a.depth)))
  bounds = let h = passed.further in let p = c.past_ones-end.ensures.0 in let q = c.min.ensures in (h, (omega arith, omega arith))

pub returns : goal.returns
returns c =
    let a = c.args in
    let b = bounds (goal.at.returns c).After-past_ones-end in
    record {
      further = b.0;
      deep = omega arith;
      same = inside_ones a.s.now a.at c.past_ones-end.result a.depth b.1.0 b.1.1 (passed (goal.at.returns c).After-past_ones-end);
      told = c.first_byte_entry.ensures;
    }

pub returns-then-e-ne-ARRAY_OF_ONE : goal.returns-then-e-ne-ARRAY_OF_ONE
returns-then-e-ne-ARRAY_OF_ONE c = record { further = omega arith; deep = omega arith; same = refl; told = c.requires.1 }

pub past_fours-requires : goal.past_fours-requires
past_fours-requires c = (omega arith, omega arith)

pub past_ones-end-requires : goal.past_ones-end-requires
past_ones-end-requires c = (c.past_fours.ensures.0, omega arith)

pub overflow_sub-result : goal.overflow_sub-result
overflow_sub-result c = (bounds (goal.at.overflow_sub-result c).After-past_ones-end).0

pub overflow_sub-result-2 : goal.overflow_sub-result-2
overflow_sub-result-2 c = let b = bounds (goal.at.overflow_sub-result-2 c).After-past_ones-end in omega arith
