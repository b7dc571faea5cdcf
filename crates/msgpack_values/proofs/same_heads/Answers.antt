-- The next item has the same head as long as the test says so.
use native.Mathlib.Omega.{arith}
use Prim.Native.Nat.{suc, ◌+◌, ◌-◌}
use mathlib.Core.Path.{◌≡◌, refl, sym, ◌∙◌}
use lib.ListN.{get_or}
use Rattle.msgpack_values.specs.Value.{value}
use Rattle.msgpack_values.specs.Tokens.{Same}
use Rattle.msgpack_values.proofs.Laws.{items-whole}
use Rattle.msgpack_values.proofs.same_heads.Goals.{In-loop-head}
use Rattle.msgpack_values.proofs.same_heads.Goals as goal

-- the next item has the same head, and is passed
passed : (c : In-loop-head) → (let l = c.loop-head in let a = c.args in
    Same a.s.now l.end (get_or a.s.now a.at 0) (get_or a.s.now (a.at + 1) 0) (a.next - a.at) l.rest)
passed c = c.same_head.ensures c.loop-head-test.true

pub overflow_sub-head : goal.overflow_sub-head
overflow_sub-head c = let h = c.requires.0 in omega (arith, h.head)

pub bounds-s-at : goal.bounds-s-at
bounds-s-at c = let h = c.requires.0 in omega (arith, h.head, h.room)

pub bounds-s-at-2 : goal.bounds-s-at-2
bounds-s-at-2 c = let h = c.requires.0 in omega (arith, h.head, h.room)

pub loop-head-init : goal.loop-head-init
loop-head-init c = let p = c.requires in record { further = omega arith; room = p.0.room; one = p.1; fewer = omega arith; same = λ d. refl }

pub loop-head-preserved : goal.loop-head-preserved
loop-head-preserved c =
    let l = c.loop-head in
    let i = l.invariant in
    let a = c.args in
    let n = passed (goal.at.loop-head-preserved c).In-loop-head in
    let e : l.rest - 1 ≡ suc (l.rest - 1 - 1) = omega (arith, n.more) in
    record {
      further = omega (arith, i.further);
      room = n.room;
      one = omega (arith, n.more);
      fewer = omega (arith, i.fewer);
      same =
          λ d.
          sym (items-whole (value d) a.s.now l.end (l.rest - 1 - 1) (l.end + (a.next - a.at)) (c.requires.0.alike l.end d n.room n.first-is n.second_is))
          ∙ (rw e at (i.same d));
    }

pub overflow_add-end : goal.overflow_add-end
overflow_add-end c = let n = passed (goal.at.overflow_add-end c).In-loop-head in omega (arith, n.room)

pub overflow_sub-rest : goal.overflow_sub-rest
overflow_sub-rest c = let n = passed (goal.at.overflow_sub-rest c).In-loop-head in omega (arith, n.more)

pub loop-head-smaller : goal.loop-head-smaller
loop-head-smaller c = let n = passed (goal.at.loop-head-smaller c).In-loop-head in omega (arith, n.more)

pub same_head-requires : goal.same_head-requires
same_head-requires c = let h = c.requires.0 in (c.loop-head.invariant.room, omega (arith, h.head))

pub returns : goal.returns
returns c = let i = c.loop-head.invariant in record { further = i.further; one = i.one; fewer = i.fewer; same = i.same }
