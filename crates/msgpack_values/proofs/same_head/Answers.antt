-- No room, or all three tests.
use native.Mathlib.Omega.{arith}
use Prim.Native.Nat.{◌+◌, ◌≤◌}
use lib.ListN.{length, get_or}
use borrow.Author.Tests.{eqb-true, ltb-true}
use Rattle.msgpack_first_bytes.proofs.Logic.{impossible, ands}
use Rattle.msgpack_values.proofs.same_head.Goals as goal

pub returns : goal.returns
returns c t =
    let a = c.args in
    let room : a.at + a.head.size ≤ length a.s.now = omega arith in
    let (h, l) = ands _ _ t in
    let (f, g) = ands _ _ h in
    record {
      room = room;
      first-is = eqb-true (get_or a.s.now a.at 0) a.head.first f;
      second_is = eqb-true (get_or a.s.now (a.at + 1) 0) a.head.second g;
      more = ltb-true 1 a.left l;
    }

pub returns-then-s-at : goal.returns-then-s-at
returns-then-s-at = λ c t. impossible cc
