-- 19, a repeated refusal, or the frame at hand.
use Rattle.std.proofs.Common.{take, sym, refl, arith, length-take-le, le-ltb, lt-ltb, eq-eqb, ne_eqb}
use Rattle.sessions.specs.Session.{begun, feed_of, carry_of}
use Rattle.session_feeding.proofs.Steps.{take_least, waits, answer-is}
use Rattle.session_feeding.proofs.feed.Goals as goal

pub returns-then-carry-lt-CARRY_ROOM : goal.returns-then-carry-lt-CARRY_ROOM
unfolding feed_of carry_of
returns-then-carry-lt-CARRY_ROOM c = rw (lt-ltb _ _ c.if-carry-lt-CARRY_ROOM.true) (c.idle.ensures, refl)

pub returns-then-session-ne0 : goal.returns-then-session-ne0
unfolding feed_of carry_of
returns-then-session-ne0 c = rw (le-ltb _ _ c.if-carry-lt-CARRY_ROOM.false, ne_eqb _ 0 c.if-session-ne0.true) (c.idle-then-session-ne0.ensures, refl)

pub answered-requires : goal.answered-requires
answered-requires c =
    let a = c.args in
    let n = c.min-held.result in
    let m = c.min-held.ensures in
    let t = c.go_on-frame.ensures in
    rw (t.0.0.0, t.0.0.1) (waits (take n a.carry.now) a.piece.now (sym (length-take-le n a.carry.now (omega arith))) t.0.1.1)

pub returns : goal.returns
unfolding feed_of carry_of begun
returns c =
    let a = c.args in
    let n = c.min-held.result in
    let m = c.min-held.ensures in
    let t = c.go_on-frame.ensures in
    rw (le-ltb _ _ c.if-carry-lt-CARRY_ROOM.false, eq-eqb _ 0 c.if-session-ne0.false, ← (take_least a.session.held a.carry.now m))
    (answer-is (take n a.carry.now) a.piece.now (sym (length-take-le n a.carry.now (omega arith))) t.0.1.1 a.session t.0.1.0 (rw (t.0.0.0, t.0.0.1) at c.answered.ensures), t.1)
