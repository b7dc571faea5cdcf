-- `updates::update_long` meets its contract. The invariant: what is left to do on the tuple that stands in the first array is what was to be
-- done, and nothing is written.
use mathlib.Core.Path.{refl, sym, ap, ◌∙◌}
use native.Mathlib.Omega.{arith}
use borrow.Author.Rules.{rules}
use lib.ListN.{length}
use lib.Seq.{length-take-le}
use Rattle.updates.proofs.Calls.{long-tuple, first_turn, told_as, no_room, rebased, rebased_room, rebased_on}
use Rattle.updates.proofs.update_long.Goals as goal

pub returns-then-request-gt-MAX_TUPLE : goal.returns-then-request-gt-MAX_TUPLE
returns-then-request-gt-MAX_TUPLE c =
    let a = c.args in
    long-tuple a.request.tuple.now a.request.list.now a.request.base a.out.now (omega arith)

pub loop-n-init : goal.loop-n-init
loop-n-init c =
    let a = c.args in
    let f = first_turn a.request.tuple.now a.request.list.now a.request.base a.request.count a.request.start c.requires _ c.write_bytes-length.ensures (omega arith) in
    (f.0, (refl, (refl, (f.1.0, (f.1.1, (refl, (refl, refl)))))))

pub slice_bounds-one-end : goal.slice_bounds-one-end
slice_bounds-one-end c = omega arith

pub slice_bounds-update_with-end : goal.slice_bounds-update_with-end
slice_bounds-update_with-end c = sym (length-take-le _ _ (omega arith))

pub returns-in-Err-NoRoom : goal.returns-in-Err-NoRoom
returns-in-Err-NoRoom c =
    let g = c.loop-n in
    let h = rw c.in-Err-NoRoom.field-0-is at c.in-Err-NoRoom.ensures in
    no_room g.table g.work g.other h.2 g.invariant.1.1.1.1.1.1.0 g.invariant.1.1.1.1.1.1.1 g.invariant.1.1.1.1.1.0

pub returns-in-Err-Refused : goal.returns-in-Err-Refused
returns-in-Err-Refused c =
    let g = c.loop-n in
    let a = c.args in
    let h = rw c.in-Err-Refused.field-0-is at c.in-Err-Refused.ensures in
    (h.0 ∙ told_as a.request.tuple.now a.request.list.now a.request.base g.invariant.0 g.invariant.1.0, h.2)

pub returns-in-Ok : goal.returns-in-Ok
returns-in-Ok c =
    let g = c.loop-n in
    let a = c.args in
    let h = c.in-Ok.ensures in
    h.0 ∙ told_as a.request.tuple.now a.request.list.now a.request.base g.invariant.0 g.invariant.1.0

pub loop-n-smaller : goal.loop-n-smaller
loop-n-smaller c =
    let g = c.loop-n in
    let R = rw c.in-Err-Moved.field-0-is at c.in-Err-Moved.ensures in
    let e = rebased_on R.1 g.invariant.1.1.1.1.1.1.1 in
    omega arith

pub loop-n-preserved : goal.loop-n-preserved
loop-n-preserved c =
    let g = c.loop-n in
    let R = rw c.in-Err-Moved.field-0-is at c.in-Err-Moved.ensures in
    let e = rebased R.1 g.one c.write_bytes-length-in-Err-Moved.ensures (omega arith) g.invariant.1.1.1.1.1.0 in
    (e.0 ∙ g.invariant.0, (R.0 ∙ g.invariant.1.0, (ap length R.0 ∙ g.invariant.1.1.0, (omega arith, (e.1.1 ∙ g.invariant.1.1.1.1.0, ((rebased_room R.1).1 ∙ g.invariant.1.1.1.1.1.0, (search rules, search rules)))))))
