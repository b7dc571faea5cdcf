-- `spell` goes from the last digit to the first: the digits that are left, with those that stand, are all.
use mathlib.Core.Path.{◌≡◌, ap, ◌∙◌}
use mathlib.Core.List.{[], ◌∷◌, ◌++◌}
use native.Mathlib.Omega.{arith}
use lib.ListN.{drop, set, length-set, drop_of_length-le}
use Rattle.frame_listing_fields.specs.Text.{decimal}
use Rattle.frame_listing_fields.proofs.Decimal.{few, store, turn, last}
use Rattle.frame_listing_fields.proofs.spell.Goals as goal

pub loop-i-init : goal.loop-i-init
loop-i-init c =
    let a = c.args in
    let e : drop 21 a.text.now ≡ [] = drop_of_length-le a.text.now {i = 21} (omega arith) in
    let f : drop 20 (set a.text.now 20 a.end) ≡ a.end ∷ [] = store a.text.now 20 a.end (omega arith) ∙ ap (◌∷◌ a.end) e in
    (simp length-set (omega arith), omega arith, few 19 a.n (omega arith), ap (◌++◌ (decimal a.n)) f)

pub loop-i-preserved : goal.loop-i-preserved
loop-i-preserved c =
    let l = c.loop-i in
    let t = turn l.text _ l.rest l.i (omega arith) l.invariant.2 l.invariant.3 (omega arith) l.invariant.1 in
    (simp length-set (omega arith), omega arith, t.0, t.1)

pub returns-then-rest-eq0 : goal.returns-then-rest-eq0
returns-then-rest-eq0 c =
    let l = c.loop-i in
    let t = last l.text _ l.rest l.i (omega arith) l.invariant.2 l.invariant.3 c.if-rest-eq0.true c.loop-i-test.true in
    (simp length-set (omega arith), (omega arith, t))
