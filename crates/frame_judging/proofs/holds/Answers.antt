-- The key, or the next.
use mathlib.Core.Path.{sym, ap, ◌∙◌}
use mathlib.Core.List.{List}
use Rattle.frames.specs.Limits.{known_keys}
use Rattle.frames.specs.Held.{Held, encoded, is_some, Item, locate}
use Rattle.frame_items.specs.Content.{item_of}
use Rattle.frame_judging.proofs.Runs.{run, no_run, body_run, locate_here, locate-on, is_present}
use native.Mathlib.Omega.{arith}
use Rattle.frame_judging.proofs.holds.Goals as goal

pub loop-i-init : goal.loop-i-init
loop-i-init c = let a = c.args in ap (λ (xs : List Item). locate xs a.key) (body_run a.frame a.bytes.now)

pub returns-then-key-from : goal.returns-then-key-from
unfolding item_of
returns-then-key-from c =
    let l = c.loop-i in
    let a = c.args in
    c.is_written.ensures
    ∙ is_present a.bytes.now c.known_key-known.result.content
    ∙ ap (λ (h : Held). is_some (encoded h)) (locate_here a.key (run a.frame a.bytes.now l.i known_keys c.known_key-known.ensures c.loop-i-test.true (omega arith)) (c.if-key-from.true ∙ c.from.ensures) ∙ l.invariant)

pub loop-i-preserved : goal.loop-i-preserved
unfolding item_of
loop-i-preserved c =
    let l = c.loop-i in
    let a = c.args in
    locate-on a.key (run a.frame a.bytes.now l.i known_keys c.known_key-known.ensures c.loop-i-test.true (omega arith)) (λ h. c.if-key-from.false (h ∙ sym c.from.ensures)) ∙ l.invariant

pub returns : goal.returns
unfolding locate is_some encoded
returns c =
    let l = c.loop-i in
    let a = c.args in
    ap (λ (h : Held). is_some (encoded h)) (rw (no_run a.frame a.bytes.now l.i known_keys (omega arith) (omega arith)) at l.invariant)
