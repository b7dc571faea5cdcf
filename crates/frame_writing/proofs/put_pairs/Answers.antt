-- One pair after the other.
use mathlib.Core.Path.{ap}
use Rattle.msgpack_values.specs.Pieces.{joined}
use Rattle.frames.specs.Held.{encoded}
use Rattle.frames.specs.Writing.{pairs, flat}
use Rattle.frame_items.specs.Content.{held_of}
use Rattle.frame_judging.specs.Parts.{pair_of, pair_bytes}
use Rattle.frame_judging.proofs.Runs.{run, no_run, part-run, part-within, pair-first}
use Rattle.frame_writing.proofs.Turns.{all_left, turn_on, turned, long, first-room}
use native.Mathlib.Omega.{arith}
use Rattle.frame_writing.proofs.put_pairs.Goals as goal

pub put_pair-a-requires : goal.put_pair-a-requires
put_pair-a-requires c =
    let l = c.loop-i in
    let a = c.args in
    let k = c.known_key-key.result in
    let e = run a.frame a.bytes.now l.i c.keys_of-from.result.1 c.known_key-key.ensures c.loop-i-test.true (part-within a.part c.keys_of-from.ensures).1 in
    first-room (pair_of k.key (encoded (held_of a.bytes.now k.content))) _ l.a (pair-first a.bytes.now k e) l.invariant.room

pub loop-i-preserved : goal.loop-i-preserved
loop-i-preserved c =
    let l = c.loop-i in
    let a = c.args in
    let k = c.known_key-key.result in
    let e = run a.frame a.bytes.now l.i c.keys_of-from.result.1 c.known_key-key.ensures c.loop-i-test.true (part-within a.part c.keys_of-from.ensures).1 in
    turn_on l.invariant (pair_of k.key (encoded (held_of a.bytes.now k.content))) (pair-first a.bytes.now k e) c.put_pair-a.ensures

pub returns : goal.returns
unfolding pair_bytes pairs flat joined
returns c =
    let l = c.loop-i in
    let a = c.args in
    let k = part-within a.part c.keys_of-from.ensures in
    rw (← (part-run a.frame a.bytes.now a.part c.keys_of-from.ensures))
    (turned l.invariant (ap pair_bytes (no_run a.frame a.bytes.now l.i c.keys_of-from.result.1 (omega arith) (omega arith))))

pub loop-i-init : goal.loop-i-init
loop-i-init c =
    let a = c.args in
    all_left _ _ _ (rw (← (part-run a.frame a.bytes.now a.part c.keys_of-from.ensures)) at c.requires)

pub shape_of-out : goal.shape_of-out
shape_of-out c = long c.loop-i.invariant
