-- One key after the other.
use Rattle.frame_judging.proofs.Runs.{run, no_run, part-run, part-within}
use Rattle.frame_judging.proofs.Passes.{none_yet, next_turn, none_left}
use native.Mathlib.Omega.{arith}
use mathlib.Core.Path.{◌≡◌, refl, ap, ◌∙◌}
use mathlib.Core.Bool.{Bool, true, false}
use Prim.Native.Nat.{◌≤◌}
use mir.Val.{bool_byte}
use Rattle.msgpack_first_bytes.specs.Bytes.{pick}
use Rattle.frame_judging.proofs.judged.Goals as goal

-- a pair is written or not
one_or_none : (b : Bool) → (bool_byte b ≤ 1) × (bool_byte b ≡ pick b 1 0)
one_or_none true = (omega arith, refl)
one_or_none false = (omega arith, refl)

pub loop-i-init : goal.loop-i-init
loop-i-init c = (omega arith, none_yet _)

pub loop-i-preserved : goal.loop-i-preserved
loop-i-preserved c =
    let l = c.loop-i in
    let a = c.args in
    let k = part-within a.part c.keys_of-from.ensures in
    let e = run a.frame a.bytes.now l.i c.keys_of-from.result.1 c.known_key-rule.ensures c.loop-i-test.true k.1 in
    let b = one_or_none c.is_written.result in (
      omega arith,
      next_turn a.bytes.now c.known_key-rule.result e l.invariant.1 c.is_sound-sound.ensures c.content_suits-suited.ensures
          (c.from-count.ensures ∙ b.1 ∙ ap (λ (w : Bool). pick w 1 0) c.is_written.ensures) c.pair_length.ensures c.capped_sum-length.ensures,
    )

pub returns : goal.returns
returns c =
    let l = c.loop-i in
    let a = c.args in
    let k = part-within a.part c.keys_of-from.ensures in
    rw (← (part-run a.frame a.bytes.now a.part c.keys_of-from.ensures)) (none_left l.invariant.1 (no_run a.frame a.bytes.now l.i c.keys_of-from.result.1 (omega arith) (omega arith)))
