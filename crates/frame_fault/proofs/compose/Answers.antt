-- Frame after frame, up to the first that is refused: what is reported of the rest is the whole report.
use mathlib.Core.Path.{◌≡◌, refl, sym, ap, ◌∙◌}
use Prim.Native.Nat.{ℕ, ◌-◌, ◌≤◌}
use native.Mathlib.Omega.{arith}
use borrow.Author.Rules.{rules}
use lib.ListN.{length, take, drop, length-drop}
use lib.Seq.{take_all, drop-drop}
use Rattle.msgpack_first_bytes.specs.Bytes.{Bytes}
use Rattle.frames.specs.declared.FrameAnswer.{FrameAnswer}
use Rattle.frames.specs.Reading.{frame_read}
use Rattle.frame_listing.proofs.Within.{Within, frame-within}
use Rattle.frame_fault.specs.Fault.{clean_line}
use Rattle.frames.proofs.Placed.{frame-placed}
use Rattle.frame_fault.proofs.Search.{frame-first, fault_turn, clean_turn}
use Rattle.frame_fault.proofs.compose.Goals as goal

-- what is left is lent whole
lent : (s : Bytes) (at : ℕ) → take (length s - at) (drop at s) ≡ drop at s
lent s at = take_all (length s - at) (drop at s) (simp length-drop (omega arith))

-- a frame that is read is within it
within : (s : Bytes) (at : ℕ) (a : FrameAnswer) → a ≡ frame_read (take (length s - at) (drop at s)) → Within 2 (length s - at) a
within s at a q =
    let e : length (drop at s) ≡ length s - at = length-drop at s in
    rw (← e, q, lent s at) (frame-within (drop at s))

pub returns-then-answer-ne0 : goal.returns-then-answer-ne0
returns-then-answer-ne0 c =
    let s = c.args.input.now in
    let e = length-drop c.loop-at.at s in
    let v = c.loop-at.invariant in
    let m = c.requires in
    rw (sym v.2) (fault_turn _ _ _ v.3 v.1 c.read_frame-answer.ensures (lent s c.loop-at.at) (omega arith) c.if-answer-ne0.true c.read_frame-answer.type_inv.1.1.0.1 (omega arith) c.write_fault.ensures)

pub loop-at-preserved : goal.loop-at-preserved
loop-at-preserved c =
    let s = c.args.input.now in
    let e = length-drop c.loop-at.at s in
    let v = c.loop-at.invariant in
    let a = c.read_frame-answer.result in
    let k = within s c.loop-at.at a c.read_frame-answer.ensures in
    let f = k.fits in
    let z = k.least c.if-answer-ne0.false in (
      omega arith,
      omega arith,
      v.2,
      rw (drop-drop a.length c.loop-at.at s) at (sym (frame-first c.loop-at.frames c.loop-at.at (drop c.loop-at.at s) a (c.read_frame-answer.ensures ∙ ap frame_read (lent s c.loop-at.at)) (omega arith) c.if-answer-ne0.false)) ∙ v.3,
    )

pub returns : goal.returns
unfolding clean_line
returns c =
    let e = length-drop c.loop-at.at c.args.input.now in
    let v = c.loop-at.invariant in
    rw (sym v.2) (clean_turn _ _ _ v.3 v.1 (omega arith) (omega arith) c.write_counted.ensures)

pub write_fault-requires : goal.write_fault-requires
write_fault-requires c =
    let s = c.args.input.now in
    let e = length-drop c.loop-at.at s in
    let p : c.read_frame-answer.result.place.value ≤ length (drop c.loop-at.at s) = rw (c.read_frame-answer.ensures, lent s c.loop-at.at) (frame-placed (drop c.loop-at.at s)).within in
    omega (arith, p, e, c.loop-at.invariant.0, c.requires)

pub overflow_add-at : goal.overflow_add-at
overflow_add-at c = let k = (within c.args.input.now c.loop-at.at c.read_frame-answer.result c.read_frame-answer.ensures).fits in search rules

pub loop-at-smaller : goal.loop-at-smaller
loop-at-smaller c =
    let k = within c.args.input.now c.loop-at.at c.read_frame-answer.result c.read_frame-answer.ensures in
    let f = k.fits in
    let z = k.least c.if-answer-ne0.false in
    omega arith

pub loop-at-init : goal.loop-at-init
loop-at-init c = (omega arith, omega arith, refl, refl)

pub shape_of-out-then-answer-ne0 : goal.shape_of-out-then-answer-ne0
shape_of-out-then-answer-ne0 c = c.write_fault.auto.out ∙ ap length c.loop-at.invariant.2

pub shape_of-out : goal.shape_of-out
shape_of-out c = c.write_counted.auto.out ∙ ap length c.loop-at.invariant.2
