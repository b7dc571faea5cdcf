-- The bytes that are asked for, where they are all there; and the number of them, a byte at a time.
use Rattle.std.specs.Prelude.{Some, slice_range}
use native.Mathlib.Omega.{arith}
use borrow.Author.Tests.{le-leb}
use Prim.Native.Nat.{ℕ, ◌+◌, ◌-◌, ◌≤◌}
use mathlib.Core.Path.{◌≡◌, refl, ap, ◌∙◌}
use lib.ListN.{length, take, drop, length-drop}
use lib.Seq.{take_all}
use Rattle.msgpack_first_bytes.specs.Bytes.{Bytes}
use Rattle.msgpack_numbers.specs.Number.{number}
use Rattle.msgpack_numbers.proofs.Big.{number_suc, grow, small}
use Rattle.msgpack_numbers.proofs.number_at.Goals.{In_ok-b-items}
use Rattle.msgpack_numbers.proofs.number_at.Goals as goal

-- a part of what is left from a place on
part : (s u v : Bytes) (at w : ℕ) → u ≡ slice_range s at (length s) → v ≡ slice_range u 0 w → v ≡ take w (drop at s)
part s u v at w e q =
    let d : length (drop at s) ≤ length s - at = simp length-drop (omega arith) in
    let f : u ≡ drop at s = e ∙ take_all (length s - at) (drop at s) d in
    let z : w - 0 ≡ w = omega arith in
    rw (z, f) at q

-- they are all there
module _ (c : In_ok-b-items) where
  count : length c.in_ok-b-items.b-items.now ≡ c.args.width
  count = let h = c.in_ok-b-items.ensures.lookup.0 in omega arith

  there : c.args.at + c.args.width ≤ length c.args.s.now
  there = let h = c.in_ok-get.ensures.lookup.0 in let k = c.in_ok-b-items.ensures.lookup.0 in omega arith

  bytes : c.in_ok-b-items.b-items.now ≡ take c.args.width (drop c.args.at c.args.s.now)
  bytes = part c.args.s.now _ _ c.args.at c.args.width c.in_ok-get.ensures.lookup.0.2 c.in_ok-b-items.ensures.lookup.0.2

pub loop-b-init : goal.loop-b-init
unfolding number
loop-b-init c = (refl, omega arith)

pub loop-b-preserved : goal.loop-b-preserved
loop-b-preserved c =
    let l = c.loop-b in
    let b = c.in_ok-b-items.b-items.now in
    (cc (c.appended-n.ensures, l.invariant.0, number_suc b l.b-index c.loop-b-test.true), rw c.appended-n.ensures (grow l.b-index l.invariant.1 (omega arith)))

pub appended-n-requires : goal.appended-n-requires
appended-n-requires c =
    let l = c.loop-b in
    let k = count (goal.at.appended-n-requires c).In_ok-b-items in
    small l.n l.b-index 7 (omega arith) l.invariant.1

pub returns : goal.returns
returns c =
    let l = c.loop-b in
    let a = c.args in
    let p = (goal.at.returns c).In_ok-b-items in
    let k = count p in
    let e : l.b-index ≡ a.width = omega arith in
    let i = rw e at l.invariant.0 in
    let b = c.in_ok-b-items.b-items.now in
    let t : take a.width b ≡ b = take_all a.width b (omega arith) in
    (simp (le-leb a.width 8 (omega arith), le-leb (a.at + a.width) (length a.s.now) (there p)) (ap Some (i ∙ ap number (t ∙ bytes p))), rw e at l.invariant.1)
