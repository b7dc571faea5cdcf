-- The lines one after the other: what stands, with what is still to come, is all.
use mathlib.Core.Path.{refl, sym, ◌∙◌}
use Prim.Native.Nat.{◌-◌}
use native.Mathlib.Omega.{arith}
use lib.ListN.{length, drop, length-drop, length-take}
use lib.Seq.{take_all, length-take-le}
use Rattle.frame_listing.proofs.Standing.{start, line_turn, after_frame, most-frame, after_last, finish}
use Rattle.frame_listing.proofs.lay.Goals as goal

pub returns-then-bytes-eq0 : goal.returns-then-bytes-eq0
returns-then-bytes-eq0 c =
    let a = c.args in
    let i = c.loop-line.invariant in
    let e = take_all (length a.input.now - c.loop-line.at) (drop c.loop-line.at a.input.now) (simp length-drop (omega arith)) in
    let g = c.first_line-length.ensures in
    let z = after_last c.first_line-length.result.bytes c.loop-line.number (drop c.loop-line.at a.input.now) c.if-bytes-eq0.true in
    let m = g.short in
    let y = finish (rw z.0 at (line_turn (drop c.loop-line.at a.input.now) _ e i.5 g c.write_bytes.ensures.1)) in
    (y.0, (omega (arith, z.1, m, i.2, i.4), y.1))

pub loop-line-preserved : goal.loop-line-preserved
loop-line-preserved c =
    let a = c.args in
    let i = c.loop-line.invariant in
    let e = take_all (length a.input.now - c.loop-line.at) (drop c.loop-line.at a.input.now) (simp length-drop (omega arith)) in
    let g = c.first_line-length.ensures in
    let p = c.if-bytes-eq0.false in
    let z = after_frame c.first_line-length.result.bytes c.loop-line.number c.loop-line.at a.input.now (omega (arith, p)) in
    let m = most-frame c.first_line-length.result.bytes (omega (arith, p)) in
    let h = g.short in
    let b = simp (length-take, length-drop) at g.within in (
      c.first_line-length.auto.line ∙ i.0,
      c.write_bytes.auto.out ∙ i.1,
      omega (arith, b, i.2),
      omega (arith, p, i.3),
      omega (arith, h, m, i.4),
      rw z at (line_turn (drop c.loop-line.at a.input.now) _ e i.5 g c.write_bytes.ensures.1),
    )

pub first_line-length-requires : goal.first_line-length-requires
first_line-length-requires c =
    let b = c.requires.0 in
    let i = c.loop-line.invariant in
    (simp (length-take, length-drop) (omega (arith, b)), omega (arith, b, i.2, i.3), i.0)

pub overflow_add-to : goal.overflow_add-to
overflow_add-to c =
    let k = c.first_line-length.ensures.fits in
    let n = c.first_line-length.auto.line in
    let i = c.loop-line.invariant in
    record { fits = omega (arith, k, n, i.0, i.2, i.4, c.requires.0) }

pub overflow_add-at : goal.overflow_add-at
overflow_add-at c =
    let b = simp (length-take, length-drop) at c.first_line-length.ensures.within in
    record { fits = omega (arith, b, c.loop-line.invariant.2, c.requires.0) }

pub loop-line-smaller : goal.loop-line-smaller
loop-line-smaller c =
    let b = simp (length-take, length-drop) at c.first_line-length.ensures.within in
    let p = c.if-bytes-eq0.false in
    omega (arith, b, p, c.loop-line.invariant.2)

pub loop-line-init : goal.loop-line-init
loop-line-init c = (refl, refl, omega arith, omega arith, omega arith, start _ _ _)

pub overflow_add-from : goal.overflow_add-from
overflow_add-from c = let i = c.loop-line.invariant in record { fits = omega (arith, i.2, i.4, c.requires.0, c.requires.1) }

pub slice_bounds-line-end : goal.slice_bounds-line-end
slice_bounds-line-end c = c.first_line-length.ensures.fits

pub slice_bounds-write_bytes-end : goal.slice_bounds-write_bytes-end
slice_bounds-write_bytes-end c = sym (length-take-le _ _ c.first_line-length.ensures.fits)
