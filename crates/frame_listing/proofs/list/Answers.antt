-- Input that is too long; no room; the heading and the lines.
use native.Mathlib.Omega.{arith}
use Rattle.msgpack_writing.proofs.Put.{refused}
use Rattle.frame_listing.specs.Listing.{heading}
use Rattle.frame_listing.proofs.Standing.{listing-long, listing-length, headed, both, next-within}
use Rattle.frame_listing.proofs.list.Goals as goal

pub returns-then-input-gt-MOST : goal.returns-then-input-gt-MOST
returns-then-input-gt-MOST c =
    let e = listing-long c.args.input.now c.if-input-gt-MOST.true in
    record { value = rw e c.write_bytes.ensures; input_len_bound = (rw e (omega arith), next-within _ _ _ c.write_bytes.ensures.0) }

pub returns-then-out-length : goal.returns-then-out-length
returns-then-out-length c =
    let a = c.args in
    let e = listing-length a.input.now a.out.now c.if-input-gt-MOST.false in
    let z = c.lay-length.ensures in
    record { value = refused a.out.now 0 _ (omega (arith, e, z.0, c.if-out-length.true)); input_len_bound = (omega (arith, e, z.0, z.1.0), omega arith) }

pub lay-requires : goal.lay-requires
unfolding heading
lay-requires c =
    let a = c.args in
    let e = headed a.input.now a.out.now c.if-input-gt-MOST.false c.write_bytes-from.ensures (omega (arith, c.if-out-length.false)) in
    (c.if-input-gt-MOST.false, omega (arith, e))

pub overflow_add-result : goal.overflow_add-result
unfolding heading
overflow_add-result c =
    let a = c.args in
    let h = headed a.input.now a.out.now c.if-input-gt-MOST.false c.write_bytes-from.ensures (omega (arith, c.if-out-length.false)) in
    record { fits = omega (arith, h, c.lay.ensures.1.0) }

pub returns : goal.returns
unfolding heading
returns c =
    let a = c.args in
    let g = listing-length a.input.now a.out.now c.if-input-gt-MOST.false in
    let z = c.lay.ensures in
    let y = c.lay-length.ensures in
    let b = both a.input.now a.out.now c.if-input-gt-MOST.false c.write_bytes-from.ensures z.0 z.1.1 (omega (arith, z.0, y.0, c.if-out-length.false)) in
    record { value = b; input_len_bound = (omega (arith, g, z.0, z.1.0), next-within _ _ _ b.0) }
