-- Four sums, one after the other.
use native.Mathlib.Omega.{arith}
use Rattle.msgpack_first_bytes.specs.Rows.{four}
use Rattle.msgpack_first_bytes.proofs.four_from.Goals as goal

pub returns : goal.returns
unfolding four
returns c =
    let e = c.with_entry-4.ensures.0 in
    let f = c.with_entry-3.ensures.0 in
    let g = c.with_entry-2.ensures.0 in
    let h = c.with_entry.ensures.0 in
    omega (arith, e, f, g, h)
