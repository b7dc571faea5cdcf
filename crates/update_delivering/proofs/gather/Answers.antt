-- Three writes in a row.
use Prim.Native.Nat.{◌-◌, ◌≤◌}
use native.Mathlib.Omega.{arith}
use lib.ListN.{length}
use Rattle.msgpack_writing.proofs.Put.{written}
use Rattle.update_delivering.proofs.Sides.{rear_side, gathers_front, gathers_middle, gathers_rear, gathered_all}
use Rattle.update_delivering.proofs.gather.Goals.{After-max-last}
use Rattle.update_delivering.proofs.gather.Goals as goal

last : (c : After-max-last) → (c.args.low ≤ c.max-last.result) × (c.max-last.result ≤ length c.args.entries.now) × (length c.args.entries.now - c.args.tail ≤ c.max-last.result)
last c = let s = c.requires.1 in (omega arith, omega (arith, s.low_fits), omega arith)

pub gather_side-a-requires : goal.gather_side-a-requires
gather_side-a-requires c =
    let p = c.requires in
    let e = last (goal.at.gather_side-a-requires c).After-max-last in
    (gathers_front p.0 p.1 c.max-last.result e.0 e.1 e.2, p.1.front)

pub gather_each-b-requires : goal.gather_each-b-requires
gather_each-b-requires c =
    let p = c.requires in
    let e = last (goal.at.gather_each-b-requires c).After-max-last in
    gathers_middle p.0 p.1 c.max-last.result e.0 e.1 e.2 c.gather_side-a.ensures

pub gather_side-requires : goal.gather_side-requires
gather_side-requires c =
    let p = c.requires in
    let e = last (goal.at.gather_side-requires c).After-max-last in (
      gathers_rear p.0 p.1 c.max-last.result e.0 e.1 e.2 c.gather_side-a.ensures c.gather_each-b.ensures,
      rear_side p.0 p.1 c.max-last.result e.0 e.1 e.2,
    )

pub returns : goal.returns
returns c =
    let p = c.requires in
    let e = last (goal.at.returns c).After-max-last in
    written (gathered_all p.0 p.1 c.max-last.result e.0 e.1 e.2 c.gather_side-a.ensures c.gather_each-b.ensures c.gather_side.ensures)
