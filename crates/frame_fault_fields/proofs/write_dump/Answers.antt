-- Empty, or five lines that have room in the array.
use mathlib.Core.Path.{◌≡◌, refl, sym}
use mathlib.Core.List.{List, []}
use Prim.Native.Nat.{ℕ, ◌≤◌}
use native.Mathlib.Omega.{arith}
use borrow.Author.Tests.{le-leb, lt-leb}
use lib.ListN.{length, take, length-replicate}
use lib.Seq.{length-take-le}
use Rattle.msgpack_writing.proofs.Put.{nothing}
use Rattle.msgpack_values.specs.declared.OptionalNumber.{OptionalNumber}
use Rattle.frame_fault_fields.specs.Dump.{cells, dump_start, dump}
use Rattle.frame_fault_fields.specs.Steps.{Lays}
use Rattle.frame_fault_fields.proofs.Laying.{front}
use Rattle.frame_fault_fields.proofs.Lengths.{cells-few}
use Rattle.frame_fault_fields.proofs.write_dump.Goals as goal

-- the lines stand at the front of the array
laid : (f : List ℕ) (place : OptionalNumber) (old new : List ℕ) (from r : ℕ) → from ≡ dump_start place → from ≤ 65536 → length old ≡ 360
    → Lays old 0 (cells f place from 80) new r → (take r new ≡ cells f place (dump_start place) 80) × (r ≤ length new)
laid f place old new from r e h l v =
    let k : dump_start place ≤ 65536 = omega arith in
    let few = cells-few f place k in
    front (cells f place (dump_start place) 80) (omega arith) (rw e at v)

pub returns-then-from-gt-DUMP_LIMIT : goal.returns-then-from-gt-DUMP_LIMIT
unfolding dump
returns-then-from-gt-DUMP_LIMIT c =
    let e = c.dump_start-from.ensures in
    let a = c.args in
    rw (lt-leb (dump_start a.place) 65536 (omega arith)) (nothing _ _ [] refl)

pub returns : goal.returns
unfolding dump
returns c =
    let a = c.args in
    let e = c.dump_start-from.ensures in
    let h = c.if-from-gt-DUMP_LIMIT.false in
    rw (le-leb (dump_start a.place) 65536 (omega arith), ← (laid _ _ _ _ _ _ e h (length-replicate {A = ℕ} 360 0) c.lay_cells-length.ensures).0) c.write_bytes.ensures

pub slice_bounds-text-end : goal.slice_bounds-text-end
slice_bounds-text-end c = (laid _ _ _ _ _ _ c.dump_start-from.ensures c.if-from-gt-DUMP_LIMIT.false (length-replicate {A = ℕ} 360 0) c.lay_cells-length.ensures).1

pub slice_bounds-write_bytes-end : goal.slice_bounds-write_bytes-end
slice_bounds-write_bytes-end c =
    sym (length-take-le _ _ (laid _ _ _ _ _ _ c.dump_start-from.ensures c.if-from-gt-DUMP_LIMIT.false (length-replicate {A = ℕ} 360 0) c.lay_cells-length.ensures).1)
