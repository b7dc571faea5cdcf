-- Piece after piece.
use mathlib.Core.Path.{sym}
use native.Mathlib.Omega.{arith}
use lib.Seq.{length-take-le}
use Rattle.frame_listing_fields.specs.Text.{text}
use Rattle.frame_fault_fields.proofs.Laying.{piece, also}
use Rattle.frame_fault_fields.proofs.Column.{spelled, column_parts}
use Rattle.frame_fault_fields.proofs.write_column.Goals as goal

pub returns : goal.returns
returns c =
    let d = spelled _ _ c.requires (omega arith) c.write_number-end.ensures in
    rw (column_parts d) (also (piece (text "\n") c.write_bytes-to.ensures) (also (piece _ c.write_bytes-to-2.ensures) (piece _ c.write_bytes.ensures)))

pub slice_bounds-write_bytes-count : goal.slice_bounds-write_bytes-count
slice_bounds-write_bytes-count c = (spelled _ _ c.requires (omega arith) c.write_number-end.ensures).few

pub slice_bounds-write_bytes-start : goal.slice_bounds-write_bytes-start
slice_bounds-write_bytes-start c = (spelled _ _ c.requires (omega arith) c.write_number-end.ensures).few

pub slice_bounds-number-end : goal.slice_bounds-number-end
slice_bounds-number-end c = let z = spelled _ _ c.requires (omega arith) c.write_number-end.ensures in omega (arith, z.few, z.long)

pub slice_bounds-write_bytes-end-3 : goal.slice_bounds-write_bytes-end-3
slice_bounds-write_bytes-end-3 c = let z = spelled _ _ c.requires (omega arith) c.write_number-end.ensures in sym (length-take-le _ _ (omega (arith, z.few, z.long)))
