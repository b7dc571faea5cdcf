-- Two numbers and the texts around them, or `none`.
use Prim.Native.Nat.{◌+◌}
use Rattle.frame_listing_fields.specs.Text.{text, decimal}
use Rattle.frame_fault.specs.Fault.{place_line}
use Rattle.frame_fault_fields.proofs.Laying.{piece, also}
use Rattle.frame_fault.proofs.Lines.{twice}
use Rattle.frame_fault.proofs.write_place.Goals as goal

pub returns-then-place : goal.returns-then-place
unfolding place_line
returns-then-place c =
    let a = c.args in
    rw c.if-place.true (rw (twice (text "place    ") (decimal a.place.value) (text ", byte ") (decimal (a.from + a.place.value)) (text " of the input\n")) at
    (also c.write_counted-to.ensures c.write_counted.ensures))

pub returns : goal.returns
unfolding place_line
returns c = rw c.if-place.false (piece _ c.write_bytes.ensures)
