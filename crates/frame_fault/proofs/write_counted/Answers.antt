-- Piece after piece.
use mathlib.Core.List.{[], ◌∷◌, append_assoc}
use Rattle.frame_listing_fields.specs.Text.{decimal}
use Rattle.frame_listing_fields.specs.Steps.{ended}
use Rattle.frame_fault_fields.proofs.Laying.{piece, also}
use Rattle.frame_fault.proofs.write_counted.Goals as goal

pub returns : goal.returns
returns c =
    let a = c.args in
    rw (append_assoc (decimal a.n) (a.end ∷ []) a.after.now) at
    (also (piece a.before.now c.write_bytes-to.ensures) (also (piece (ended a.n a.end) c.write_number-to.ensures) (piece a.after.now c.write_bytes.ensures)))
