-- The key, then what it holds.
use mathlib.Core.List.{[], ◌∷◌}
use Rattle.msgpack_writing.specs.Forms.{big_endian}
use Rattle.msgpack_writing.proofs.Put.{wrote, written, step}
use Rattle.frame_writing.proofs.put_number.Goals as goal

pub returns : goal.returns
unfolding big_endian
returns c =
    let a = c.args in
    written (step a.out.now a.at (a.key ∷ []) c.write_tagged-a.ensures c.requires (λ h. wrote _ _ _ c.write_unsigned.ensures h))
