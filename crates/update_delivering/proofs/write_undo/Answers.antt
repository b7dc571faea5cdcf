use native.Mathlib.Omega.{arith}
use Rattle.update_delivering.proofs.Delivered.{undo-room, undo-written}
use Rattle.update_delivering.proofs.Undos.{entries-taken}
use Rattle.update_delivering.proofs.write_undo.Goals as goal

pub write_entries-requires : goal.write_entries-requires
write_entries-requires c =
    (entries-taken c.requires.0, undo-room _ _ _ c.args.out.now c.requires.0 c.requires.1 c.write_array_header-at.ensures)

pub returns : goal.returns
returns c =
    undo-written _ _ _ c.args.out.now c.requires.0 c.requires.1 c.write_array_header-at.ensures c.write_entries.ensures

pub overflow_cast-laid : goal.overflow_cast-laid
overflow_cast-laid c = omega (arith, c.requires.0.few)
