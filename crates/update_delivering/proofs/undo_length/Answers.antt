use native.Mathlib.Omega.{arith}
use Rattle.msgpack_writing.proofs.Lengths.{array_long}
use Rattle.update_delivering.proofs.undo_length.Goals as goal

pub overflow_add-length : goal.overflow_add-length
overflow_add-length c = omega (arith, array_long c.args.stage.laid)
