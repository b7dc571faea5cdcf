use native.Mathlib.Omega.{arith}
use Rattle.msgpack_writing.proofs.Lengths.{array_long}
use Rattle.update_delivering.proofs.tuple_length.Goals as goal

pub overflow_add-result : goal.overflow_add-result
overflow_add-result c = omega (arith, array_long c.args.stage.fields)
