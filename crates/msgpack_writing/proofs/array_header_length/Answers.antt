-- `array_header_length`: a form is as long as its head says.
use native.Mathlib.Omega.{arith}
use Rattle.msgpack_writing.specs.Forms.{array_header}
use Rattle.msgpack_writing.proofs.Lengths.{head-length, array_long}
use Rattle.msgpack_writing.proofs.array_header_length.Goals as goal

pub overflow_add-result : goal.overflow_add-result
unfolding array_header
overflow_add-result c = omega (arith, head-length _ _ _ c.count_head.ensures, (array_long c.args.n).1)

pub returns : goal.returns
unfolding array_header
returns c = head-length _ _ _ c.count_head.ensures
