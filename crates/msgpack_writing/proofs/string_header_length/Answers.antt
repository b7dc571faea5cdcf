-- `string_header_length`: a form is as long as its head says.
use native.Mathlib.Omega.{arith}
use Rattle.msgpack_writing.proofs.Lengths.{head-length, string-long}
use Rattle.msgpack_writing.proofs.string_header_length.Goals as goal

pub overflow_add-result : goal.overflow_add-result
overflow_add-result c = omega (arith, head-length _ _ _ c.string_head.ensures, (string-long c.args.n).1)

pub returns : goal.returns
returns c = head-length _ _ _ c.string_head.ensures
