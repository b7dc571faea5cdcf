-- `write_negative` writes nothing below -2^63, and else the form that its head is.
use native.Mathlib.Omega.{arith}
use Rattle.msgpack_writing.proofs.Put.{nothing}
use Rattle.msgpack_writing.proofs.Lengths.{negative_none}
use Rattle.msgpack_writing.proofs.write_negative.Goals as goal

pub returns-then-m-ge9223372036854775808 : goal.returns-then-m-ge9223372036854775808
returns-then-m-ge9223372036854775808 c = nothing _ _ _ (negative_none c.args.m (omega arith))

pub returns : goal.returns
returns c = rw c.negative_head.ensures at c.write_head.ensures
