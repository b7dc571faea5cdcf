-- `put_bytes` goes from the first byte to the last: what it has written, with what stands after it, is the buffer.
use Rattle.std.proofs.Common.{arith}
use Rattle.msgpack_writing.proofs.Turns.{copy_turn}
use Rattle.msgpack_writing.proofs.put_bytes.Goals as goal

pub loop-i-preserved : goal.loop-i-preserved
loop-i-preserved c = let l = c.loop-i in copy_turn c.args.out.now c.args.bytes.now l.out l.i (omega arith) (omega arith) l.invariant
