-- `put_tagged` goes from the last byte to the first: what it still has to write, with what stands after it, stays the same.
use Rattle.std.proofs.Common.{◌≡◌, ◌++◌, ◌+◌, drop}
use Rattle.msgpack_writing.specs.Forms.{big_endian}
use Rattle.msgpack_writing.proofs.put_tagged.Given as goal

abbrev pub invariant-loop-i : goal.invariant-loop-i
invariant-loop-i l = big_endian l.i l.high ++ drop (l.i + 1) l.out ≡ big_endian l.width l.n ++ drop (l.width + 1) l.initial.out
