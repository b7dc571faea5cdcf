-- `put_tagged` goes from the last byte to the first: what it still has to write, with what stands after it, stays the same.
use Rattle.std.proofs.Common.{◌≡◌, ◌∙◌, arith}
use Rattle.msgpack_writing.specs.Forms.{big_endian}
use Rattle.msgpack_writing.proofs.Turns.{number_turn, tag_store}
use Rattle.msgpack_writing.proofs.put_tagged.Goals as goal

pub loop-i-preserved : goal.loop-i-preserved
loop-i-preserved c = let l = c.loop-i in number_turn l.i l.high l.out (omega arith) (omega arith) ∙ l.invariant

pub returns : goal.returns
unfolding big_endian
returns c = let l = c.loop-i in let z : l.i ≡ 0 = omega arith in tag_store l.out _ _ (omega arith) (rw z at l.invariant)
