-- `short_head` writes nothing after its first byte.
use Rattle.std.proofs.Common.{refl}
use Rattle.msgpack_writing.specs.Forms.{big_endian}
use Rattle.msgpack_writing.proofs.short_head.Goals as goal

pub returns : goal.returns
unfolding big_endian
returns c = refl
