-- `string_head`: each return is the case of the definition that the test chooses; a length of 32 bits needs no more than four bytes.
use Rattle.std.proofs.Common.{◌^◌}
use borrow.Author.Tests.{lt-ltb, le-ltb}
use Rattle.msgpack_writing.specs.Forms.{string_header}
use Rattle.msgpack_writing.proofs.string_head.Goals as goal

pub returns-then-n-lt32 : goal.returns-then-n-lt32
unfolding string_header
returns-then-n-lt32 c = simp (lt-ltb _ _ c.if-n-lt32.true) c.short_head.ensures

pub returns-else-n-lt32 : goal.returns-else-n-lt32
unfolding string_header
returns-else-n-lt32 c = simp (le-ltb _ _ c.if-n-lt32.false) (simp (c.from-number.ensures, lt-ltb c.args.n (2 ^ 32) c.ranges.n.fits) at c.long_head.ensures)
