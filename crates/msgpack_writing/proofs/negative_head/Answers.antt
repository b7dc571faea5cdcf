-- `negative_head`: each return is the case of the definition that the test chooses.
use Rattle.std.proofs.Common.{◌∙◌}
use borrow.Author.Tests.{lt-ltb}
use Rattle.msgpack_writing.specs.Forms.{negative_form}
use Rattle.msgpack_writing.proofs.Turned.{long-negative}
use Rattle.msgpack_writing.proofs.negative_head.Goals as goal

pub returns-then-m-lt32 : goal.returns-then-m-lt32
unfolding negative_form
returns-then-m-lt32 c = simp (lt-ltb _ _ c.if-m-lt32.true) c.short_head.ensures

pub returns-else-m-lt32 : goal.returns-else-m-lt32
returns-else-m-lt32 c = c.long_head.ensures ∙ long-negative c.args.m c.if-m-lt32.false c.requires
