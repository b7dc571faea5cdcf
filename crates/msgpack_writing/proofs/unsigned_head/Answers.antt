-- `unsigned_head`: each return is the case of the definition that the test chooses.
use borrow.Author.Tests.{lt-ltb, le-ltb}
use Rattle.msgpack_writing.specs.Forms.{unsigned_form}
use Rattle.msgpack_writing.proofs.unsigned_head.Goals as goal

pub returns-then-n-lt128 : goal.returns-then-n-lt128
unfolding unsigned_form
returns-then-n-lt128 c = simp (lt-ltb _ _ c.if-n-lt128.true) c.short_head.ensures

pub returns-else-n-lt128 : goal.returns-else-n-lt128
unfolding unsigned_form
returns-else-n-lt128 c = simp (le-ltb _ _ c.if-n-lt128.false) c.long_head.ensures
