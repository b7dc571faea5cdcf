use borrow.Author.Tests.{lt-ltb, le-ltb}
use Rattle.update_running.proofs.entry_at.Goals as goal

pub returns-then-n-f : goal.returns-then-n-f
returns-then-n-f c = rw c.in-Some.is (simp (le-ltb _ _ c.if-n-f.true))

pub returns : goal.returns
returns c = rw c.in-Some.is (simp (lt-ltb _ _ c.if-n-f.false))
