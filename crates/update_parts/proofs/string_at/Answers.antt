-- By its header, and by whether its bytes have all come.
use mathlib.Core.Path.{◌∙◌}
use borrow.Author.Tests.{le-leb, lt-leb}
use Rattle.update_parts.proofs.Reading.{string-start, string-at}
use Rattle.update_parts.proofs.string_at.Goals as goal

pub returns-in_err-n : goal.returns-in_err-n
returns-in_err-n c = let a = c.args in c.from_residual.ensures ∙ string-at a.s.now a.at c.in_err-n.ensures

pub overflow_sub-s : goal.overflow_sub-s
overflow_sub-s c = string-start c.args.s.now c.args.at c.header_at.ensures c.in_ok-n.was

pub returns-then-s-start : goal.returns-then-s-start
returns-then-s-start c = let a = c.args in rw (lt-leb _ _ c.if-s-start.true) at (string-at a.s.now a.at c.in_ok-n.ensures)

pub returns : goal.returns
returns c = let a = c.args in rw (le-leb _ _ c.if-s-start.false) at (string-at a.s.now a.at c.in_ok-n.ensures)
