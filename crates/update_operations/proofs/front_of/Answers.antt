-- By the tests, and by the count that was read.
use mathlib.Core.Path.{◌∙◌}
use borrow.Author.Tests.{le-leb, lt-leb}
use Rattle.update_operations.proofs.Listing.{base-refused, long-refused, fronted}
use Rattle.update_operations.proofs.front_of.Goals as goal

pub returns-then-base-gt1 : goal.returns-then-base-gt1
returns-then-base-gt1 c = let a = c.args in base-refused a.base a.list.now c.if-base-gt1.true

pub returns-then-list-gt-MAX_LIST : goal.returns-then-list-gt-MAX_LIST
returns-then-list-gt-MAX_LIST c = let a = c.args in long-refused a.base a.list.now c.if-list-gt-MAX_LIST.true

pub returns-in_err-count : goal.returns-in_err-count
returns-in_err-count c = let a = c.args in
    c.from_residual.ensures ∙ rw (← c.in_err-count.ensures) at (fronted a.base a.list.now c.if-base-gt1.false c.if-list-gt-MAX_LIST.false)

pub returns-then-count-gt-MAX_OPERATIONS : goal.returns-then-count-gt-MAX_OPERATIONS
returns-then-count-gt-MAX_OPERATIONS c = let a = c.args in
    rw (← c.in_ok-count.ensures, lt-leb _ _ c.if-count-gt-MAX_OPERATIONS.true) at (fronted a.base a.list.now c.if-base-gt1.false c.if-list-gt-MAX_LIST.false)

pub returns : goal.returns
returns c = let a = c.args in
    rw (← c.in_ok-count.ensures, le-leb _ _ c.if-count-gt-MAX_OPERATIONS.false) at (fronted a.base a.list.now c.if-base-gt1.false c.if-list-gt-MAX_LIST.false)
