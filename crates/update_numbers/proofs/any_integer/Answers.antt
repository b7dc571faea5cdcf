-- What was read is what the definition gets; a number of one byte is told by its entry.
use mathlib.Core.Path.{sym, ap, ◌∙◌}
use native.Mathlib.Omega.{arith}
use borrow.Author.Tests.{eqb-true}
use Rattle.msgpack_first_bytes.specs.Entry.{entry_of, positive_fixint}
use Rattle.msgpack_scalars.proofs.Short.{integer_past, integer-small}
use Rattle.update_parts.proofs.Reading.{integer-at}
use Rattle.update_numbers.proofs.any_integer.Goals as goal

pub returns-in_err-b : goal.returns-in_err-b
returns-in_err-b c = let a = c.args in
    c.from_residual.ensures ∙ integer-at a.s.now a.at (integer_past a.s.now a.at c.in_err-b.ensures.lookup.3)

pub returns-then-is_positive_fixint : goal.returns-then-is_positive_fixint
returns-then-is_positive_fixint c =
    let a = c.args in
    let b = c.in_ok-b.ensures.lookup in
    let e = b.4 (omega arith) 0 in
    rw (c.from.ensures, e) (integer-at a.s.now a.at
    (integer-small a.s.now a.at b.3.0 (ap entry_of (sym e) ∙ eqb-true _ positive_fixint (sym c.is_positive_fixint.ensures ∙ c.if-is_positive_fixint.true))))

pub returns : goal.returns
returns c = c.ok.ensures.value ∙ integer-at c.args.s.now c.args.at c.integer_at.ensures
