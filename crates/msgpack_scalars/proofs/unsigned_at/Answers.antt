-- A number of one byte by its entry, any other by its form.
use borrow.Author.Tests.{eqb-true}
use native.Mathlib.Omega.{arith}
use mathlib.Core.Path.{sym, ◌∙◌}
use Rattle.msgpack_first_bytes.specs.Entry.{positive_fixint}
use Rattle.msgpack_scalars.proofs.Short.{unsigned_small}
use Rattle.msgpack_scalars.proofs.unsigned_at.Goals as goal

pub returns-then-is_positive_fixint : goal.returns-then-is_positive_fixint
returns-then-is_positive_fixint c =
    let a = c.args in
    unsigned_small a.s.now a.at c.if-at-s.true (eqb-true _ positive_fixint (sym c.is_positive_fixint.ensures ∙ c.if-is_positive_fixint.true))

pub overflow_cast-result : goal.overflow_cast-result
overflow_cast-result c = omega (arith, c.type_inv.s c.args.at)
