-- The header by its first byte.
use native.Mathlib.Omega.{arith}
use mathlib.Core.Path.{sym, ap, subst, ◌∙◌}
use lib.ListN.{get_or}
use Rattle.msgpack_scalars.specs.Start.{start_by, Few}
use Rattle.msgpack_scalars.proofs.Laws.{start-few, header-start}
use Rattle.msgpack_scalars.proofs.Short.{header_past}
use Rattle.msgpack_scalars.proofs.header_at.Goals as goal

pub counted_at-requires : goal.counted_at-requires
counted_at-requires c =
    let a = c.args in
    let e = c.start_of-start.ensures ∙ ap (start_by a.opening) c.form_of.ensures in
    (omega arith, subst (Few 31) (sym e) (start-few a.opening (get_or a.s.now a.at 0)))

pub returns : goal.returns
returns c =
    let a = c.args in
    rw (header-start (start_by a.opening) a.s.now a.at (omega arith), ← c.form_of.ensures, ← c.start_of-start.ensures) c.counted_at.ensures

pub returns-then-s-at : goal.returns-then-s-at
returns-then-s-at c = header_past _ _ _ c.if-s-at.true
