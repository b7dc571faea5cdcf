-- What was read is what the definition gets; a short header is told by its entry.
use mathlib.Core.Path.{ap, ◌∙◌}
use native.Mathlib.Omega.{arith}
use Rattle.msgpack_first_bytes.specs.Entry.{entry_of}
use Rattle.msgpack_first_bytes.proofs.Entries.{short-array_said}
use Rattle.msgpack_scalars.specs.Start.{array_by}
use Rattle.msgpack_scalars.proofs.Short.{header_past, array-short}
use Rattle.update_parts.proofs.Reading.{count_at}
use Rattle.update_parts.proofs.count_at.Goals as goal

pub returns-in_err-get : goal.returns-in_err-get
returns-in_err-get c = let a = c.args in
    c.from_residual.ensures ∙ count_at a.s.now a.at (header_past a.s.now a.at array_by c.in_err-get.ensures.lookup.3)

pub returns-then-e-eq9 : goal.returns-then-e-eq9
returns-then-e-eq9 c =
    let a = c.args in
    let b = c.in_ok-get.ensures.lookup in
    rw c.from.ensures (count_at a.s.now a.at
    (array-short a.s.now a.at b.3.0
    (short-array_said _ c.entry-e.result (c.entry-e.ensures ∙ ap entry_of (b.4 (omega arith) 0)) c.if-e-eq9.true)))

pub returns : goal.returns
returns c = count_at c.args.s.now c.args.at c.header_at.ensures
