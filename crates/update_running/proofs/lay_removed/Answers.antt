-- What is laid, and then what is left, is what was to be laid at first.
use mathlib.Core.Path.{sym, ◌∙◌}
use native.Mathlib.Omega.{arith}
use Rattle.update_running.specs.Steps.{entry_of}
use Rattle.update_running.proofs.Entries.{laid_turn, laid_end}
use Rattle.update_running.proofs.lay_removed.Goals as goal

pub loop-i-preserved : goal.loop-i-preserved
loop-i-preserved c =
    let l = c.loop-i in
    let a = c.args in
    rw (c.lay.ensures, c.entry_of.ensures) (laid_turn a.places.now l.i (omega arith) (entry_of 0x21 a.f) a.laid l.back ∙ l.invariant)

pub returns : goal.returns
returns c =
    let l = c.loop-i in
    let a = c.args in
    sym (laid_end (entry_of 0x21 a.f) a.places.now l.i (omega arith) _ l.back) ∙ l.invariant
