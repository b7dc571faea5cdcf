use mathlib.Core.Path.{◌∙◌}
use native.Mathlib.Omega.{arith}
use Rattle.update_table.proofs.Turns.{carry_turn, carry_next}
use Rattle.update_table.proofs.shift_in.Goals as goal

pub loop-entry-preserved : goal.loop-entry-preserved
loop-entry-preserved c =
    let a = c.args in
    let l = c.loop-entry in
    let x = c.swap.ensures.x_after ∙ l.invariant.1 in (
      rw x (carry_turn a.entries.now l.entries l.entry-index a.p l.invariant.0 (omega arith)),
      c.swap.ensures.y_after ∙ carry_next a.entries.now l.entries l.entry-index a.p l.invariant.0 (omega arith),
    )
