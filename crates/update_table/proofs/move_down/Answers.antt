use native.Mathlib.Omega.{arith}
use Rattle.update_table.proofs.Turns.{down_turn}
use Rattle.update_table.proofs.move_down.Goals as goal

pub loop-i-preserved : goal.loop-i-preserved
loop-i-preserved c =
    let a = c.args in
    down_turn a.table.now c.loop-i.table a.from a.to c.loop-i.i c.loop-i.invariant (omega arith) (omega arith)
