use mathlib.Core.Path.{sym}
use native.Mathlib.Omega.{arith}
use lib.Seq.{set_out}
use Rattle.update_running.proofs.lay.Goals as goal

pub returns-else-laid-back : goal.returns-else-laid-back
returns-else-laid-back c = let a = c.args in sym (set_out a.back.now a.laid a.entry (omega arith))
