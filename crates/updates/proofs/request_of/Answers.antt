-- By what the front tells.
use mathlib.Core.Path.{refl}
use Rattle.updates.proofs.Calls.{front_is}
use Rattle.updates.proofs.request_of.Goals as goal

pub returns : goal.returns
returns c = let a = c.args in (refl, refl, refl, front_is a.base a.list.now c.front_of.ensures c.unwrap_or-count.ensures)
