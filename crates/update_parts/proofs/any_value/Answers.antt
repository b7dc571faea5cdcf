-- What was read is what the definition gets.
use mathlib.Core.Path.{◌∙◌}
use Rattle.update_parts.proofs.Reading.{value-at}
use Rattle.update_parts.proofs.any_value.Goals as goal

pub returns-in_err-end : goal.returns-in_err-end
returns-in_err-end c = let a = c.args in c.from_residual.ensures ∙ value-at a.s.now a.at c.read_value.ensures c.in_err-end.ensures.value

pub returns : goal.returns
returns c = let a = c.args in value-at a.s.now a.at c.read_value.ensures c.in_ok-end.ensures.value
