use mathlib.Core.Path.{sym, ◌∙◌}
use native.Mathlib.Omega.{arith}
use Rattle.update_places.proofs.Runs.{from-tuple, from_list, from-work}
use Rattle.update_places.proofs.Sources.bytes.Goals as goal

pub returns-then-at-lt-IN_LIST : goal.returns-then-at-lt-IN_LIST
returns-then-at-lt-IN_LIST c = c.part_of.ensures ∙ sym (from-tuple _ _ _ _ _ (omega arith))

pub returns-then-at-lt-IN_WORK : goal.returns-then-at-lt-IN_WORK
returns-then-at-lt-IN_WORK c = c.part_of-then-at-lt-IN_WORK.ensures ∙ sym (from_list _ _ _ _ _ (omega arith) (omega arith))

pub returns : goal.returns
returns c = c.part_of-2.ensures ∙ sym (from-work _ _ _ _ _ (omega arith))
