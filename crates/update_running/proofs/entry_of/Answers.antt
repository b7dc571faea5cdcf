use borrow.Author.Rules.{rules}
use Rattle.update_running.specs.Steps.{entry_of}
use Rattle.update_running.proofs.entry_of.Goals as goal

pub returns : goal.returns
unfolding entry_of
returns c = search rules
