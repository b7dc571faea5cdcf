-- The base is taken off a number that is at least the base.
use Rattle.update_numbers.proofs.Numbers.{field-from, field_below}
use Rattle.update_numbers.proofs.field_of.Goals as goal

pub returns-in-FromZero : goal.returns-in-FromZero
returns-in-FromZero c = field-from c.args.base c.in-FromZero.is _ c.checked_sub.ensures

pub returns-in-BelowZero : goal.returns-in-BelowZero
returns-in-BelowZero c = field_below c.args.base c.in-BelowZero.is
