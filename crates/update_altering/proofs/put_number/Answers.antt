-- Nothing is written where a number has no room, and only there.
use Rattle.update_altering.proofs.Numbers as Numbers
use Rattle.update_altering.proofs.put_number.Goals as goal

pub returns-then-end-eq0-clause-edit : goal.returns-then-end-eq0-clause-edit
returns-then-end-eq0-clause-edit c = Numbers.number-none c.args.z c.args.out.now 0 c.requires c.write_number-end.ensures c.if-end-eq0.true

pub returns-clause-edit : goal.returns-clause-edit
returns-clause-edit c = Numbers.number_is c.args.z c.args.out.now 0 c.requires c.write_number-end.ensures c.if-end-eq0.false
