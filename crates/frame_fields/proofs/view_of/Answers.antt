-- Cut short where the bytes end.
use Rattle.frame_fields.proofs.Laws.{view_cut}
use Rattle.frame_fields.proofs.view_of.Goals as goal

pub returns : goal.returns
returns c = view_cut c.args.s.now c.args.place _ _ c.min-start.ensures c.min.ensures
