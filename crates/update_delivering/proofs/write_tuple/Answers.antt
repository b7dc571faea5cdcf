use Rattle.update_delivering.proofs.Tuples.{tuple_gathers, tuple-written}
use Rattle.update_delivering.proofs.write_tuple.Goals as goal

pub gather-requires : goal.gather-requires
gather-requires c = tuple_gathers c.requires.0 c.args.out.now c.requires.1 c.write_array_header-at.ensures

pub returns : goal.returns
returns c = tuple-written c.requires.0 c.args.out.now c.requires.1 c.write_array_header-at.ensures c.gather.ensures
