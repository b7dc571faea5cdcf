-- `forms_are_shortest` is the theorem.
use Rattle.msgpack_read_back.proofs.Shortest.{shortest}
use Rattle.msgpack_read_back.proofs.forms_are_shortest.Goals as goal

pub returns : goal.returns
returns c = shortest
