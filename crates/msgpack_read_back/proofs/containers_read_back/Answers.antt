-- `containers_read_back` is the theorem.
use Rattle.msgpack_read_back.proofs.Back.{containers_read-back}
use Rattle.msgpack_read_back.proofs.containers_read_back.Goals as goal

pub returns : goal.returns
returns c = containers_read-back
