-- `numbers_read_back` is the theorem.
use Rattle.msgpack_read_back.proofs.Back.{numbers_read-back}
use Rattle.msgpack_read_back.proofs.numbers_read_back.Goals as goal

pub returns : goal.returns
returns c = numbers_read-back
