-- `strings_read_back` is the theorem.
use Rattle.msgpack_read_back.proofs.Back.{strings_read-back}
use Rattle.msgpack_read_back.proofs.strings_read_back.Goals as goal

pub returns : goal.returns
returns c = strings_read-back
