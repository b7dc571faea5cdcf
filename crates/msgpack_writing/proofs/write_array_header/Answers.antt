-- `write_array_header` writes the form that its head is.
use Rattle.msgpack_writing.specs.Forms.{array_header}
use Rattle.msgpack_writing.proofs.write_array_header.Goals as goal

pub returns : goal.returns
unfolding array_header
returns c = rw c.count_head.ensures at c.write_head.ensures
