-- What is known of the table.
use borrow.Author.Rules.{rules}
use Rattle.msgpack_first_bytes.specs.Entry.{Told}
use Rattle.msgpack_first_bytes.proofs.page_entry.Goals as goal

pub returns : goal.returns
unfolding Told
returns c = c.first_bytes-t.ensures c.args.b (search rules)
