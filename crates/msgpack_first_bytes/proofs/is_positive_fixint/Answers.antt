-- Each byte that passes the test has the entry, and no other has it.
use borrow.Author.Rules.{rules}
use native.Mathlib.Omega.{arith}
use lib.Dec.{eqb, ltb→lt, lt→ltb}
use Rattle.msgpack_first_bytes.specs.FirstByte.{form_of}
use Rattle.msgpack_first_bytes.specs.Entry.{entry_by, entry_of, positive_fixint}
use Rattle.msgpack_first_bytes.proofs.Entries.{positive_fixint_lem}
use Rattle.msgpack_first_bytes.proofs.Range.{tests_same, below_at}
use Rattle.msgpack_first_bytes.proofs.is_positive_fixint.Goals as goal

pub returns : goal.returns
unfolding entry_of entry_by form_of
returns c = tests_same _ _ (λ t. below_at (λ b. eqb (entry_of b) positive_fixint) (ltb→lt c.args.b _ t) tt)
    (λ t. lt→ltb c.args.b _ (omega (arith, ltb→lt c.args.b 0x80 (rw (positive_fixint_lem {b = c.args.b} (search rules)) t))))
