-- The byte that is tested has the entry, and no other has it.
use borrow.Author.Rules.{rules}
use native.Mathlib.Omega.{arith}
use Prim.Native.Nat.{ℕ, ◌<◌}
use mathlib.Core.Path.{◌≡◌}
use lib.Dec.{T, eqb, eqb→eq}
use Rattle.msgpack_first_bytes.specs.FirstByte.{form_of}
use Rattle.msgpack_first_bytes.specs.Entry.{entry_by, entry_of, array_of_one}
use Rattle.msgpack_first_bytes.proofs.Range.{agree_tests, tests_same}
use Rattle.msgpack_first_bytes.proofs.is_array_of_one.Goals as goal

only : (b : ℕ) → b < 256 → T (eqb (entry_of b) array_of_one) → b ≡ 0x91
unfolding entry_of entry_by form_of
only b h t = eqb→eq b 0x91 (rw (agree_tests (λ b. eqb b 0x91) (λ b. eqb (entry_of b) array_of_one) 0 256 tt {b = b} h (omega arith)) t)

pub returns : goal.returns
unfolding entry_of entry_by form_of
returns c = tests_same _ _ (λ t. rw (eqb→eq c.args.b _ t) tt) (λ t. rw (only c.args.b (search rules) t) tt)
