-- Each range by one computed test.
use native.Mathlib.Omega.{arith}
use Prim.Native.Nat.{◌+◌, ◌-◌, ◌*◌, ◌%◌, ◌^◌}
use lib.Pow.{pow_mono}
use Rattle.msgpack_first_bytes.specs.FirstByte.{form_of}
use Rattle.msgpack_first_bytes.specs.Entry.{entry_by, entry_of, common_length}
use Rattle.msgpack_first_bytes.proofs.Range.{agrees}
use Rattle.msgpack_first_bytes.proofs.common_length.Goals as goal

pub returns-then-b-lt128 : goal.returns-then-b-lt128
unfolding common_length entry_of entry_by form_of
returns-then-b-lt128 c = agrees (λ b. 1) (λ b. common_length (entry_of b)) 0x00 128 tt c.if-b-lt128.true (omega arith)

pub returns-then-b-ge224 : goal.returns-then-b-ge224
unfolding common_length entry_of entry_by form_of
returns-then-b-ge224 c = agrees (λ b. 1) (λ b. common_length (entry_of b)) 0xe0 32 tt {b = c.args.b} (omega arith) (omega arith)

pub returns-then-b-lt160 : goal.returns-then-b-lt160
unfolding common_length entry_of entry_by form_of
returns-then-b-lt160 c = agrees (λ b. 0) (λ b. common_length (entry_of b)) 0x80 32 tt c.if-b-lt160.true (omega arith)

pub returns-then-b-lt192 : goal.returns-then-b-lt192
unfolding common_length entry_of entry_by form_of
returns-then-b-lt192 c = agrees (λ b. b - 0x9f) (λ b. common_length (entry_of b)) 0xa0 32 tt c.if-b-lt192.true (omega arith)

pub returns-then-b-lt204 : goal.returns-then-b-lt204
unfolding common_length entry_of entry_by form_of
returns-then-b-lt204 c = agrees (λ b. 0) (λ b. common_length (entry_of b)) 0xc0 12 tt c.if-b-lt204.true (omega arith)

pub overflow_add-result : goal.overflow_add-result
unfolding common_length entry_of entry_by form_of
overflow_add-result c = omega (arith, pow_mono {i = c.args.b % 4} {j = 3} (omega arith))

pub returns-then-b-lt212 : goal.returns-then-b-lt212
unfolding common_length entry_of entry_by form_of
returns-then-b-lt212 c = agrees (λ b. 1 + 1 * 2 ^ (b % 4) % 2 ^ 64) (λ b. common_length (entry_of b)) 0xcc 8 tt {b = c.args.b} (omega arith) (omega arith)

pub returns : goal.returns
unfolding common_length entry_of entry_by form_of
returns c = agrees (λ b. 0) (λ b. common_length (entry_of b)) 0xd4 12 tt {b = c.args.b} (omega arith) (omega arith)
