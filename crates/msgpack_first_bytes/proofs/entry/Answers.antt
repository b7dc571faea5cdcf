-- The first 128 by their test, the others by their rows.
use borrow.Author.Rules.{rules}
use native.Mathlib.Omega.{arith}
use Prim.Native.Nat.{◌-◌, ◌*◌, ◌/◌, ◌%◌, ◌^◌, ◌≤◌}
use mathlib.Core.Path.{sym, ◌∙◌}
use borrow.Author.Tests.{ltb-false, eqb-true}
use Rattle.msgpack_first_bytes.specs.FirstByte.{form_of}
use Rattle.msgpack_first_bytes.specs.Entry.{entry_by, entry_of, Told, positive_fixint}
use Rattle.msgpack_first_bytes.specs.Rows.{row_of}
use Rattle.msgpack_first_bytes.proofs.Entries.{positive_fixint_lem}
use Rattle.msgpack_first_bytes.proofs.Range.{agrees}
use Rattle.msgpack_first_bytes.proofs.entry.Goals.{Else-is_positive_fixint}
use Rattle.msgpack_first_bytes.proofs.entry.Goals as goal

high : (c : Else-is_positive_fixint) → 0x80 ≤ c.args.b
high c = let b = c.args.b in ltb-false b 0x80 (positive_fixint_lem (search rules) ∙ sym c.is_positive_fixint.ensures ∙ c.if-is_positive_fixint.false)

pub returns-then-is_positive_fixint : goal.returns-then-is_positive_fixint
unfolding Told entry_of entry_by form_of
returns-then-is_positive_fixint c =
    let b = c.args.b in
    c.first_bytes-t.ensures 0 (omega arith) ∙ sym (eqb-true (entry_of b) positive_fixint (sym c.is_positive_fixint.ensures ∙ c.if-is_positive_fixint.true))

pub returns : goal.returns
unfolding row_of entry_of entry_by form_of
returns c =
    let b = c.args.b in
    rw c.row.ensures (agrees (λ b. row_of ((b - 0x80) / 4) / 2 ^ (b % 4 * 16 % 256) % 65536) entry_of 0x80 128 tt {b = b} (search rules) (high c.before))

pub overflow_sub-b : goal.overflow_sub-b
overflow_sub-b c = high c
