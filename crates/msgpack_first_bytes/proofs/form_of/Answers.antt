-- Each kind by its digit; other digits are no kind's.
use native.Mathlib.Omega.{arith}
use Prim.Native.Nat.{ℕ, ◌<◌}
use lib.Dec.{leb, leb→le}
use mathlib.Core.Path.{◌≡◌}
use Rattle.msgpack_first_bytes.specs.FirstByte.{form_of}
use Rattle.msgpack_first_bytes.specs.Entry.{length_bytes, kind_digit, fixed_payload}
use Rattle.msgpack_first_bytes.proofs.Entries.{form_by, said, unused_said}
use Rattle.msgpack_first_bytes.proofs.Range.{other_at}
use Rattle.msgpack_first_bytes.proofs.form_of.Goals.{After-entry-e}
use Rattle.msgpack_first_bytes.proofs.form_of.Goals as goal

-- the form of a kind whose digit is k
is : (c : After-entry-e) (k : ℕ) → (let e = c.entry-e.result in kind_digit e ≡ k → form_by k (length_bytes e) (fixed_payload e) ≡ form_of c.args.b)
is c k q = rw q at (said c.args.b c.entry-e.result c.entry-e.ensures)

pub returns-in-0 : goal.returns-in-0
returns-in-0 c = is c.before 0 c.in-0.is

pub returns-in-1 : goal.returns-in-1
returns-in-1 c = is c.before 1 c.in-1.is

pub returns-in-2 : goal.returns-in-2
returns-in-2 c = is c.before 2 c.in-2.is

pub returns-in-3 : goal.returns-in-3
returns-in-3 c = is c.before 3 c.in-3.is

pub returns-in-4 : goal.returns-in-4
returns-in-4 c = is c.before 4 c.in-4.is

pub returns-in-5 : goal.returns-in-5
returns-in-5 c = is c.before 5 c.in-5.is

pub returns-in-6 : goal.returns-in-6
returns-in-6 c = is c.before 6 c.in-6.is

pub returns-in-7 : goal.returns-in-7
returns-in-7 c = is c.before 7 c.in-7.is

pub returns-in-8 : goal.returns-in-8
returns-in-8 c = is c.before 8 c.in-8.is

pub returns-in-9 : goal.returns-in-9
returns-in-9 c = is c.before 9 c.in-9.is

pub returns-in-10 : goal.returns-in-10
returns-in-10 c = is c.before 10 c.in-10.is

pub returns-in_default : goal.returns-in_default
returns-in_default c = let e = c.entry-e.result in
    let h : kind_digit e < 16 = omega arith in
    unused_said c.args.b e c.entry-e.ensures (leb→le 11 (kind_digit e) (other_at (leb 11) 11 16 tt (kind_digit e) h c.in_default.in_default-own.rest))
