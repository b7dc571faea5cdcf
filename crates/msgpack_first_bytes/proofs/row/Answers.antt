-- Each row is four entries of the table, which says what the decision says.
use native.Mathlib.Omega.{arith}
use Prim.Native.Nat.{ℕ, ◌+◌, ◌*◌, ◌<◌}
use mathlib.Core.Path.{◌≡◌}
use lib.Dec.{eqb, eqb→eq}
use Rattle.msgpack_first_bytes.specs.Rows.{four, row_of}
use Rattle.msgpack_first_bytes.proofs.Entries.{row_told}
use Rattle.msgpack_first_bytes.proofs.Range.{other_at}
use Rattle.msgpack_first_bytes.proofs.row.Goals.{After-first_bytes-t}
use Rattle.msgpack_first_bytes.proofs.row.Goals as goal

row_at : (c : After-first_bytes-t) (n : ℕ) {r : ℕ} → n < 32 → c.args.k ≡ n → r ≡ four c.first_bytes-t.result (0x80 + 4 * n) → r ≡ row_of c.args.k
row_at c n = row_told c.first_bytes-t.result c.first_bytes-t.ensures n

pub returns-in-0 : goal.returns-in-0
returns-in-0 c = row_at c.before.before.before 0 (omega arith) c.in-0.is c.four_from.ensures

pub returns-in-1 : goal.returns-in-1
returns-in-1 c = row_at c.before.before.before 1 (omega arith) c.in-1.is c.four_from-in-1.ensures

pub returns-in-2 : goal.returns-in-2
returns-in-2 c = row_at c.before.before.before 2 (omega arith) c.in-2.is c.four_from-in-2.ensures

pub returns-in-3 : goal.returns-in-3
returns-in-3 c = row_at c.before.before.before 3 (omega arith) c.in-3.is c.four_from-in-3.ensures

pub returns-in-4 : goal.returns-in-4
returns-in-4 c = row_at c.before.before.before 4 (omega arith) c.in-4.is c.four_from-in-4.ensures

pub returns-in-5 : goal.returns-in-5
returns-in-5 c = row_at c.before.before.before 5 (omega arith) c.in-5.is c.four_from-in-5.ensures

pub returns-in-6 : goal.returns-in-6
returns-in-6 c = row_at c.before.before.before 6 (omega arith) c.in-6.is c.four_from-in-6.ensures

pub returns-in-7 : goal.returns-in-7
returns-in-7 c = row_at c.before.before.before 7 (omega arith) c.in-7.is c.four_from-in-7.ensures

pub returns-in-8 : goal.returns-in-8
returns-in-8 c = row_at c.before.before.before 8 (omega arith) c.in-8.is c.four_from-in-8.ensures

pub returns-in-9 : goal.returns-in-9
returns-in-9 c = row_at c.before.before.before 9 (omega arith) c.in-9.is c.four_from-in-9.ensures

pub returns-in-10 : goal.returns-in-10
returns-in-10 c = row_at c.before.before.before 10 (omega arith) c.in-10.is c.four_from-in-10.ensures

pub returns-in-11 : goal.returns-in-11
returns-in-11 c = row_at c.before.before.before 11 (omega arith) c.in-11.is c.four_from-in-11.ensures

pub returns-in-12 : goal.returns-in-12
returns-in-12 c = row_at c.before.before.before 12 (omega arith) c.in-12.is c.four_from-in-12.ensures

pub returns-in-13 : goal.returns-in-13
returns-in-13 c = row_at c.before.before.before 13 (omega arith) c.in-13.is c.four_from-in-13.ensures

pub returns-in-14 : goal.returns-in-14
returns-in-14 c = row_at c.before.before.before 14 (omega arith) c.in-14.is c.four_from-in-14.ensures

pub returns-in-15 : goal.returns-in-15
returns-in-15 c = row_at c.before.before.before 15 (omega arith) c.in-15.is c.four_from-in-15.ensures

pub returns-in-16 : goal.returns-in-16
returns-in-16 c = row_at c.before.before.before 16 (omega arith) c.in-16.is c.four_from-in-16.ensures

pub returns-in-17 : goal.returns-in-17
returns-in-17 c = row_at c.before.before.before 17 (omega arith) c.in-17.is c.four_from-in-17.ensures

pub returns-in-18 : goal.returns-in-18
returns-in-18 c = row_at c.before.before.before 18 (omega arith) c.in-18.is c.four_from-in-18.ensures

pub returns-in-19 : goal.returns-in-19
returns-in-19 c = row_at c.before.before.before 19 (omega arith) c.in-19.is c.four_from-in-19.ensures

pub returns-in-20 : goal.returns-in-20
returns-in-20 c = row_at c.before.before.before 20 (omega arith) c.in-20.is c.four_from-in-20.ensures

pub returns-in-21 : goal.returns-in-21
returns-in-21 c = row_at c.before.before.before 21 (omega arith) c.in-21.is c.four_from-in-21.ensures

pub returns-in-22 : goal.returns-in-22
returns-in-22 c = row_at c.before.before.before 22 (omega arith) c.in-22.is c.four_from-in-22.ensures

pub returns-in-23 : goal.returns-in-23
returns-in-23 c = row_at c.before.before.before 23 (omega arith) c.in-23.is c.four_from-in-23.ensures

pub returns-in-24 : goal.returns-in-24
returns-in-24 c = row_at c.before.before.before 24 (omega arith) c.in-24.is c.four_from-in-24.ensures

pub returns-in-25 : goal.returns-in-25
returns-in-25 c = row_at c.before.before.before 25 (omega arith) c.in-25.is c.four_from-in-25.ensures

pub returns-in-26 : goal.returns-in-26
returns-in-26 c = row_at c.before.before.before 26 (omega arith) c.in-26.is c.four_from-in-26.ensures

pub returns-in-27 : goal.returns-in-27
returns-in-27 c = row_at c.before.before.before 27 (omega arith) c.in-27.is c.four_from-in-27.ensures

pub returns-in-28 : goal.returns-in-28
returns-in-28 c = row_at c.before.before.before 28 (omega arith) c.in-28.is c.four_from-in-28.ensures

pub returns-in-29 : goal.returns-in-29
returns-in-29 c = row_at c.before.before.before 29 (omega arith) c.in-29.is c.four_from-in-29.ensures

pub returns-in-30 : goal.returns-in-30
returns-in-30 c = row_at c.before.before.before 30 (omega arith) c.in-30.is c.four_from-in-30.ensures

pub returns-in-31-to-255 : goal.returns-in-31-to-255
returns-in-31-to-255 c = let k = c.args.k in
    let h = c.requires in
    row_at c.before.before.before 31 (omega arith) (eqb→eq k 31 (other_at (λ k. eqb k 31) 31 32 tt k h c.in-31-to-255.in-31-to-255-own.rest)) c.four_from-in-31-to-255.ensures
