-- A count by the first byte and the bytes after it.
use native.Mathlib.Omega.{arith}
use Prim.Native.Nat.{ℕ, ◌+◌, ◌^◌, ◌<◌, ◌≤◌}
use mathlib.Core.Path.{◌≡◌, sym, ◌∙◌}
use lib.ListN.{length, take, drop}
use Rattle.msgpack_first_bytes.specs.Bytes.{Bytes}
use Rattle.msgpack_numbers.specs.Number.{number}
use Rattle.msgpack_numbers.proofs.Big as Big
use Rattle.msgpack_numbers.proofs.Big.{number_missing, number_is}
use Rattle.msgpack_scalars.specs.Header.{counted}
use Rattle.msgpack_scalars.proofs.Laws as Laws
use Rattle.msgpack_scalars.proofs.counted_at.Goals.{In_ok-n}
use Rattle.msgpack_scalars.proofs.counted_at.Goals as goal

-- what is known where the bytes after the first have been read
record Known (s : Bytes) (at w f n : ℕ) : Type 0 where
  there : at + 1 + w ≤ length s
  count : n ≡ number (take w (drop (at + 1) s))
  bound : n < 2 ^ 32
  little : f ≤ 31

known : (c : In_ok-n) → (let a = c.args in let w = c.in_ok-width in Known a.s.now a.at w.width w.fixed c.in_ok-n.n)
known c =
    let w = c.in_ok-width in
    let n = c.in_ok-n in
    let f = rw w.was at c.requires.1 in
    let k = number_is w.width _ n.n _ n.ensures.0 in
    record { there = k.0; count = k.1; bound = Big.small n.n w.width 4 f.0 n.ensures.1; little = f.1 }

pub returns-in_err-width : goal.returns-in_err-width
unfolding counted
returns-in_err-width c = rw (c.from_residual.ensures, c.in_err-width.was)

pub returns-in_err-n : goal.returns-in_err-n
returns-in_err-n c =
    let a = c.args in
    let w = c.in_ok-width in
    let k = rw w.was at c.requires.1 in
    let m = number_missing w.width (a.at + 1) a.s.now (omega arith) (sym c.in_err-n.was ∙ c.number_at.ensures.0) in
    rw (c.from_residual-in_err-n.ensures, w.was) (Laws.counted-cut a.s.now a.at w.width w.fixed m (omega arith))

pub overflow_add-result : goal.overflow_add-result
overflow_add-result c = let k = known (goal.at.overflow_add-result c).In_ok-n in omega arith

pub overflow_add-result-2 : goal.overflow_add-result-2
overflow_add-result-2 c = let k = known (goal.at.overflow_add-result-2 c).In_ok-n in omega arith

pub overflow_add-result-3 : goal.overflow_add-result-3
overflow_add-result-3 c = let k = known (goal.at.overflow_add-result-3 c).In_ok-n in omega arith

pub returns : goal.returns
returns c = let k = known (goal.at.returns c).In_ok-n in rw c.in_ok-width.was (Laws.counted_is _ _ _ _ _ k.there k.count)
