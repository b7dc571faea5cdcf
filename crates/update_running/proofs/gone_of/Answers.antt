-- What is summed, and then what is left, is what was to be summed at first.
use Prim.Native.Nat.{ℕ, ◌+◌}
use native.Mathlib.Omega.{arith}
use Rattle.update_places.specs.Place.{length_of}
use Rattle.update_running.proofs.Entries.{sum_turn, sum_end}
use Rattle.update_running.proofs.gone_of.Goals as goal

pub loop-p-preserved : goal.loop-p-preserved
loop-p-preserved c =
    let l = c.loop-p in
    let a = c.args in
    let e = c.length_of-k.ensures.0 in
    let s = sum_turn a.places.now l.p-index (omega arith) length_of in
    let t = sum_turn a.places.now l.p-index (omega arith) (λ (p : ℕ). a.head + length_of p) in
    (omega arith, omega arith, omega arith, omega arith)

pub returns : goal.returns
returns c =
    let l = c.loop-p in
    let a = c.args in
    let s = sum_end length_of a.places.now l.p-index (omega arith) in
    let t = sum_end (λ (p : ℕ). a.head + length_of p) a.places.now l.p-index (omega arith) in
    (omega arith, omega arith)
