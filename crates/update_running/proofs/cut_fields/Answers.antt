use mathlib.Core.Path.{◌≡◌}
use mathlib.Core.List.{List, map}
use Prim.Native.Nat.{ℕ, ◌+◌, ◌-◌, ◌*◌, ◌≤◌}
use native.Mathlib.Omega.{arith}
use native.Mathlib.Nat.{mul-le-mul_left}
use lib.ListN.{length, take, drop, length-take}
use Rattle.update_places.specs.Place.{length_of, sum}
use Rattle.update_table.specs.Table.{window}
use Rattle.tuples.specs.Limits.{max_tuple}
use Rattle.update_running.specs.declared.Stage.{Stage}
use Rattle.update_running.specs.Steps.{Sound}
use Rattle.update_running.proofs.Entries.{form_short, part-sum, more-sum, cut-done}
use Rattle.update_running.proofs.cut_fields.Goals as goal

-- the slice that is read
seen : (d : List ℕ) (from m : ℕ) → take (from + m - from) (drop from d) ≡ window from m d
unfolding window
seen d from m = let e : from + m - from ≡ m = omega arith in rw e

gone_is : (d : List ℕ) (from m : ℕ) {k : ℕ} → k ≡ sum (map length_of (take (from + m - from) (drop from d))) → k ≡ sum (map length_of (window from m d))
gone_is d from m e = rw (seen d from m) at e

-- they are among those that are held
gone-few : (z : Stage) (d : List ℕ) (f m : ℕ) → Sound z d → f + m ≤ z.fields → {k : ℕ} → k ≡ sum (map length_of (take (z.head + f + m - (z.head + f)) (drop (z.head + f) d)))
    → (k ≤ z.bytes) × (z.bytes ≤ max_tuple)
gone-few z d f m s h e =
    let b = s.bytes in
    (omega (arith, part-sum length_of z.head z.fields f m d h, gone_is d (z.head + f) m e), s.short)

pub overflow_sub-result-2 : goal.overflow_sub-result-2
overflow_sub-result-2 c = let a = c.args in (gone-few a.stage a.table.now a.f a.m c.requires.0 c.requires.1 c.gone_of-gone.ensures.0).0

-- as much for each of few
few-more : (m u : ℕ) → m ≤ 64 → u ≤ 9 → m * (3 + u) ≤ m * 12
few-more m u h k = mul-le-mul_left m (omega arith)

pub overflow_add-unsigned_length : goal.overflow_add-unsigned_length
overflow_add-unsigned_length c = omega (arith, form_short _ _ c.unsigned_length.ensures)

pub overflow_add-result-2 : goal.overflow_add-result-2
overflow_add-result-2 c =
    let a = c.args in
    let u = c.unsigned_length.result in
    let from = a.stage.head + a.f in
    let d = take (from + a.m - from) (drop from a.table.now) in
    let r = c.requires.0.few in
    let b = c.requires.0.back in
    let n : length d ≤ 64 = omega (arith, length-take (from + a.m - from) (drop from a.table.now), c.requires.1) in
    omega (
      arith,
      c.gone_of-gone.ensures.1,
      more-sum (3 + u) d,
      few-more (length d) u n (form_short _ _ c.unsigned_length.ensures),
      gone-few a.stage a.table.now a.f a.m c.requires.0 c.requires.1 c.gone_of-gone.ensures.0,
    )

pub gone_of-gone-requires : goal.gone_of-gone-requires
gone_of-gone-requires c =
    let a = c.args in (
      omega (arith, length-take (a.stage.head + a.f + a.m - (a.stage.head + a.f)) (drop (a.stage.head + a.f) a.table.now), c.requires.1, c.requires.0.few),
      omega (arith, form_short _ _ c.unsigned_length.ensures),
    )

pub returns : goal.returns
returns c =
    let a = c.args in
    cut-done a.stage a.table.now a.back.now a.f a.m _ _ _ _ _ _ _ (seen a.table.now (a.stage.head + a.f) a.m) _ _ c.unsigned_length.ensures c.gone_of-gone.ensures c.min.ensures
    c.min-2.ensures c.remove-head.ensures c.lay_removed.ensures
