-- `update_running::carry_out` meets its contract.
use Rattle.std.specs.Prelude.{◌≡◌, Err}
use mathlib.Core.Path.{refl, sym, ap}
use mathlib.Core.Logic.{◌⊎◌, inl}
use mathlib.Core.List.{List, ◌++◌}
use Prim.Native.Nat.{ℕ, ◌-◌, ◌<◌}
use native.Mathlib.Omega.{arith}
use lib.ListN.{length, take, drop, length-take, length-drop}
use Rattle.msgpack_first_bytes.proofs.Logic.{error_left}
use Rattle.msgpack_first_bytes.specs.Bytes.{Bytes}
use Rattle.tuples.specs.Tuple.{fields_of}
use Rattle.tuples.specs.declared.Refusal.TheVariants.{BadTuple}
use Rattle.update_loading.specs.Loading.{Loaded}
use Rattle.update_loading.specs.declared.Unloaded.{Unloaded, TheVariants.Bad}
use Rattle.update_loading.specs.declared.Unloaded.TheVariants as Loading
use Rattle.update_running.specs.Carrying.{Carries, unfinished_by, table_room, work_room}
use Rattle.update_running.specs.declared.Unfinished.TheVariants.{Refused}
use Rattle.update_loading.proofs.Judged.{loaded_bad, loaded-is, loaded_noroom}
use Rattle.update_running.proofs.Begin.{bad_tuple, many_listed, long-list, begins, carries}
use Rattle.update_running.proofs.carry_out.Goals as goal
use Rattle.update_running.proofs.carry_out.Goals.{then-count-gt-MAX_OPERATIONS-via-then-count-gt-MAX_OPERATIONS, then-count-gt-MAX_OPERATIONS-via-else-count-gt-MAX_OPERATIONS+then-list-gt-MAX_LIST}

by_unloaded : (t l w : Bytes) (table back : List ℕ) (base n first start : ℕ) (k : Unloaded) {r : Loaded} → Err k ≡ r
    → (r ≡ Err Bad → Carries (Err (Refused BadTuple 0)) (fields_of t) t l w table back base n first start)
    → (r ≡ Err Loading.NoRoom → (length table < table_room) ⊎ (work_room < length w))
    → Carries (Err (unfinished_by k)) (fields_of t) t l w table back base n first start
by_unloaded t l w table back base n first start Bad h f g = f (sym h)
by_unloaded t l w table back base n first start Loading.NoRoom h f g = g (sym h)

pub returns-in_err-n : goal.returns-in_err-n
returns-in_err-n c =
    let a = c.args in
    rw (error_left _ _ c.from_residual.ensures.1) (
    by_unloaded a.tuple.now a.list.now a.work.now _ a.back.now a.base a.count a.first a.start _ c.in_err-n.ensures.0
    (λ e. bad_tuple a.tuple.now a.list.now a.work.now a.table.now a.back.now a.base a.count a.first a.start (loaded_bad _ a.tuple.now e))
    (λ e. let n = loaded_noroom _ a.tuple.now e in let h = c.left_of-left.ensures.0 in inl (omega (arith, simp (length-take, length-drop) at n))))

pub returns-then-count-gt-MAX_OPERATIONS : goal.returns-then-count-gt-MAX_OPERATIONS
returns-then-count-gt-MAX_OPERATIONS c =
    let a = c.args in
    let L = loaded-is _ a.tuple.now (sym c.in_ok-n.ensures.0) in
    elim c.then-count-gt-MAX_OPERATIONS.branch [
      | then-count-gt-MAX_OPERATIONS-via-then-count-gt-MAX_OPERATIONS w ↦ many_listed a.tuple.now a.list.now a.work.now a.table.now a.back.now a.base a.count a.first a.start L.are (omega arith)
      | then-count-gt-MAX_OPERATIONS-via-else-count-gt-MAX_OPERATIONS+then-list-gt-MAX_LIST w ↦ long-list a.tuple.now a.list.now a.work.now a.table.now a.back.now a.base a.count a.first a.start L.are (omega arith) (omega arith)
    ]

pub overflow_sub-stage : goal.overflow_sub-stage
overflow_sub-stage c =
    let L = loaded-is _ c.args.tuple.now (sym c.in_ok-n.ensures.0) in
    let e = L.ends in
    omega arith

pub run-requires : goal.run-requires
run-requires c =
    let a = c.args in
    let L = loaded-is _ a.tuple.now (sym c.in_ok-n.ensures.0) in
    begins a.tuple.now a.list.now a.work.now a.table.now a.back.now _ _ _ _ L _ (omega arith) refl (ap (λ (x : List ℕ). take c.left_of-left.result a.table.now ++ (x ++ drop (length a.table.now - c.left_of-left.result - c.left_of-left.result) (drop c.left_of-left.result a.table.now))) c.in_ok-n.ensures.1) (c.left_of-left.ensures.1 (omega arith)) (omega arith) (omega arith) (omega arith)

pub returns : goal.returns
returns c =
    let a = c.args in
    let L = loaded-is _ a.tuple.now (sym c.in_ok-n.ensures.0) in
    carries a.tuple.now a.list.now a.work.now a.table.now a.back.now _ _ _ _ L _ (omega arith) refl
    (ap (λ (x : List ℕ). take c.left_of-left.result a.table.now ++ (x ++ drop (length a.table.now - c.left_of-left.result - c.left_of-left.result) (drop c.left_of-left.result a.table.now))) c.in_ok-n.ensures.1)
    c.run.result c.run.new.work c.run.new.table c.run.new.back a.base a.count a.first a.start c.run.ensures
