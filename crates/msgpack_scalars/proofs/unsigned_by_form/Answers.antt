-- The number that is due, or why there is none.
use native.Mathlib.Omega.{arith}
use Prim.Native.Nat.{◌+◌, ◌≤◌}
use mathlib.Core.Path.{sym, ◌∙◌}
use lib.ListN.{length}
use Rattle.msgpack_first_bytes.specs.FirstByte.{form_of, same_kind}
use Rattle.msgpack_first_bytes.specs.declared.Kind.TheVariants.{Unsigned}
use Rattle.msgpack_scalars.proofs.Laws.{little, due_there}
use Rattle.msgpack_scalars.proofs.unsigned_by_form.Goals.{In_ok-more}
use Rattle.msgpack_scalars.proofs.unsigned_by_form.Goals as goal

-- what is due is there
there : (c : In_ok-more) → (let a = c.args in let f = c.in_ok-more.more in (f ≤ 8) × (a.at + (1 + f) ≤ length a.s.now))
unfolding little form_of same_kind
there c =
    let a = c.args in
    due_there Unsigned tt a.s.now a.at _ (sym c.in_ok-more.was ∙ c.due_at.ensures)

pub natural_of-requires : goal.natural_of-requires
natural_of-requires c = let k = there (goal.at.natural_of-requires c).In_ok-more in omega arith

pub overflow_add-result : goal.overflow_add-result
overflow_add-result c = let k = there (goal.at.overflow_add-result c).In_ok-more in omega arith

pub overflow_add-result-2 : goal.overflow_add-result-2
overflow_add-result-2 c = let k = there (goal.at.overflow_add-result-2 c).In_ok-more in omega arith
