use Rattle.std.specs.Prelude.{◌≡◌, Ok, Err, MatchResult, IsErrAnd}
use Rattle.std.proofs.Common.{rules}
use mathlib.Core.Path.{ap}
use Prim.Native.Nat.{ℕ}
use native.Mathlib.Omega.{arith}
use Rattle.tuples.specs.declared.Refusal.{Refusal}
use Rattle.update_running.specs.Course.{Course}
use Rattle.update_running.specs.Carrying.{Ran, finishes_by}
use Rattle.update_running.specs.declared.Unfinished.{Unfinished}
use Rattle.update_running.specs.declared.Unfinished.TheVariants.{Refused}
use Rattle.update_running.proofs.Entries.{not_finished, is_finished}
use Rattle.update_running.proofs.finished.Goals as goal

pub returns-then-at-list : goal.returns-then-at-list
returns-then-at-list c = let a = c.args in not_finished a.course a.at a.list.now (omega arith)

mapped : (c : Course) (r : Ran) (Q : (Refusal × ℕ) → Unfinished → Type 0) → ((e : Refusal × ℕ) (u : Unfinished) → Q e u → u ≡ Refused e.0 e.1)
    → MatchResult c (λ x. r ≡ Ok x) (λ e. IsErrAnd r (Q e)) → r ≡ finishes_by c
mapped (Ok z) r Q q h = h
mapped (Err e) (Ok z) Q q h = absurd h
mapped (Err e) (Err u) Q q h = ap Err (q e u h)

pub returns : goal.returns
returns c = let a = c.args in rw (← is_finished a.course a.at a.list.now (omega arith)) (mapped a.course c.map_err.result _ (λ e u h. search rules) c.map_err.ensures.cases)
