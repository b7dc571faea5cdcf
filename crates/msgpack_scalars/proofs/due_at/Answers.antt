-- Cut, of another kind, or due and there, as the first byte says.
use native.Mathlib.Omega.{arith}
use Rattle.std.specs.Prelude.{Some, None, Ok, Err, ok_or}
use Prim.Native.Nat.{ℕ, ◌+◌}
use mathlib.Core.Path.{◌≡◌, sym, ap, ◌∙◌}
use lib.ListN.{drop}
use Rattle.msgpack_first_bytes.specs.Bytes.{Bytes}
use Rattle.msgpack_first_bytes.proofs.Logic.{impossible, error_left}
use Rattle.msgpack_scalars.specs.declared.NoNumber.{NoNumber}
use Rattle.msgpack_scalars.specs.declared.NoNumber.TheVariants.{Other}
use Rattle.msgpack_scalars.specs.Start.{scalar_of, Start}
use Rattle.msgpack_scalars.specs.Integer.{due_in, due}
use Rattle.msgpack_scalars.proofs.Laws as Laws
use Rattle.msgpack_scalars.proofs.due_at.Goals.{After-scalar_start}
use Rattle.msgpack_scalars.proofs.due_at.Goals as goal

-- what was found is what the first byte says
at-start : (c : After-scalar_start) → (let a = c.args in
    due a.kind (drop a.at a.s.now) ≡ due_in c.scalar_start.result (drop (a.at + 1) a.s.now))
at-start c =
    let a = c.args in
    Laws.due-start a.kind a.s.now a.at _ (omega arith) (c.scalar_start.ensures ∙ ap (scalar_of a.kind) c.form_of.ensures)

pub returns-then-s-at : goal.returns-then-s-at
returns-then-s-at c = Laws.due_end _ _ _ c.if-s-at.true

-- what `ok_or` found, and what it did not
found : (x : Start) (w f : ℕ) → Ok (w, f) ≡ ok_or x Other → x ≡ Some (w, f)
found (Some p) w f q = cc
found None w f q = impossible cc

lost : (x : Start) (e : NoNumber) (s : Bytes) → Err e ≡ ok_or x Other → Err e ≡ due_in x s
unfolding due_in
lost (Some p) e s q = impossible cc
lost None e s q = let z : e ≡ Other = cc in ap Err z

pub returns-in_err-more : goal.returns-in_err-more
returns-in_err-more c =
    rw (error_left _ _ c.from_residual.ensures.1, at-start (goal.at.returns-in_err-more c).After-scalar_start)
    (lost _ _ _ (sym c.in_err-more.was ∙ c.ok_or.ensures.value))

pub returns-then-s-at-2 : goal.returns-then-s-at-2
returns-then-s-at-2 c =
    let a = c.args in
    rw (at-start (goal.at.returns-then-s-at-2 c).After-scalar_start, found _ _ _ (sym c.in_ok-more.was ∙ c.ok_or.ensures.value))
    (Laws.due-cut a.s.now a.at _ _ c.if-s-at-2.true (omega arith))

pub returns : goal.returns
returns c =
    let a = c.args in
    rw (at-start (goal.at.returns c).After-scalar_start, found _ _ _ (sym c.in_ok-more.was ∙ c.ok_or.ensures.value))
    (Laws.due-more a.s.now a.at _ _ c.if-s-at-2.false)
