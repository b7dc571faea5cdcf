-- A scalar that its first byte tells, past the end, or what is inside arrays of one.
use native.Mathlib.Omega.{arith}
use mathlib.Core.Path.{◌≡◌, sym, ◌∙◌}
use lib.ListN.{drop}
use Rattle.msgpack_first_bytes.proofs.Logic.{error_left}
use Rattle.msgpack_values.specs.Value.{shift, value}
use Rattle.msgpack_values.proofs.Laws.{value_end}
use Rattle.msgpack_values.proofs.Tokens as Tokens
use Rattle.msgpack_values.proofs.token_at.Goals.{After-told_scalar, After-told_scalar-then-inner-lt-TOLD_END}
use Rattle.msgpack_values.proofs.token_at.Goals as goal

-- what its first byte tells is the value
early : (c : After-told_scalar) → (let a = c.args in c.told_scalar.result ≡ shift a.at (value a.depth (drop a.at a.s.now)))
early c = c.told_scalar.ensures ∙ Tokens.told _ _ _ _ c.first_byte_entry-e.ensures c.if-e-lt-TOLD_END.true

-- .. and what is inside arrays of one
late : (c : After-told_scalar-then-inner-lt-TOLD_END) → (let a = c.args in c.told_scalar-then-inner-lt-TOLD_END.result ≡ shift a.at (value a.depth (drop a.at a.s.now)))
late c =
    let i = c.inside_ones-inner.ensures in
    c.told_scalar-then-inner-lt-TOLD_END.ensures ∙ Tokens.told _ _ _ c.inside_ones-inner.result.depth i.told c.if-inner-lt-TOLD_END.true ∙ i.same

pub returns-then-e-lt-TOLD_END : goal.returns-then-e-lt-TOLD_END
returns-then-e-lt-TOLD_END c = sym c.in_ok-end.was ∙ early (goal.at.returns-then-e-lt-TOLD_END c).After-told_scalar

pub returns-in_err-end : goal.returns-in_err-end
returns-in_err-end c = rw (error_left _ _ c.from_residual.ensures.1) (sym c.in_err-end.was ∙ early (goal.at.returns-in_err-end c).After-told_scalar)

pub returns-then-inner-lt-TOLD_END : goal.returns-then-inner-lt-TOLD_END
returns-then-inner-lt-TOLD_END c = sym c.in_ok-end-2.was ∙ late (goal.at.returns-then-inner-lt-TOLD_END c).After-told_scalar-then-inner-lt-TOLD_END

pub returns-in_err-end-2 : goal.returns-in_err-end-2
returns-in_err-end-2 c =
    rw (error_left _ _ c.from_residual-in_err-end-2.ensures.1) (sym c.in_err-end-2.was ∙ late (goal.at.returns-in_err-end-2 c).After-told_scalar-then-inner-lt-TOLD_END)

pub returns : goal.returns
returns c =
    let i = c.inside_ones-inner.ensures in
    Tokens.inner_tells _ _ _ _ _ _ _ c.long_token.result i.further i.deep i.same c.long_token.ensures

pub told_scalar-requires : goal.told_scalar-requires
told_scalar-requires c = (Tokens.within _ _ _ c.first_byte_entry-e.ensures (λ z. omega arith), omega arith)

pub returns-then-s-at : goal.returns-then-s-at
returns-then-s-at c = value_end _ _ _ c.if-s-at.true

pub inside_ones-inner-requires : goal.inside_ones-inner-requires
inside_ones-inner-requires c = (omega arith, c.first_byte_entry-e.ensures)

pub told_scalar-requires-then-inner-lt-TOLD_END : goal.told_scalar-requires-then-inner-lt-TOLD_END
told_scalar-requires-then-inner-lt-TOLD_END c = (Tokens.within _ _ _ c.inside_ones-inner.ensures.told (λ z. let l = c.if-inner-lt-TOLD_END.true in omega (arith, z, l)), omega arith)

pub long_token-requires : goal.long_token-requires
long_token-requires c = (c.inside_ones-inner.ensures.told, c.if-inner-lt-TOLD_END.false)
