-- A container, or a scalar by its length.
use native.Mathlib.Omega.{arith}
use Prim.Native.Nat.{◌<◌, ◌≤◌}
use mathlib.Core.Path.{◌≡◌, sym, ◌∙◌}
use lib.ListN.{length, drop}
use Rattle.msgpack_first_bytes.specs.Entry.{length_bytes, fixed_payload}
use Rattle.msgpack_first_bytes.proofs.Logic.{error_left}
use Rattle.msgpack_values.specs.Value.{shift, value}
use Rattle.msgpack_values.specs.Tokens.{Width}
use Rattle.msgpack_values.proofs.Tokens as Tokens
use Rattle.msgpack_values.proofs.long_token.Goals.{After-long_scalar, Else-e-ge-ARRAY}
use Rattle.msgpack_values.proofs.long_token.Goals as goal

module _ (c : Else-e-ge-ARRAY) where
  width : 1 ≤ length_bytes c.args.e
  width = let p = c.requires in omega arith

  requires-it : (let a = c.args in (a.at < length a.s.now) × (Width (length_bytes a.e) × (fixed_payload a.e ≤ 1)))
  requires-it =
      let p = c.requires in
      (Tokens.within _ _ _ p.0 (λ z. omega arith), (Tokens.width_of _ _ _ 0 p.0 width, (Tokens.wide _ _ _ 0 p.0 width).fixed))

-- what is read is the value
answer : (c : After-long_scalar) → (let a = c.args in c.long_scalar.result ≡ shift a.at (value a.depth (drop a.at a.s.now)))
answer c = let p = c.requires in c.long_scalar.ensures ∙ Tokens.long _ _ _ _ p.0 p.1 (omega arith)

pub returns-then-e-eq1 : goal.returns-then-e-eq1
returns-then-e-eq1 c =
    let p = c.requires in
    let e = sym c.in_ok-next.was ∙ answer (goal.at.returns-then-e-eq1 c).After-long_scalar in
    (e, Tokens.headed _ _ _ _ _ p.0 (omega arith) c.if-e-eq1.true e)

pub container_at-requires : goal.container_at-requires
container_at-requires c = (c.requires.0, c.if-e-ge-ARRAY.true)

pub returns-then-e-ge-ARRAY : goal.returns-then-e-ge-ARRAY
returns-then-e-ge-ARRAY c = c.container_at.ensures

pub long_scalar-requires : goal.long_scalar-requires
long_scalar-requires c = requires-it (goal.at.long_scalar-requires c).Else-e-ge-ARRAY

pub returns : goal.returns
returns c = sym c.in_ok-next.was ∙ answer (goal.at.returns c).After-long_scalar

pub returns-in_err-next : goal.returns-in_err-next
returns-in_err-next c =
    rw (error_left _ _ c.from_residual.ensures.1) (sym c.in_err-next.was ∙ answer (goal.at.returns-in_err-next c).After-long_scalar)
