-- The fixed values, or by the count.
use native.Mathlib.Omega.{arith}
use Rattle.msgpack_values.proofs.Tokens as Tokens
use Rattle.msgpack_values.proofs.values_of.Goals as goal

pub returns-then-width-eq0 : goal.returns-then-width-eq0
returns-then-width-eq0 c = Tokens.values-short _ _ c.if-width-eq0.true

pub length_at-n-requires : goal.length_at-n-requires
length_at-n-requires c = (c.requires.0, (c.requires.1 (omega arith)).0)

pub returns-then-e-eq-ARRAY : goal.returns-then-e-eq-ARRAY
returns-then-e-eq-ARRAY c = Tokens.values-array _ _ _ c.length_at-n.ensures.0 (c.requires.1 (omega arith)).1 c.if-e-eq-ARRAY.true

pub returns : goal.returns
returns c = Tokens.values-map _ _ _ c.length_at-n.ensures.0 (c.requires.1 (omega arith)).1 c.if-e-eq-ARRAY.false
