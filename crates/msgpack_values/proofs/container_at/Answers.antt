-- Too deep, unused, cut short, or its values.
use native.Mathlib.Omega.{arith}
use Rattle.msgpack_values.proofs.Tokens as Tokens
use Rattle.msgpack_values.proofs.container_at.Goals as goal

pub returns-then-depth-eq0 : goal.returns-then-depth-eq0
returns-then-depth-eq0 c = let p = c.requires in rw c.if-depth-eq0.true (Tokens.too_deep_lem _ _ _ p.0 p.1)

pub returns-then-e-eq-UNUSED : goal.returns-then-e-eq-UNUSED
returns-then-e-eq-UNUSED c = Tokens.unused _ _ _ _ c.requires.0 c.if-e-eq-UNUSED.true

pub overflow_sub-s : goal.overflow_sub-s
overflow_sub-s c = let p = c.requires in let h = Tokens.there _ _ _ 0 p.0 p.1 c.if-e-eq-UNUSED.false in omega (arith, h)

pub returns-then-s-at : goal.returns-then-s-at
returns-then-s-at c = let p = c.requires in let h = Tokens.there _ _ _ 0 p.0 p.1 c.if-e-eq-UNUSED.false in
    Tokens.cut _ _ _ _ p.0 p.1 c.if-e-eq-UNUSED.false (omega arith) (omega (arith, h))

pub values_of-requires : goal.values_of-requires
values_of-requires c = let p = c.requires in let h = Tokens.there _ _ _ 0 p.0 p.1 c.if-e-eq-UNUSED.false in
    (omega (arith, h), λ w. (Tokens.width_of _ _ _ 0 p.0 w, (Tokens.wide _ _ _ 0 p.0 w).none p.1))

pub returns : goal.returns
returns c = let p = c.requires in let h = Tokens.there _ _ _ 0 p.0 p.1 c.if-e-eq-UNUSED.false in
    (omega arith, (omega arith, Tokens.holds _ _ _ _ p.0 p.1 c.if-e-eq-UNUSED.false _ (omega arith) (omega (arith, h)) c.values_of.ensures))
