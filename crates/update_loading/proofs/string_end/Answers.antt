-- A string whose length stands in one byte or two.
use Prim.Native.Nat.{◌+◌}
use native.Mathlib.Omega.{arith}
use Rattle.update_loading.proofs.Ends.{str_8_ends, str_16_ends}
use Rattle.update_loading.proofs.string_end.Goals as goal

pub returns-then-s-at : goal.returns-then-s-at
returns-then-s-at c =
    let a = c.args in
    str_8_ends a.s.now a.at (omega (arith, c.if-s-at.true)) (omega arith) (omega arith) (omega arith)

pub returns-then-s-at-2 : goal.returns-then-s-at-2
returns-then-s-at-2 c =
    let a = c.args in
    let x = c.type_inv.s (a.at + 1) in
    let y = c.type_inv.s (a.at + 2) in
    str_16_ends a.s.now a.at (omega (arith, c.if-s-at-2.true)) (omega arith) (omega arith) (omega arith)

pub overflow_cast-n : goal.overflow_cast-n
overflow_cast-n c = omega (arith, c.type_inv.s (c.args.at + 1))

pub overflow_cast-n-then-s-at-2 : goal.overflow_cast-n-then-s-at-2
overflow_cast-n-then-s-at-2 c = omega (arith, c.type_inv.s (c.args.at + 1))

pub overflow_cast-n-then-s-at-2-2 : goal.overflow_cast-n-then-s-at-2-2
overflow_cast-n-then-s-at-2-2 c = omega (arith, c.type_inv.s (c.args.at + 2))

pub overflow_add-n-then-s-at-2-3 : goal.overflow_add-n-then-s-at-2-3
overflow_add-n-then-s-at-2-3 c = let a = c.args.at in omega (arith, c.type_inv.s (a + 1), c.type_inv.s (a + 2))
