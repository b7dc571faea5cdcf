-- Cut short, or whole; the constants are what is due.
use Rattle.std.specs.Prelude.{Ok}
use native.Mathlib.Omega.{arith}
use Prim.Native.Nat.{ℕ, ◌+◌}
use mathlib.Core.Path.{◌≡◌, refl}
use lib.ListN.{drop}
use Rattle.msgpack_values.specs.Value.{shift, payload}
use Rattle.msgpack_values.proofs.Laws.{payload-short}
use Rattle.msgpack_values.proofs.Tokens as Tokens
use Rattle.msgpack_values.proofs.told_scalar.Goals.{Else-s-at}
use Rattle.msgpack_values.proofs.told_scalar.Goals as goal

-- whole, and ends at n
module _ (c : Else-s-at) where
  whole : (n : ℕ) → (let a = c.args in n ≡ a.at + 1 + a.due → Ok n ≡ shift (a.at + 1) (payload a.due (drop (a.at + 1) a.s.now)))
  whole n e = let a = c.args in Tokens.told-whole a.s.now a.at a.due n e (omega arith)

pub returns-then-due-eq0 : goal.returns-then-due-eq0
returns-then-due-eq0 c = let a = c.args in Tokens.told-whole a.s.now a.at a.due (a.at + 1) (omega arith) (omega arith)

pub returns-then-s-at : goal.returns-then-s-at
returns-then-s-at c = let a = c.args in payload-short a.s.now (a.at + 1) a.due (omega arith) (omega arith)

pub returns-in-2 : goal.returns-in-2
returns-in-2 c = let e = c.in-2.is in whole (goal.at.returns-in-2 c).Else-s-at (c.args.at + 3) (omega (arith, e))

pub returns-in-4 : goal.returns-in-4
returns-in-4 c = let e = c.in-4.is in whole (goal.at.returns-in-4 c).Else-s-at (c.args.at + 5) (omega (arith, e))

pub returns-in-8 : goal.returns-in-8
returns-in-8 c = let e = c.in-8.is in whole (goal.at.returns-in-8 c).Else-s-at (c.args.at + 9) (omega (arith, e))

pub returns-in_default : goal.returns-in_default
returns-in_default c = whole (goal.at.returns-in_default c).Else-s-at _ refl
