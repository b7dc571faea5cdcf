-- A length and that many bytes: missing, short, or whole.
use native.Mathlib.Omega.{arith}
use Prim.Native.Nat.{◌+◌}
use mathlib.Core.Path.{◌≡◌, sym, ◌∙◌}
use lib.ListN.{drop}
use Rattle.msgpack_values.specs.Value.{shift, payload, sized}
use Rattle.msgpack_values.proofs.Laws as Laws
use Rattle.msgpack_values.proofs.long_scalar.Goals.{After-length_at}
use Rattle.msgpack_values.proofs.long_scalar.Goals as goal

-- what is due after the length
due : (c : After-length_at) → (let a = c.args in let k = a.at + 1 + a.width in
    shift k (payload (c.length_at.result + a.more) (drop k a.s.now)) ≡ shift (a.at + 1) (sized a.width (λ n t. payload (n + a.more) t) (drop (a.at + 1) a.s.now)))
due c =
    let a = c.args in
    sym (Laws.sized-is a.s.now (a.at + 1) a.width _ (λ n t. payload (n + a.more) t) (omega arith) c.length_at.ensures.0)

pub returns-then-s-at : goal.returns-then-s-at
returns-then-s-at c = let a = c.args in Laws.sized_missing a.s.now (a.at + 1) a.width _ (omega arith) (omega arith)

pub returns-then-s-from : goal.returns-then-s-from
returns-then-s-from c = let a = c.args in
    Laws.payload-short a.s.now (a.at + 1 + a.width) _ (omega arith) c.if-s-from.true ∙ due (goal.at.returns-then-s-from c).After-length_at

pub returns : goal.returns
returns c = Laws.payload-whole _ _ _ c.if-s-from.false ∙ due (goal.at.returns c).After-length_at
