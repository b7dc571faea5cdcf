-- An integer or a short string, or one item.
use borrow.Author.Rules.{rules}
use mathlib.Core.Path.{◌≡◌, ◌∙◌}
use mathlib.Core.Bool.{true, ◌&&◌}
use Prim.Native.Nat.{ℕ, ◌-◌, ◌<◌, ◌≤◌}
use borrow.Author.Tests.{ltb-true, leb-true}
use lib.Dec.{ltb, leb}
use lib.ListN.{length}
use Rattle.msgpack_first_bytes.proofs.Logic.{ands}
use Rattle.msgpack_values.specs.Value.{value}
use Rattle.msgpack_values.proofs.Laws.{items-one}
use Rattle.msgpack_values.proofs.Tokens.{common}
use Rattle.msgpack_values.proofs.read_value.Goals as goal

-- an integer or a short string that is there
record There (k n : ℕ) : Type 0 where
  some : 0 < k
  room : k ≤ n

there : (k n : ℕ) → (ltb 0 k && leb k n) ≡ true → There k n
there k n h = let t = ands (ltb 0 k) (leb k n) h in record { some = ltb-true 0 k t.0; room = leb-true k n t.1 }

pub returns-then-k-s : goal.returns-then-k-s
returns-then-k-s c =
    let a = c.args in
    let h = there c.common_length-k.result (length a.s.now - a.at) c.if-k-s.true in
    common a.s.now a.at a.depth _ c.if-at-s.true c.common_length-k.ensures h.some h.room

pub overflow_add-result : goal.overflow_add-result
overflow_add-result c = let a = c.args in
    let h = there c.common_length-k.result (length a.s.now - a.at) c.if-k-s.true in search (rules, h)

pub returns : goal.returns
returns c = let a = c.args in c.read_items.ensures ∙ items-one (value a.depth) a.s.now a.at
