-- Four tests that all pass.
use borrow.Author.Tests.{eqb-true}
use native.Mathlib.Omega.{arith}
use Prim.Native.Nat.{ℕ, ◌+◌}
use mathlib.Core.Path.{◌≡◌, refl, sym, ◌∙◌}
use mathlib.Core.Bool.{Bool, true, ◌&&◌}
use lib.Dec.{eqb}
use lib.ListN.{get_or}
use Rattle.msgpack_first_bytes.specs.Bytes.{Bytes}
use Rattle.msgpack_first_bytes.specs.Entry.{entry_of, array_of_one}
use Rattle.msgpack_first_bytes.proofs.Logic.{ands}
use Rattle.msgpack_values.specs.Tokens.{Ones}
use Rattle.msgpack_values.proofs.Tokens.{one, joined}
use Rattle.msgpack_values.proofs.four_ones.Goals as goal

module _ (s : Bytes) (at : ℕ) where
  abbrev test : ℕ → Bool
  test k = eqb (entry_of (get_or s k 0)) array_of_one

  is : (k end : ℕ) {t : Bool} → end ≡ k + 1 → t ≡ test k → t ≡ true → Ones s k end
  is k end e q h = one s k end e (eqb-true _ array_of_one (sym q ∙ h))

  four : (a b c d : Bool) → a ≡ test at → b ≡ test (at + 1) → c ≡ test (at + 2) → d ≡ test (at + 3) → (((a && b) && c) && d) ≡ true → Ones s at (at + 4)
  four a b c d p q r t h =
      let x = ands ((a && b) && c) d h in
      let y = ands (a && b) c x.0 in
      let z = ands a b y.0 in
      joined s at (at + 1) (at + 4) (is at (at + 1) refl p z.0)
      (joined s (at + 1) (at + 2) (at + 4) (is (at + 1) (at + 2) (omega arith) q z.1)
      (joined s (at + 2) (at + 3) (at + 4) (is (at + 2) (at + 3) (omega arith) r y.1) (is (at + 3) (at + 4) (omega arith) t x.1)))

pub returns : goal.returns
returns c =
    let c3 = c.before.before in
    let c2 = c3.before.before in
    let c1 = c2.before.before in
    let a = c1.args in
    four a.s.now a.at _ _ _ _ c1.is_array_of_one.ensures c2.is_array_of_one-2.ensures c3.is_array_of_one-3.ensures c.is_array_of_one-4.ensures
