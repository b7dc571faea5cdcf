-- A place, and the value that is broken there. Assumes nothing.
use Rattle.std.specs.Prelude.{Ok, Err}
use mathlib.Core.Path.{◌≡◌, sym, ap, ◌∙◌}
use mathlib.Core.Bool.{true, false}
use Prim.Native.Nat.{ℕ, ◌+◌}
use native.Mathlib.Nat.{zero-add}
use native.Mathlib.Omega.{arith}
use lib.ListN.{take, drop}
use Rattle.msgpack_first_bytes.specs.Bytes.{Bytes}
use Rattle.msgpack_first_bytes.proofs.Logic.{impossible}
use Rattle.msgpack_values.specs.Value.{shift, value, Read}
use Rattle.msgpack_values.specs.Spoiled.{at_place, place_of, spoiled_at}
use Rattle.msgpack_values.specs.declared.OptionalNumber.{OptionalNumber}
use Rattle.msgpack_values.proofs.Spoiled.{Leftmost, value_ordered, spoiled-broken}
use Rattle.spoiled_places.specs.First.{EveryPlace}

front : (d : ℕ) (s : Bytes) {p : ℕ} → value d s ≡ Err p → spoiled_at d 0 s ≡ at_place p
front d s {p} e = spoiled-broken d 0 s e ∙ ap at_place (zero-add p)

broken-at : (d at : ℕ) (s : Bytes) (p : ℕ) → spoiled_at d at s ≡ at_place (at + p) → value d (drop at s) ≡ Err p
unfolding spoiled_at
broken-at d at s p h = go (value d (drop at s)) h
  where
    go : (r : Read) → place_of (shift at r) ≡ at_place (at + p) → r ≡ Err p
    go (Ok n) h = let z : false ≡ true = ap (λ (x : OptionalNumber). x.present) h in impossible cc
    go (Err q) h = ap Err (let z : at + q ≡ at + p = ap (λ (x : OptionalNumber). x.value) h in omega arith)

-- it counts from the value's own first byte on
pub counted : (d at : ℕ) (s : Bytes) (p : ℕ) → spoiled_at d at s ≡ at_place p → (q : ℕ) × (p ≡ at + q)
unfolding spoiled_at
counted d at s p h = go (value d (drop at s)) h
  where
    go : (r : Read) → place_of (shift at r) ≡ at_place p → (q : ℕ) × (p ≡ at + q)
    go (Ok n) h = let z : false ≡ true = ap (λ (x : OptionalNumber). x.present) h in impossible cc
    go (Err q) h = (q, sym (ap (λ (x : OptionalNumber). x.value) h))

pub first_spoiling : EveryPlace
first_spoiling d at s p h =
    let x : Leftmost (value d) (drop at s) (Err p) = rw (broken-at d at s p h) at (value_ordered d (drop at s)) in
    record {
      within = x.settled.within;
      before = x.settled.begins;
      spoils = λ l t. front d _ (x.settled.byte l t);
      needed = λ q l. front d (take q (drop at s)) (x.cut q (omega arith));
    }
