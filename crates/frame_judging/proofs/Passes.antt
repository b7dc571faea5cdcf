-- A pass over the known keys: what is judged so far, and what is left. Assumes nothing.
use mathlib.Core.Path.{◌≡◌, refl, sym, ap, ◌∙◌}
use mathlib.Core.Bool.{Bool, true, ◌&&◌}
use mathlib.Core.List.{List, [], ◌∷◌}
use Prim.Native.Nat.{ℕ, ◌+◌, ◌≤◌}
use native.Mathlib.Omega.{arith}
use lib.ListN.{length}
use Rattle.std.proofs.Math.Bool.{and_assoc, and-true}
use Rattle.msgpack_first_bytes.specs.Bytes.{Bytes, pick}
use Rattle.frames.specs.Limits.{max_size}
use Rattle.frames.specs.Held.{all, suits, encoded, Item}
use Rattle.frames.specs.Writing.{sound, pairs}
use Rattle.frame_items.specs.Content.{held_of, item_of, is_written, pair_length, capped}
use Rattle.frame_items.specs.declared.KnownKey.{KnownKey}
use Rattle.frame_judging.specs.Parts.{pair_bytes}
use Rattle.frame_judging.specs.Judged.{judgement_of}
use Rattle.frame_judging.proofs.Runs.{pair-more}
use Rattle.frame_judging.proofs.Lengths.{capped-few, pair-counted, all-counted}

-- of zs, xs is left
pub record Left (zs xs : List Item) (a b : Bool) (n t : ℕ) : Type 0 where
  pub four : (a && all (λ (x : Item). sound x.held) xs) ≡ all (λ (x : Item). sound x.held) zs
  pub nine : (b && all (λ (x : Item). suits x.rule x.held) xs) ≡ all (λ (x : Item). suits x.rule x.held) zs
  pub many : n + length (pairs xs) ≡ length (pairs zs)
  pub few : t ≤ max_size + 1
  pub long : capped (t + length (pair_bytes xs)) ≡ capped (length (pair_bytes zs))

pub none_yet : (zs : List Item) → Left zs zs true true 0 0
none_yet zs = let e : 0 + length (pair_bytes zs) ≡ length (pair_bytes zs) = omega arith in record { four = refl; nine = refl; many = omega arith; few = omega arith; long = ap capped e }

module _ (s : Bytes) (k : KnownKey) {xs rest : List Item} (e : xs ≡ item_of s k ∷ rest) where
  all_turn : (p : Item → Bool) (a : Bool) {b z : Bool} → b ≡ p (item_of s k) → (a && all p xs) ≡ z → ((a && b) && all p rest) ≡ z
  all_turn p a q h = rw q (and_assoc a (p (item_of s k)) (all p rest) ∙ (rw e at h))

  pub next_turn : {zs : List Item} {a b v w : Bool} {n m t p u : ℕ} → Left zs xs a b n t
      → v ≡ sound (held_of s k.content) → w ≡ suits k.rule (held_of s k.content) → m ≡ pick (is_written k.content) 1 0
      → p ≡ capped (pair_length (encoded (held_of s k.content))) → u ≡ capped (t + p)
      → Left zs rest (a && v) (b && w) (n + m) u
  unfolding item_of
  next_turn {a = a} {b = b} {n = n} {t = t} l ev ew em ep eu =
      record {
        four = all_turn (λ (x : Item). sound x.held) a ev l.four;
        nine = all_turn (λ (x : Item). suits x.rule x.held) b ew l.nine;
        many = let q = pair-more s k e in let y = l.many in omega arith;
        few = rw eu (capped-few _);
        long = pair-counted s k e t ep eu ∙ l.long;
      }

pub none_left : {zs xs : List Item} {a b : Bool} {n t : ℕ} → Left zs xs a b n t → xs ≡ []
    → record { sound = a; suited = b; count = n; length = t } ≡ judgement_of zs
unfolding pairs
none_left {zs} {a = a} {b = b} {n = n} {t = t} l e =
    let four = sym (and-true a) ∙ (rw e at l.four) in
    let nine = sym (and-true b) ∙ (rw e at l.nine) in
    let q = rw e at l.many in
    let many : n ≡ length (pairs zs) = omega arith in
    let long = all-counted t e l.few ∙ l.long in
    λ i. record { sound = four i; suited = nine i; count = many i; length = long i }
