-- Pieces written one after the other into a lent buffer. Assumes nothing.
use mathlib.Core.Path.{◌≡◌, refl, sym, ap, ◌∙◌}
use mathlib.Core.List.{[], ◌++◌, append_assoc, append-nil}
use mathlib.Core.Logic.{⊎_elim}
use Prim.Native.Nat.{ℕ, ◌+◌, ◌-◌, ◌<◌, ◌≤◌}
use native.Mathlib.Nat.{add-zero}
use native.Mathlib.Omega.{arith}
use borrow.Author.Tests.{le-leb, lt-leb}
use lib.ListN.{length, take, drop, length-append, length-drop, take-append-drop, drop_of_length-le}
use lib.Seq.{length-take-le, take_at, drop_at, drop-drop, take_all}
use Rattle.msgpack_first_bytes.specs.Bytes.{Bytes}
use Rattle.msgpack_writing.specs.Put.{put, next}
use Rattle.msgpack_first_bytes.proofs.Logic.{by_leb, either}

-- cur is old with p from `at` on, and a is the place after p
pub record Wrote (old : Bytes) (at : ℕ) (p cur : Bytes) (a : ℕ) : Type 0 where
  pub room : at + length p ≤ length old
  pub is : cur ≡ take at old ++ (p ++ drop (at + length p) old)
  pub end : a ≡ at + length p
  pub long : length cur ≡ length old

module _ (old : Bytes) (at : ℕ) (p : Bytes) where
  front : at + length p ≤ length old → length (take at old) ≡ at
  front h = length-take-le at old (omega arith)

  pub laid : {cur : Bytes} {a : ℕ} → at + length p ≤ length old → a ≡ at + length p → cur ≡ take at old ++ (p ++ drop (at + length p) old) → Wrote old at p cur a
  laid h e s =
      record {
        room = h;
        is = s;
        end = e;
        long = ap length s ∙ simp (length-append, length-drop, front h) (omega arith);
      }

  -- what a contract says of a write with room, and of one without
  pub wrote : {cur : Bytes} {a : ℕ} → (a ≡ next at p old) × (cur ≡ put at p old) → at + length p ≤ length old → Wrote old at p cur a
  unfolding put next
  wrote e h = laid h (simp (le-leb _ _ h) at e.0) (simp (le-leb _ _ h) at e.1)

  pub refused : length old < at + length p → (at ≡ next at p old) × (old ≡ put at p old)
  unfolding put next
  refused h = simp (lt-leb _ _ h) (refl, refl)

  -- nothing to write: with room and without, nothing changes
  pub nothing : p ≡ [] → (at ≡ next at p old) × (old ≡ put at p old)
  unfolding put next
  nothing e =
      rw (e, add-zero) (
        by_leb (λ (a : ℕ). at ≡ a) at (length old) (λ h. refl) (λ h. refl),
        by_leb (λ (l : Bytes). old ≡ l) at (length old) (λ h. sym (take-append-drop at old)) (λ h. refl),
      )

  -- the rest that was lent came back with p, of k bytes, at its front
  pub lent : {ys : Bytes} (k : ℕ) → length p ≡ k → at + k ≤ length old → ys ≡ p ++ drop k (take (length old - at) (drop at old))
      → Wrote old at p (take at old ++ (ys ++ drop (length old - at) (drop at old))) (at + k)
  lent k l h e =
      let all : take (length old - at) (drop at old) ≡ drop at old = take_all (length old - at) (drop at old) (simp length-drop (omega arith)) in
      let none : drop (length old - at) (drop at old) ≡ [] = drop_of_length-le (drop at old) {i = length old - at} (simp length-drop (omega arith)) in
      laid (omega arith) (omega arith) (rw (none, append-nil, e, all, drop-drop, l))

-- and back
pub written : {old p cur : Bytes} {at a : ℕ} → Wrote old at p cur a → (a ≡ next at p old) × (cur ≡ put at p old)
unfolding put next
written w = simp (le-leb _ _ w.room) (w.end, w.is)

module _ {old p cur : Bytes} {at a : ℕ} (w : Wrote old at p cur a) where
  apart : cur ≡ (take at old ++ p) ++ drop a old
  apart = rw (w.end, append_assoc) w.is

  upto : length (take at old ++ p) ≡ a
  upto = simp (length-append, front old at p w.room) (sym w.end)

  -- what stands up to its end, and after it
  pub through : take a cur ≡ take at old ++ p
  through = ap (take a) apart ∙ take_at (take at old ++ p) (drop a old) a upto

  pub after : drop a cur ≡ drop a old
  after = ap (drop a) apart ∙ drop_at (take at old ++ p) (drop a old) a upto

-- two writes in a row are one
pub join : {old cur new p q : Bytes} {at a b : ℕ} → Wrote old at p cur a → Wrote cur a q new b → Wrote old at (p ++ q) new b
join {old} {cur} {new} {p} {q} {at} {a} {b} v w =
    let l : length (p ++ q) ≡ length p + length q = length-append p q in
    let e : at + length (p ++ q) ≡ a + length q = omega arith in
    let f : drop (a + length q) cur ≡ drop (a + length q) old = sym (drop-drop (length q) a cur) ∙ ap (drop (length q)) (after v) ∙ drop-drop (length q) a old in
    laid old at (p ++ q) (omega arith) (omega arith) (w.is ∙ rw (e, through v, f) (simp append_assoc))

pub length-put : (at : ℕ) (p old : Bytes) → length (put at p old) ≡ length old
length-put at p old =
    ⊎_elim (λ h. (wrote old at p (refl, refl) h).long) (λ h. ap length (sym (refused old at p h).1)) (either (at + length p) (length old))

-- a run of writes, each after the one before: room for all is room for each
pub step : (old : Bytes) (at : ℕ) (p : Bytes) {q cur new : Bytes} {a b : ℕ} → (a ≡ next at p old) × (cur ≡ put at p old)
    → at + length (p ++ q) ≤ length old → (a + length q ≤ length cur → Wrote cur a q new b) → Wrote old at (p ++ q) new b
step old at p {q} {cur} {new} {a} e h more =
    let l : length (p ++ q) ≡ length p + length q = length-append p q in
    let v : Wrote old at p cur a = wrote old at p e (omega arith) in
    join v (more (omega arith))
