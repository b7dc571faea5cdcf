-- What is moved and written makes the edit; the table keeps its length; where the entries begin. Assumes nothing.
use mathlib.Core.Path.{◌≡◌, refl, ap, ◌∙◌}
use mathlib.Core.Bool.{Bool, true, false, ◌&&◌}
use mathlib.Core.List.{List, ◌∷◌, ◌++◌, append_assoc}
use Prim.Native.Nat.{ℕ, suc, ◌+◌, ◌-◌, ◌<◌, ◌≤◌}
use native.Mathlib.Omega.{arith}
use native.Mathlib.Numerals.{add-one}
use borrow.Author.Tests.{le-leb, lt-ltb, le-ltb, leb-true, ltb-true}
use lib.Dec.{leb, ltb}
use lib.ListN.{length, take, drop, set, get_or, length-drop}
use lib.Seq.{paste, drop-cons, length_paste_head, length-take-le, set_at, take-take, drop-drop}
use borrow.Rule.Slice.PartMut.{put_mid}
use Rattle.std.specs.List.{copy_within}
use Rattle.update_table.specs.Table.{opens, added, head_added, closes, removed, head_removed}

impossible : {A : Type 0} → ◌≡◌ {A = Bool} false true → A
impossible e = absurd (let z : ◌≡◌ {A = ℕ} 0 1 = cc in omega arith)

-- ---- the decisions

pub record Opens (room head n f : ℕ) : Type 0 where
  pub entry : f ≤ n
  pub below : 0 < head
  pub above : head + n < room

pub record Closes (room head n f m : ℕ) : Type 0 where
  pub entries : f + m ≤ n
  pub inside : head + n ≤ room

pub opened : {room head n f : ℕ} → opens room head n f ≡ true → Opens room head n f
unfolding opens
opened {room} {head} {n} {f} e = go (leb f n) (ltb 0 head) (ltb (head + n) room) refl refl refl e
  where
    go : (a b c : Bool) → leb f n ≡ a → ltb 0 head ≡ b → ltb (head + n) room ≡ c → a && (b && c) ≡ true → Opens room head n f
    go true true true x y z e = record { entry = leb-true _ _ x; below = ltb-true _ _ y; above = ltb-true _ _ z }
    go true true false x y z e = impossible e
    go true false c x y z e = impossible e
    go false b c x y z e = impossible e

pub closed : {room head n f m : ℕ} → closes room head n f m ≡ true → Closes room head n f m
unfolding closes
closed {room} {head} {n} {f} {m} e = go (leb (f + m) n) (leb (head + n) room) refl refl e
  where
    go : (a b : Bool) → leb (f + m) n ≡ a → leb (head + n) room ≡ b → a && b ≡ true → Closes room head n f m
    go true true x y e = record { entries = leb-true _ _ x; inside = leb-true _ _ y }
    go true false x y e = impossible e
    go false b x y e = impossible e

-- ---- one entry more

module _ (head n f p : ℕ) (d : List ℕ) where
  abbrev Added : List ℕ → ℕ → Type 0
  Added b r = (r ≡ head_added (length d) head n f) × (b ≡ added head n f p d)

  pub is_open : Opens (length d) head n f → opens (length d) head n f ≡ true
  unfolding opens
  is_open o = simp (le-leb _ _ o.entry, lt-ltb _ _ o.below, lt-ltb _ _ o.above)

  pub not_added : (Opens (length d) head n f → ⊥) → Added d head
  unfolding head_added added
  not_added h = go (opens (length d) head n f) refl
    where
      go : (b : Bool) → opens (length d) head n f ≡ b → Added d head
      go true e = absurd (h (opened e))
      go false e = (rw e, rw e)

  module _ (o : Opens (length d) head n f) where
    pub added-below : f < n - f
        → Added (take (head - 1) d ++ (take f (drop head d) ++ (p ∷ drop (head + f) d))) (head - 1)
    unfolding head_added added
    added-below h = simp (is_open o, lt-ltb _ _ h) (refl, refl)

    pub added-above : n - f ≤ f
        → Added (take (head + f) d ++ (p ∷ (take (n - f) (drop (head + f) d) ++ drop (suc (head + n)) d))) head
    unfolding head_added added
    added-above h = simp (is_open o, le-ltb _ _ h) (refl, refl)

    -- as the code makes them
    pub put-below : f < n - f → Added (set (copy_within d head (head + f) (head - 1)) (head + f - 1) p) (head - 1)
    put-below h =
        let k : head + f - head ≡ f = omega arith in
        let m : f ≤ length (drop head d) = simp length-drop (omega arith) in
        let front = take (head - 1) d ++ take f (drop head d) in
        let l : length front ≡ head - 1 + f = length_paste_head d (head - 1) (drop head d) f (omega arith) m in
        let i : head + f - 1 ≡ head - 1 + f = omega arith in
        let j : suc (head - 1 + f) ≡ head + f = omega arith in
        let e : set (copy_within d head (head + f) (head - 1)) (head + f - 1) p ≡ take (head - 1) d ++ (take f (drop head d) ++ (p ∷ drop (head + f) d))
        = rw (k, i, drop-cons d (head - 1 + f) 0 (omega arith), j) (set_at front (get_or d (head - 1 + f) 0) (drop (head + f) d) p (head - 1 + f) l ∙ append_assoc (take (head - 1) d) (take f (drop head d)) (p ∷ drop (head + f) d)) in
        ((added-below h).0, e ∙ (added-below h).1)

    pub put-above : n - f ≤ f → (b : List ℕ)
        → let s = take (head + n + 1 - (head + f)) (drop (head + f) d) in b ≡ take (length s) (p ∷ s)
        → Added (put_mid (head + f) (head + n + 1 - (head + f)) d b) head
    put-above h b q =
        let k : head + n + 1 - (head + f) ≡ suc (n - f) = omega arith in
        let j : head + f + suc (n - f) ≡ suc (head + n) = omega arith in
        let D = drop (head + f) d in
        let l : length (take (suc (n - f)) D) ≡ suc (n - f) = length-take-le (suc (n - f)) D (simp length-drop (omega arith)) in
        let e : b ≡ p ∷ take (n - f) D = (rw (k, l) at q) ∙ ap (λ (x : List ℕ). p ∷ x) (take-take (n - f) (suc (n - f)) D (omega arith)) in
        ((added-above h).0, rw (k, e, drop-drop, j) ((added-above h).1))

-- ---- m entries less

module _ (head n f m : ℕ) (d : List ℕ) where
  abbrev Removed : List ℕ → ℕ → Type 0
  Removed b r = (r ≡ head_removed (length d) head n f m) × (b ≡ removed head n f m d)

  pub is_closed : Closes (length d) head n f m → closes (length d) head n f m ≡ true
  unfolding closes
  is_closed o = simp (le-leb _ _ o.entries, le-leb _ _ o.inside)

  pub not_removed : (Closes (length d) head n f m → ⊥) → Removed d head
  unfolding head_removed removed
  not_removed h = go (closes (length d) head n f m) refl
    where
      go : (b : Bool) → closes (length d) head n f m ≡ b → Removed d head
      go true e = absurd (h (closed e))
      go false e = (rw e, rw e)

  module _ (o : Closes (length d) head n f m) where
    pub removed-below : f < n - (f + m) → Removed (take (head + m) d ++ (take f (drop head d) ++ drop (head + m + f) d)) (head + m)
    unfolding head_removed removed
    removed-below h = simp (is_closed o, lt-ltb _ _ h) (refl, refl)

    pub removed-above : n - (f + m) ≤ f
        → Removed (take (head + f) d ++ (take (n - (f + m)) (drop (head + (f + m)) d) ++ drop (head + (n - m)) d)) head
    unfolding head_removed removed
    removed-above h = simp (is_closed o, le-ltb _ _ h) (refl, refl)

    pub cut_below : f < n - f - m → Removed (copy_within d head (head + f) (head + m)) (head + m)
    cut_below h =
        let r = removed-below (omega arith) in
        let k : head + f - head ≡ f = omega arith in
        (r.0, rw (k, append_assoc) r.1)

    pub cut-above : n - f - m ≤ f → (b : List ℕ) → b ≡ paste d (head + f) (drop (head + f + m) d) (n - f - m) → Removed b head
    cut-above h b q =
        let r = removed-above (omega arith) in
        let i : n - f - m ≡ n - (f + m) = omega arith in
        let j : head + f + m ≡ head + (f + m) = omega arith in
        let k : head + f + (n - (f + m)) ≡ head + (n - m) = omega arith in
        (r.0, q ∙ (rw (i, j, k, append_assoc)) ∙ r.1)
