-- What an edit of the table does to its entries. Assumes nothing.
use mathlib.Core.Path.{◌≡◌, refl, sym, ap, ◌∙◌}
use mathlib.Core.Bool.{Bool, true, false}
use mathlib.Core.List.{List, [], ◌∷◌, ◌++◌, append_assoc}
use Prim.Native.Nat.{ℕ, suc, ◌+◌, ◌-◌, ◌<◌, ◌≤◌}
use native.Mathlib.Omega.{arith}
use native.Mathlib.Numerals.{add-one}
use borrow.Author.Tests.{ltb-true, ltb-false}
use lib.Dec.{ltb}
use lib.ListN.{length, take, drop, set, get_or, length-take, length-drop, length-append}
use lib.Seq.{drop-drop, drop-set-add, get_or-drop, get_or-take, length-take-le, set_split, take-set-lt, take_at, drop_at, take-append-add, take-add, take-take}
use Rattle.tuples.specs.Edit.{spliced}
use Rattle.update_places.proofs.Kept.{drop-take}
use Rattle.update_table.specs.Table.{window, opens, added, head_added, closes, removed, head_removed}
use Rattle.update_table.proofs.Edits.{Opens, opened, is_open, Closes, closed, is_closed, not_added, added-below, added-above, not_removed, removed-below, removed-above}

by_ltb : (P : Type 0) (a b : ℕ) → (a < b → P) → (b ≤ a → P) → P
by_ltb P a b f g = go (ltb a b) refl
  where
    go : (x : Bool) → ltb a b ≡ x → P
    go true e = f (ltb-true _ _ e)
    go false e = g (ltb-false _ _ e)

module _ (d : List ℕ) (head n : ℕ) (h : head + n ≤ length d) where
  inside : n ≤ length (drop head d)
  inside = simp length-drop (omega arith)

  pub length-window : length (window head n d) ≡ n
  unfolding window
  length-window = length-take-le n (drop head d) inside

  pub window-set : (f p : ℕ) → f < n → window head n (set d (head + f) p) ≡ spliced f 1 (p ∷ []) (window head n d)
  unfolding window spliced
  window-set f p k =
      let l : f < length (take n (drop head d)) = rw (length-take-le n (drop head d) inside) k in
      rw (drop-set-add head d f p, take-set-lt n (drop head d) f p k, set_split (take n (drop head d)) f p l, add-one)

pub get_d_window : (d : List ℕ) (head n f : ℕ) → f < n → get_or (window head n d) f 0 ≡ get_or d (head + f) 0
unfolding window
get_d_window d head n f k = rw (get_or-take n (drop head d) f 0 k, get_or-drop)

no : {b : Bool} → b ≡ true → b ≡ false → ⊥
no e q = let z : ◌≡◌ {A = ℕ} 0 1 = cc in omega arith

-- a window that has the first f of the entries, then a piece, and then those from f + m on
cut_in : (D x Y : List ℕ) (n f m k : ℕ) → f + m ≤ n → f ≤ length D → k ≡ n - (f + m) → take k Y ≡ take k (drop (f + m) D)
    → take (f + (length x + k)) (take f D ++ (x ++ Y)) ≡ spliced f m x (take n D)
unfolding spliced
cut_in D x Y n f m k h i q e =
    let l : length (take f D) ≡ f = length-take-le f D i in
    let c : f + (length x + k) ≡ length (take f D) + (length x + k) = omega arith in
    rw (c, take-append-add, take-append-add, e, take-take f n D (omega arith), drop-take, q)

module _ (d : List ℕ) (head n f m : ℕ) (h : f + m ≤ n) (k : head + n ≤ length d) where
  -- a table that has, after some entries of which there are r, the first f, then a piece, and then the others
  edited : (x b front Y : List ℕ) (r w : ℕ) → b ≡ front ++ (take f (drop head d) ++ (x ++ Y)) → length front ≡ r → w ≡ f + (length x + (n - (f + m)))
      → take (n - (f + m)) Y ≡ take (n - (f + m)) (drop (head + (f + m)) d) → window r w b ≡ spliced f m x (window head n d)
  unfolding window
  edited x b front Y r w e l z t =
      let i : f ≤ length (drop head d) = simp length-drop (omega arith) in
      rw (e, drop_at front (take f (drop head d) ++ (x ++ Y)) r l, z) (
      cut_in (drop head d) x Y n f m (n - (f + m)) h i refl (t ∙ ap (take (n - (f + m))) (sym (drop-drop (f + m) head d))))

-- ---- one entry more

module _ (head n f p : ℕ) (d : List ℕ) where
  by_added : (P : List ℕ → ℕ → Type 0) → Opens (length d) head n f
      → (f < n - f → P (take (head - 1) d ++ (take f (drop head d) ++ (p ∷ drop (head + f) d))) (head - 1))
      → (n - f ≤ f → P (take (head + f) d ++ (p ∷ (take (n - f) (drop (head + f) d) ++ drop (suc (head + n)) d))) head)
      → P (added head n f p d) (head_added (length d) head n f)
  by_added P o g k =
      by_ltb _ f (n - f) (λ h. let (r, s) = added-below head n f p d o h in rw (← r, ← s) (g h))
      (λ h. let (r, s) = added-above head n f p d o h in rw (← r, ← s) (k h))

  pub length-added : length (added head n f p d) ≡ length d
  length-added = go (opens (length d) head n f) refl
    where
      go : (b : Bool) → opens (length d) head n f ≡ b → length (added head n f p d) ≡ length d
      go true e =
          let o : Opens (length d) head n f = opened e in
          by_added (λ b r. length b ≡ length d) o (λ h. simp (length-append, length-take, length-drop) (omega arith))
          (λ h. simp (length-append, length-take, length-drop) (omega arith))
      go false e = sym (ap length (not_added head n f p d (λ o. no (is_open head n f p d o) e)).1)

  module _ (q : opens (length d) head n f ≡ true) where
    pub head-added : (head_added (length d) head n f ≤ head) × (head ≤ head_added (length d) head n f + 1)
    head-added =
        let o : Opens (length d) head n f = opened q in
        by_added (λ b r. (r ≤ head) × (head ≤ r + 1)) o (λ h. (omega arith, omega arith)) (λ h. (omega arith, omega arith))

    pub window-added : window (head_added (length d) head n f) (suc n) (added head n f p d) ≡ spliced f 0 (p ∷ []) (window head n d)
    window-added =
        let o : Opens (length d) head n f = opened q in
        let z : f + 0 ≡ f = omega arith in
        by_added (λ b r. window r (suc n) b ≡ spliced f 0 (p ∷ []) (window head n d)) o
        (λ h.
        edited d head n f 0 (omega arith) (omega arith) (p ∷ []) _ (take (head - 1) d) (drop (head + f) d) (head - 1) (suc n) refl
        (length-take-le (head - 1) d (omega arith)) (omega arith) (rw z))
        (λ h.
        let X = take (n - f) (drop (head + f) d) in
        let Z = drop (suc (head + n)) d in
        let l : length X ≡ n - f = length-take-le (n - f) (drop (head + f) d) (simp length-drop (omega arith)) in
        edited d head n f 0 (omega arith) (omega arith) (p ∷ []) _ (take head d) (X ++ Z) head (suc n) (rw (take-add head f d) (simp append_assoc))
        (length-take-le head d (omega arith)) (omega arith) (rw z (take_at X Z (n - f) l)))

-- ---- m entries less

module _ (head n f m : ℕ) (d : List ℕ) where
  by_removed : (P : List ℕ → ℕ → Type 0) → Closes (length d) head n f m
      → (f < n - (f + m) → P (take (head + m) d ++ (take f (drop head d) ++ drop (head + m + f) d)) (head + m))
      → (n - (f + m) ≤ f → P (take (head + f) d ++ (take (n - (f + m)) (drop (head + (f + m)) d) ++ drop (head + (n - m)) d)) head)
      → P (removed head n f m d) (head_removed (length d) head n f m)
  by_removed P o g k =
      by_ltb _ f (n - (f + m)) (λ h. let (r, s) = removed-below head n f m d o h in rw (← r, ← s) (g h))
      (λ h. let (r, s) = removed-above head n f m d o h in rw (← r, ← s) (k h))

  pub length_removed : length (removed head n f m d) ≡ length d
  length_removed = go (closes (length d) head n f m) refl
    where
      go : (b : Bool) → closes (length d) head n f m ≡ b → length (removed head n f m d) ≡ length d
      go true e =
          let o : Closes (length d) head n f m = closed e in
          by_removed (λ b r. length b ≡ length d) o (λ h. simp (length-append, length-take, length-drop) (omega arith))
          (λ h. simp (length-append, length-take, length-drop) (omega arith))
      go false e = sym (ap length (not_removed head n f m d (λ o. no (is_closed head n f m d o) e)).1)

  module _ (q : closes (length d) head n f m ≡ true) where
    pub head-removed : (head ≤ head_removed (length d) head n f m) × (head_removed (length d) head n f m + (n - m) ≤ head + n)
    head-removed =
        let o : Closes (length d) head n f m = closed q in
        by_removed (λ b r. (head ≤ r) × (r + (n - m) ≤ head + n)) o (λ h. (omega arith, omega arith)) (λ h. (omega arith, omega arith))

    pub window-removed : window (head_removed (length d) head n f m) (n - m) (removed head n f m d) ≡ spliced f m [] (window head n d)
    window-removed =
        let o : Closes (length d) head n f m = closed q in
        by_removed (λ b r. window r (n - m) b ≡ spliced f m [] (window head n d)) o
        (λ h.
        let e : head + m + f ≡ head + (f + m) = omega arith in
        edited d head n f m (omega arith) (omega arith) [] _ (take (head + m) d) (drop (head + m + f) d) (head + m) (n - m) refl
        (length-take-le (head + m) d (omega arith)) (omega arith) (rw e))
        (λ h.
        let X = take (n - (f + m)) (drop (head + (f + m)) d) in
        let Z = drop (head + (n - m)) d in
        let l : length X ≡ n - (f + m) = length-take-le (n - (f + m)) (drop (head + (f + m)) d) (simp length-drop (omega arith)) in
        edited d head n f m (omega arith) (omega arith) [] _ (take head d) (X ++ Z) head (n - m) (rw (take-add head f d) (simp append_assoc))
        (length-take-le head d (omega arith)) (omega arith) (take_at X Z (n - (f + m)) l))
