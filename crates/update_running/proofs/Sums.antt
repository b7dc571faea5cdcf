-- Sums of lengths, and what an edit leaves at both ends. Assumes nothing.
use mathlib.Core.Path.{◌≡◌, refl, sym, ap, ◌∙◌}
use mathlib.Core.List.{List, [], ◌∷◌, ◌++◌, map, append_assoc}
use Prim.Native.Nat.{ℕ, suc, ◌+◌, ◌-◌, ◌≤◌}
use native.Mathlib.Omega.{arith}
use lib.ListN.{length, take, drop, length-append, length-drop, take-append-drop}
use lib.Seq.{length-take-le, take-take, take-append-le, drop-append-add, drop-drop}
use Rattle.msgpack_first_bytes.specs.Bytes.{Bytes}
use Rattle.msgpack_values.specs.Pieces.{joined}
use Rattle.tuples.specs.Edit.{spliced}
use Rattle.update_places.specs.Place.{sum}

pub length-map : {A B : Type 0} (g : A → B) (s : List A) → length (map g s) ≡ length s
length-map g [] = refl
length-map g (x ∷ s) = ap suc (length-map g s)

pub length-joined : (fs : List Bytes) → length (joined fs) ≡ sum (map length fs)
unfolding joined sum
length-joined [] = refl
length-joined (x ∷ fs) = length-append x (joined fs) ∙ ap (λ (n : ℕ). length x + n) (length-joined fs)

pub sum-append : (a b : List ℕ) → sum (a ++ b) ≡ sum a + sum b
unfolding sum
sum-append [] b = omega arith
sum-append (x ∷ a) b = let e = sum-append a b in omega arith

-- what is put in, and what goes
pub sum-spliced : (f c : ℕ) (ys ls : List ℕ) → sum (spliced f c ys ls) + sum (take c (drop f ls)) ≡ sum ls + sum ys
unfolding spliced
sum-spliced f c ys ls =
    let a = sum-append (take f ls) (ys ++ drop (f + c) ls) in
    let b = sum-append ys (drop (f + c) ls) in
    let d = sum-append (take f ls) (drop f ls) in
    let e = ap sum (take-append-drop f ls) in
    let g = sum-append (take c (drop f ls)) (drop c (drop f ls)) in
    let h = ap sum (take-append-drop c (drop f ls)) in
    let i : sum (drop c (drop f ls)) ≡ sum (drop (f + c) ls) = ap sum (drop-drop c f ls) in
    omega arith

module _ {A : Type 0} (f c : ℕ) (xs s : List A) (h : f + c ≤ length s) where
  before : length (take f s) ≡ f
  before = length-take-le f s (omega arith)

  pub length-spliced : length (spliced f c xs s) ≡ length s - c + length xs
  unfolding spliced
  length-spliced =
      let a = length-append (take f s) (xs ++ drop (f + c) s) in
      let b = length-append xs (drop (f + c) s) in
      let d = length-drop (f + c) s in
      let e = before in
      omega arith

  -- the ends stay as they were
  pub front-spliced : (k : ℕ) → k ≤ f → take k (spliced f c xs s) ≡ take k s
  unfolding spliced
  front-spliced k i = let e = before in take-append-le k (take f s) (xs ++ drop (f + c) s) (omega arith) ∙ take-take k f s i

  pub rear-spliced : (k m : ℕ) → k ≤ length s - (f + c) → m ≡ length s - c + length xs - k → drop m (spliced f c xs s) ≡ drop (length s - k) s
  unfolding spliced
  rear-spliced k m i j =
      let e : length (take f s ++ xs) ≡ f + length xs = length-append (take f s) xs ∙ ap (λ (n : ℕ). n + length xs) before in
      let r = length s - (f + c) - k in
      let g : m ≡ length (take f s ++ xs) + r = omega arith in
      let o : r + (f + c) ≡ length s - k = omega arith in
      ap (λ (x : List A). drop m x) (sym (append_assoc (take f s) xs (drop (f + c) s))) ∙ ap (λ (n : ℕ). drop n ((take f s ++ xs) ++ drop (f + c) s)) g
      ∙ drop-append-add (take f s ++ xs) (drop (f + c) s) r ∙ drop-drop r (f + c) s ∙ ap (λ (n : ℕ). drop n s) (let q : f + c + r ≡ length s - k = omega arith in q)
