-- The work array only grows: what is written past its used bytes changes no field. Assumes nothing.
use mathlib.Core.Path.{◌≡◌, refl, sym, ap, ◌∙◌}
use mathlib.Core.List.{List, [], ◌∷◌, map}
use Prim.Native.Nat.{ℕ, zero, suc, ◌-◌, ◌≤◌}
use native.Mathlib.Omega.{arith}
use native.Mathlib.Numerals.{unary_clauses}
use lib.ListN.{length, take, drop, get_or, length-take, length-drop}
use lib.Seq.{take-take, take-nil}
use Rattle.msgpack_first_bytes.specs.Bytes.{Bytes}
use Rattle.update_places.specs.Place.{start_of, length_of, in_work, bytes_from, bytes_at, fields_in}
use Rattle.update_places.proofs.Runs.{by_source, from-tuple, from_list, from-work}

pub drop-take : {A : Type 0} (b n : ℕ) (l : List A) → drop b (take n l) ≡ take (n - b) (drop b l)
drop-take zero n l = simp unary_clauses
drop-take (suc b) zero l = let e : 0 - suc b ≡ 0 = omega arith in rw e
drop-take (suc b) (suc n) [] = sym (take-nil (suc n - suc b))
drop-take (suc b) (suc n) (x ∷ l) = simp unary_clauses (drop-take b n l)

-- a part that is whole in the first u bytes is the same in all of them
inner : (s : Bytes) (u a n : ℕ) → length (take n (drop a (take u s))) ≡ n → take n (drop a (take u s)) ≡ take n (drop a s)
inner s u a n e =
    let l = length-take n (drop a (take u s)) in
    let d = length-drop a (take u s) in
    let k = length-take u s in
    let h : n ≤ u - a = omega (arith, e, l, d, k) in
    ap (take n) (drop-take a u s) ∙ take-take n (u - a) (drop a s) h

module _ (t l w v : Bytes) (u : ℕ) (q : take u v ≡ take u w) where
  pub kept_from : (a n : ℕ) → length (bytes_from t l (take u w) a n) ≡ n → bytes_from t l v a n ≡ bytes_from t l (take u w) a n
  kept_from a n e =
      by_source _ a (λ h. from-tuple t l v a n h ∙ sym (from-tuple t l (take u w) a n h))
      (λ h k. from_list t l v a n h k ∙ sym (from_list t l (take u w) a n h k))
      (λ h.
      let b = a - in_work in
      let f : length (take n (drop b (take u v))) ≡ n = ap (λ (x : Bytes). length (take n (drop b x))) q ∙ ap length (sym (from-work t l (take u w) a n h)) ∙ e in
      from-work t l v a n h ∙ sym (inner v u b n f) ∙ ap (λ (x : Bytes). take n (drop b x)) q ∙ sym (from-work t l (take u w) a n h))

  pub kept-one : (p : ℕ) → length (bytes_at t l (take u w) p) ≡ length_of p → bytes_at t l v p ≡ bytes_at t l (take u w) p
  unfolding bytes_at
  kept-one p = kept_from (start_of p) (length_of p)

  -- THE LOG: fields that lie whole in the used bytes stay what they are, whatever is written behind them
  pub kept : (es : List ℕ) → map length (fields_in t l (take u w) es) ≡ map length_of es → fields_in t l v es ≡ fields_in t l (take u w) es
  unfolding fields_in
  kept [] m = refl
  kept (e ∷ es) m = rw (kept-one e (ap (λ (x : List ℕ). get_or x 0 0) m), kept es (ap (drop 1) m))

-- and in more used bytes
module _ (t l w v : Bytes) (u u' : ℕ) (h : u ≤ u') (q : take u v ≡ take u w) where
  pub kept-one-more : (p : ℕ) → length (bytes_at t l (take u w) p) ≡ length_of p → bytes_at t l (take u' v) p ≡ bytes_at t l (take u w) p
  kept-one-more = kept-one t l w (take u' v) u (take-take u u' v h ∙ q)

  pub kept_more : (es : List ℕ) → map length (fields_in t l (take u w) es) ≡ map length_of es → fields_in t l (take u' v) es ≡ fields_in t l (take u w) es
  kept_more = kept t l w (take u' v) u (take-take u u' v h ∙ q)
