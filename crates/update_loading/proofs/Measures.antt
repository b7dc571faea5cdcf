-- Values one after the other, their places into a table. Assumes nothing.
use Rattle.std.specs.Prelude.{Ok, Err}
use mathlib.Core.Path.{◌≡◌, refl, sym, ap, ◌∙◌}
use mathlib.Core.List.{List, [], ◌∷◌, ◌++◌, append_assoc, append-nil}
use Prim.Native.Nat.{ℕ, suc, ◌+◌, ◌-◌, ◌<◌, ◌≤◌}
use native.Mathlib.Omega.{arith}
use native.Mathlib.Numerals.{add-one}
use native.Mathlib.Nat.{add-zero, sub-zero}
use lib.ListN.{length, take, drop, set, length-append, length-drop, length-set, take-append-drop}
use lib.Seq.{take-suc-set, drop-set-lt, drop-drop, length-take-le}
use Rattle.std.proofs.lemmas.List.{drop-append-le}
use Rattle.msgpack_first_bytes.specs.Bytes.{Bytes}
use Rattle.msgpack_first_bytes.proofs.Logic.{impossible}
use Rattle.msgpack_values.specs.Value.{shift, items, Read}
use Rattle.msgpack_values.specs.Pieces.{pieces}
use Rattle.msgpack_values.proofs.Laws.{items-whole, items-broken}
use Rattle.msgpack_values.proofs.Local.{Good}
use Rattle.update_places.specs.Place.{place_of, places_at}
use Rattle.update_loading.specs.Loading.{tabled}

-- i of n values from a place on were whole, `at` is the place after them, and the table l has their places; past them it is as it was
pub record Sofar (v : Bytes → Read) (t : Bytes) (from n : ℕ) (l₀ l : List ℕ) (at i : ℕ) : Type 0 where
  pub read : shift at (items v (n - i) (drop at t)) ≡ shift from (items v n (drop from t))
  pub cuts : places_at from (pieces v n (drop from t)) ≡ take i l ++ places_at at (pieces v (n - i) (drop at t))
  pub rest : drop i l ≡ drop i l₀

pub begin : (v : Bytes → Read) (t : Bytes) (from n : ℕ) (l : List ℕ) → Sofar v t from n l l from 0
begin v t from n l = record { read = rw sub-zero; cuts = rw sub-zero; rest = refl }

-- what a value at a place says of its length
pub whole-at : (at e : ℕ) (r : Read) → Ok e ≡ shift at r → (e ≡ at + (e - at)) × (r ≡ Ok (e - at))
whole-at at e (Ok k) h =
    let q : e ≡ at + k = cc in
    let m : k ≡ e - at = omega arith in
    (omega arith, ap Ok m)
whole-at at e (Err p) h = impossible cc

-- nothing more is measured: the table is what was measured, laid over
ended : {v : Bytes → Read} {t : Bytes} {from n : ℕ} {l₀ l : List ℕ} {at i : ℕ} → Sofar v t from n l₀ l at i → i ≤ length l
    → places_at at (pieces v (n - i) (drop at t)) ≡ [] → l ≡ tabled (places_at from (pieces v n (drop from t))) l₀
unfolding tabled
ended {l₀ = l₀} {l = l} {i = i} f h e =
    let k : length (take i l) ≡ i = length-take-le i l h in
    rw (f.cuts, e, append-nil, k, ← f.rest) (sym (take-append-drop i l))

module _ {v : Bytes → Read} (good : Good v) {t : Bytes} {from n : ℕ} {l₀ l : List ℕ} {at i : ℕ} (f : Sofar v t from n l₀ l at i) (h : i < n) where
  one_less : n - i ≡ suc (n - (i + 1))
  one_less = omega arith

  pub place_after : {e : ℕ} → Ok e ≡ shift at (v (drop at t)) → at ≤ e
  place_after q = let w = whole-at at _ (v (drop at t)) q in omega arith

  next-whole : {e p : ℕ} → i < length l → Ok e ≡ shift at (v (drop at t)) → p ≡ place_of at (e - at) → Sofar v t from n l₀ (set l i p) e (i + 1)
  unfolding pieces places_at
  next-whole {e} {p} g q o =
      let w = whole-at at e (v (drop at t)) q in
      let k = e - at in
      let rows : take (i + 1) (set l i p) ≡ take i l ++ (p ∷ []) = rw add-one (take-suc-set l i p g) in
      let long : length (take k (drop at t)) ≡ k = length-take-le k (drop at t) (good (drop at t) k w.1).0 in
      let d : drop k (drop at t) ≡ drop e t = drop-drop k at t ∙ ap (λ (x : ℕ). drop x t) (sym w.0) in
      let off : drop 1 (drop i l) ≡ drop 1 (drop i l₀) = ap (drop 1) f.rest in
      record {
        read = sym (items-whole v t at (n - (i + 1)) e q) ∙ rw (← one_less) f.read;
        cuts = f.cuts ∙ rw (one_less, w.1, long, d, ← w.0, ← o, rows) (simp append_assoc);
        rest = drop-set-lt (i + 1) l i p (omega arith) ∙ simp drop-drop at off;
      }

  -- what the next turn finds
  pub next_turn : {e p : ℕ} → length l ≡ n → Ok e ≡ shift at (v (drop at t)) → p ≡ place_of at (e - at) → (length (set l i p) ≡ n) × Sofar v t from n l₀ (set l i p) e (i + 1)
  next_turn k q o = (simp length-set k, next-whole (omega arith) q o)

  pub next-broken : {p : ℕ} → i ≤ length l → Err p ≡ shift at (v (drop at t))
      → (Err p ≡ shift from (items v n (drop from t))) × (l ≡ tabled (places_at from (pieces v n (drop from t))) l₀)
  unfolding pieces places_at
  next-broken {p} g q = (items-broken v t at (n - (i + 1)) p q ∙ rw (← one_less) f.read, ended f g (rw one_less (none (v (drop at t)) refl q)))
    where
      none : (r : Read) → v (drop at t) ≡ r → Err p ≡ shift at r → places_at at (pieces v (suc (n - (i + 1))) (drop at t)) ≡ []
      none (Ok k) e q = impossible cc
      none (Err k) e q = rw e

pub all_whole : {v : Bytes → Read} {t : Bytes} {from n : ℕ} {l₀ l : List ℕ} {at i : ℕ} → Sofar v t from n l₀ l at i → i ≡ n → i ≤ length l
    → (Ok at ≡ shift from (items v n (drop from t))) × (l ≡ tabled (places_at from (pieces v n (drop from t))) l₀)
unfolding items pieces places_at
all_whole {v} {t} {from} {n} {l₀} {l} {at} {i} f e g =
    let z : n - i ≡ 0 = omega arith in
    (rw (z, add-zero) at f.read, ended f g (rw z))

-- the front of a table filled, and the rest of it as it was
pub laid : (ps table : List ℕ) {l : List ℕ} {n : ℕ} → n ≤ length table → length l ≡ n → l ≡ tabled ps (take n table) → l ++ drop n table ≡ tabled ps table
unfolding tabled
laid ps table {l} {n} h k e =
    let f = length-take-le n table h in
    let g = simp (length-append, length-drop) at (ap length e) in
    let m : length ps ≤ length (take n table) = omega arith in
    let d : drop (length ps) table ≡ drop (length ps) (take n table) ++ drop n table = ap (drop (length ps)) (sym (take-append-drop n table)) ∙ drop-append-le (length ps) (take n table) (drop n table) m in
    rw (e, append_assoc, ← d)
