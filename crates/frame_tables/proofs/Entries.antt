-- One entry of a map, one law for each way that the code takes; what holds of every entry. Assumes nothing.
use Rattle.std.specs.Prelude.{Some, None, Ok, Err}
use mathlib.Core.Path.{◌≡◌, refl, subst, ap}
use mathlib.Core.List.{List, [], ◌∷◌}
use mathlib.Core.Bool.{Bool, true, false}
use mathlib.Core.Option.{Option, none, some}
use Prim.Native.Nat.{ℕ, zero, suc, ◌+◌, ◌-◌, ◌<◌, ◌≤◌}
use native.Mathlib.Omega.{arith}
use borrow.Author.Tests.{le-leb, lt-leb, leb-true}
use lib.Dec.{leb}
use lib.ListN.{length, drop, length-drop}
use Rattle.msgpack_first_bytes.specs.Bytes.{Bytes}
use Rattle.msgpack_first_bytes.proofs.Logic.{impossible}
use Rattle.msgpack_values.specs.Value.{shift, value, Read}
use Rattle.msgpack_values.proofs.Local.{value_good, value_pos}
use Rattle.msgpack_scalars.specs.Integer.{unsigned, shift_natural, Natural}
use Rattle.msgpack_scalars.specs.Start.{map_by}
use Rattle.msgpack_scalars.specs.Header.{header, shift_header, Header}
use Rattle.msgpack_scalars.specs.declared.NoNumber.{NoNumber}
use Rattle.frames.specs.Limits.{held_depth, max_key}
use Rattle.frames.specs.Maps.{Entry, entry, keyed, entry_at, entries, entries_by, entries_at}
use Rattle.frames.specs.Cascade.{check, given, whole}
use Rattle.frame_tables.specs.declared.Value.{Value}
use Rattle.frame_tables.specs.Tables.{value_of, step_of}

abbrev pub laid_at : ℕ → ℕ → Value
laid_at a n = record { start = a; length = n }

-- no number of the place
not_found : {A : Type 0} (at : ℕ) (e : NoNumber) (v : Natural) (next : ℕ → ℕ → Option A) → Err e ≡ shift_natural at v → keyed v next ≡ none
unfolding keyed
not_found at e (Ok (k, l)) next q = impossible cc
not_found at e (Err d) next q = refl

-- a number of the place, by the answer counted from the front
found : (at k e : ℕ) (v : Natural) → Ok (k, e) ≡ shift_natural at v → (l : ℕ) × (v ≡ Ok (k, l)) × (e ≡ at + l)
found at k e (Ok (j, l)) q =
    let p : ◌≡◌ {A = ℕ × ℕ} (k, e) (j, at + l) = cc in
    (l, rw (ap (λ (x : ℕ × ℕ). x.0) p), ap (λ (x : ℕ × ℕ). x.1) p)
found at k e (Err d) q = impossible cc

module _ (s : Bytes) (at : ℕ) where
  pub no_number : (e : NoNumber) → Err e ≡ shift_natural at (unsigned (drop at s)) → None ≡ step_of (entry_at held_depth s at)
  unfolding entry_at step_of
  no_number e q = rw (not_found at e (unsigned (drop at s)) _ q)

  module _ (k a : ℕ) (q : Ok (k, a) ≡ shift_natural at (unsigned (drop at s))) where
    pub large_key : max_key < k → None ≡ step_of (entry_at held_depth s at)
    unfolding entry_at step_of keyed check
    large_key h = rw ((found at k a (unsigned (drop at s)) q).1, lt-leb k max_key h)

    keyed-value : k ≤ max_key → entry_at held_depth s at ≡ whole none (value held_depth (drop a s)) (λ m. some (entry k a m))
    unfolding entry_at keyed check
    keyed-value h =
        let f = found at k a (unsigned (drop at s)) q in
        rw (f.1, le-leb k max_key h, ← f.2)

    pub no_value : (p : ℕ) → k ≤ max_key → Err p ≡ shift a (value held_depth (drop a s)) → None ≡ step_of (entry_at held_depth s at)
    unfolding step_of whole
    no_value p h e = rw (keyed-value h) (go (value held_depth (drop a s)) e)
      where
        go : (r : Read) → Err p ≡ shift a r → None ≡ step_of (whole none r (λ m. some (entry k a m)))
        go (Ok m) e = impossible cc
        go (Err m) e = refl

    pub one_entry : (end : ℕ) → k ≤ max_key → Ok end ≡ shift a (value held_depth (drop a s)) → Some (k, laid_at a (end - a)) ≡ step_of (entry_at held_depth s at)
    unfolding step_of whole
    one_entry end h e = rw (keyed-value h) (go (value held_depth (drop a s)) e)
      where
        go : (r : Read) → Ok end ≡ shift a r → Some (k, laid_at a (end - a)) ≡ step_of (whole none r (λ m. some (entry k a m)))
        go (Ok m) e = let z : end ≡ a + m = cc in ap (λ (n : ℕ). Some (k, laid_at a n)) (omega arith)
        go (Err m) e = impossible cc

pub ends_after : (s : Bytes) (a end : ℕ) → Ok end ≡ shift a (value held_depth (drop a s)) → a ≤ end
ends_after s a end e = go (value held_depth (drop a s)) e
  where
    go : (r : Read) → Ok end ≡ shift a r → a ≤ end
    go (Ok m) e = let z : end ≡ a + m = cc in omega arith
    go (Err m) e = impossible cc

-- ---- what a step says

pub step-none : (o : Option Entry) → None ≡ step_of o → o ≡ none
unfolding step_of
step-none none e = refl
step-none (some x) e = impossible cc

pub step_some : (o : Option Entry) (k : ℕ) (v : Value) → Some (k, v) ≡ step_of o → o ≡ some (entry k v.start v.length)
unfolding step_of
step_some none k v e = impossible cc
step_some (some x) k v e =
    let p : ◌≡◌ {A = ℕ × Value} (k, v) (x.key, value_of x) = cc in
    rw (ap (λ (y : ℕ × Value). y.0) p, ap (λ (y : ℕ × Value). y.1.start) p, ap (λ (y : ℕ × Value). y.1.length) p)

-- an entry that a table of 128 can hold, and that ends within the bytes
pub record Fits (s : Bytes) (e : Entry) : Type 0 where
  pub low : e.key < 128
  pub long : 1 ≤ e.length
  pub inside : e.start + e.length ≤ length s

pub entry-fits : (d : ℕ) (s : Bytes) (at : ℕ) (e : Entry) → entry_at d s at ≡ some e → Fits s e
unfolding entry_at keyed check whole
entry-fits d s at e q = by_key (unsigned (drop at s)) q
  where
    by_value : (k a : ℕ) → k ≤ max_key → (r : Read) → value d (drop a s) ≡ r → whole none r (λ m. some (entry k a m)) ≡ some e → Fits s e
    by_value k a h (Ok m) v q =
        let i = simp length-drop at (value_good d (drop a s) m v).0 in
        let p = value_pos d (drop a s) m v in
        let z : entry k a m ≡ e = cc in
        subst (Fits s) z (record { low = omega arith; long = p; inside = omega arith })
    by_value k a h (Err m) v q = impossible cc

    by_test : (k a : ℕ) (b : Bool) → leb k max_key ≡ b → check none b (whole none (value d (drop a s)) (λ m. some (entry k a m))) ≡ some e → Fits s e
    by_test k a true t q = by_value k a (leb-true k max_key t) (value d (drop a s)) refl q
    by_test k a false t q = impossible cc

    by_key : (u : Natural) → keyed u (λ k l. whole none (value d (drop (at + l) s)) (λ m. some (entry k (at + l) m))) ≡ some e → Fits s e
    by_key (Ok (k, l)) q = by_test k (at + l) (leb k max_key) refl q
    by_key (Err e) q = impossible cc

-- each of a map's entries is one
pub data AllFit (s : Bytes) : List Entry → Type 0 where
  nil : AllFit s []
  more : {e : Entry} {es : List Entry} → Fits s e → AllFit s es → AllFit s (e ∷ es)

pub entries_fit : (d : ℕ) (s : Bytes) (n at : ℕ) (es : List Entry) → entries d s n at ≡ some es → AllFit s es
unfolding entries given
entries_fit d s zero at es q = let z : [] ≡ es = cc in subst (AllFit s) z nil
entries_fit d s (suc n) at es q = first (entry_at d s at) refl (entries_fit d s n) q
  where
    rest : (e : Entry) → Fits s e → (o : Option (List Entry)) → ((xs : List Entry) → o ≡ some xs → AllFit s xs) → given none o (λ xs. some (e ∷ xs)) ≡ some es → AllFit s es
    rest e f none ih q = impossible cc
    rest e f (some xs) ih q = let z : e ∷ xs ≡ es = cc in subst (AllFit s) z (more f (ih xs refl))

    first : (o : Option Entry) → entry_at d s at ≡ o → ((at : ℕ) (xs : List Entry) → entries d s n at ≡ some xs → AllFit s xs)
        → given none o (λ e. given none (entries d s n (e.start + e.length)) (λ xs. some (e ∷ xs))) ≡ some es → AllFit s es
    first none p ih q = impossible cc
    first (some e) p ih q = rest e (entry-fits d s at e p) (entries d s n (e.start + e.length)) (ih (e.start + e.length)) q

-- ---- the map at a place

module _ (d : ℕ) (s : Bytes) (at : ℕ) where
  pub no_map : None ≡ shift_header at (header map_by (drop at s)) → entries_at d s at ≡ none
  unfolding entries_at entries_by
  no_map e = go (header map_by (drop at s)) e
    where
      go : (h : Header) → None ≡ shift_header at h → entries_by d s at h ≡ none
      go (Some (n, l)) e = impossible cc
      go None e = refl

  pub a-map : (n from : ℕ) → Some (n, from) ≡ shift_header at (header map_by (drop at s)) → entries_at d s at ≡ entries d s n from
  unfolding entries_at entries_by
  a-map n from e = go (header map_by (drop at s)) e
    where
      go : (h : Header) → Some (n, from) ≡ shift_header at h → entries_by d s at h ≡ entries d s n from
      go (Some (m, l)) e =
          let p : ◌≡◌ {A = ℕ × ℕ} (n, from) (m, at + l) = cc in
          rw (ap (λ (x : ℕ × ℕ). x.0) p, ap (λ (x : ℕ × ℕ). x.1) p)
      go None e = impossible cc

  pub all_fit : (es : List Entry) → entries_at d s at ≡ some es → AllFit s es
  unfolding entries_at entries_by
  all_fit es e = go (header map_by (drop at s)) e
    where
      go : (h : Header) → entries_by d s at h ≡ some es → AllFit s es
      go (Some (n, l)) e = entries_fit d s n (at + l) es e
      go None e = impossible cc
