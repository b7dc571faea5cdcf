-- The table of entries tells what the entries tell: where each key's value stands, and whether a key stands twice. Assumes nothing.
use mathlib.Core.Path.{◌≡◌, refl, sym, ap, ap₂, ◌∙◌, fun_ext}
use mathlib.Core.List.{List, [], ◌∷◌}
use mathlib.Core.Bool.{Bool, true, false, not, ◌&&◌, ◌||◌}
use mathlib.Core.Option.{Option, none, some}
use Prim.Native.Nat.{ℕ, zero, suc}
use native.Mathlib.Omega.{arith}
use borrow.Author.Tests.{eq-eqb, ne_eqb, eqb-true, eqb-false}
use lib.Dec.{eqb}
use lib.ListN.{length, get_or, replicate, length-set}
use lib.Seq.{get_or-set_same, get_or-set_other}
use Rattle.msgpack_first_bytes.specs.Bytes.{Bytes, pick}
use Rattle.frames.specs.declared.Place.{Place}
use Rattle.frames.specs.Keys.{nowhere}
use Rattle.frames.specs.Maps.{Entry, keys, has, distinct, placed, find}
use Rattle.frame_tables.specs.Tables.{no_value, value_of, Table, empty_table, laid, laid_all, tabled_on, tabled, place_in}
use Rattle.frame_tables.proofs.Entries.{Fits, AllFit, nil, more}
use Rattle.frame_tables.proofs.Tables.{laid_new, laid_twice}

-- a key has no place yet
abbrev free : Table → ℕ → Bool
free t k = eqb (get_or t.values k no_value).length 0

abbrev pub Room : Table → Type 0
Room t = length t.values ≡ 128

abbrev pub place_of : Table → ℕ → Place
place_of t k = place_in t.values k

-- ---- one entry more

laid-room : (e : Entry) (t : Table) → Room t → Room (laid e t)
laid-room e t r = go (free t e.key) refl
  where
    go : (b : Bool) → free t e.key ≡ b → Room (laid e t)
    go true q = rw (laid_new e t (eqb-true _ 0 q)) (rw length-set r)
    go false q = rw (laid_twice e t (eqb-false _ 0 q)) r

module _ {s : Bytes} (e : Entry) (t : Table) (f : Fits s e) (r : Room t) where
  laid-number : (laid e t).number ≡ pick (free t e.key) t.number 7
  laid-number = go (free t e.key) refl
    where
      go : (b : Bool) → free t e.key ≡ b → (laid e t).number ≡ pick b t.number 7
      go true q = rw (laid_new e t (eqb-true _ 0 q))
      go false q = rw (laid_twice e t (eqb-false _ 0 q))

  -- its own key, and any other
  laid-key : (k : ℕ) → (free (laid e t) k ≡ (free t k && not (eqb k e.key)))
      × (place_of (laid e t) k ≡ pick (free t k && eqb k e.key) (placed e.start e.length) (place_of t k))
  unfolding place_in
  laid-key k = go (free t e.key) refl (eqb k e.key) refl
    where
      pass : (x : Bool) → x ≡ (x && true)
      pass true = refl
      pass false = refl

      stay : (x : Bool) (p q : Place) → q ≡ pick (x && false) p q
      stay true p q = refl
      stay false p q = refl

      go : (b : Bool) → free t e.key ≡ b → (c : Bool) → eqb k e.key ≡ c
          → (free (laid e t) k ≡ (free t k && not c)) × (place_of (laid e t) k ≡ pick (free t k && c) (placed e.start e.length) (place_of t k))
      go true p true q =
          let z : k ≡ e.key = eqb-true k e.key q in
          let w = f.low in
          let m = f.long in
          let a = get_or-set_same t.values e.key (value_of e) no_value (omega arith) in
          let d : eqb e.length 0 ≡ false = ne_eqb e.length 0 (λ x. omega arith) in
          rw (laid_new e t (eqb-true _ 0 p), z, p, a, d) (refl, refl)
      go false p true q =
          let z : k ≡ e.key = eqb-true k e.key q in
          rw (laid_twice e t (eqb-false _ 0 p), z, p) (refl, refl)
      go true p false q =
          let n = eqb-false k e.key q in
          let a = get_or-set_other t.values e.key k (value_of e) no_value n in
          rw (laid_new e t (eqb-true _ 0 p), a) (pass (free t k), stay (free t k) _ _)
      go false p false q = rw (laid_twice e t (eqb-false _ 0 p)) (pass (free t k), stay (free t k) _ _)

-- ---- all entries

choice : (x c : Bool) (p q r : Place) → pick (x && not c) q (pick (x && c) p r) ≡ pick x (pick c p q) r
choice true true p q r = refl
choice true false p q r = refl
choice false c p q r = refl

-- a place that is taken stays; one that is free gets the first entry's
all-places : {s : Bytes} {es : List Entry} → AllFit s es → (t : Table) → Room t → (k : ℕ) → place_of (laid_all es t) k ≡ pick (free t k) (find es k) (place_of t k)
unfolding laid_all find
all-places nil t r k = go (free t k) refl
  where
    go : (b : Bool) → free t k ≡ b → place_of t k ≡ pick b nowhere (place_of t k)
    go true q = unfold place_in in rw q
    go false q = refl
all-places (more {e = e} {es = es} f fs) t r k =
    let l = laid-key e t f r k in
    all-places fs (laid e t) (laid-room e t r) k
    ∙ ap₂ (λ (b : Bool) (p : Place). pick b (find es k) p) l.0 l.1
    ∙ choice (free t k) (eqb k e.key) _ _ _

unfoldable all_free : List ℕ → Table → Bool
all_free [] t = true
all_free (k ∷ ks) t = free t k && all_free ks t

symmetric : (j k : ℕ) → eqb j k ≡ eqb k j
symmetric j k = go (eqb k j) refl
  where
    go : (b : Bool) → eqb k j ≡ b → eqb j k ≡ b
    go true q = eq-eqb j k (sym (eqb-true k j q))
    go false q = ne_eqb j k (λ z. eqb-false k j q (sym z))

regroup : (x c h a : Bool) → ((x && not c) && (a && not h)) ≡ ((x && a) && not (c || h))
regroup true true h true = refl
regroup true true h false = refl
regroup true false h a = refl
regroup false c h a = refl

still_free : {s : Bytes} (e : Entry) (t : Table) → Fits s e → Room t → (ks : List ℕ) → all_free ks (laid e t) ≡ (all_free ks t && not (has e.key ks))
unfolding all_free has
still_free e t f r [] = refl
still_free e t f r (k ∷ ks) =
    ap₂ (λ (a b : Bool). a && b) ((laid-key e t f r k).0 ∙ ap (λ (c : Bool). free t k && not c) (symmetric k e.key)) (still_free e t f r ks)
    ∙ regroup (free t k) (eqb e.key k) (has e.key ks) (all_free ks t)

algebra : (d a h x : Bool) (n : ℕ) → pick (d && (a && not h)) (pick x n 7) 7 ≡ pick ((not h && d) && (x && a)) n 7
algebra true true true x n = refl
algebra true true false true n = refl
algebra true true false false n = refl
algebra true false true x n = refl
algebra true false false true n = refl
algebra true false false false n = refl
algebra false a true x n = refl
algebra false a false x n = refl

all-number : {s : Bytes} {es : List Entry} → AllFit s es → (t : Table) → Room t
    → (laid_all es t).number ≡ pick (distinct (keys es) && all_free (keys es) t) t.number 7
unfolding laid_all distinct keys all_free
all-number nil t r = refl
all-number (more {e = e} {es = es} f fs) t r =
    all-number fs (laid e t) (laid-room e t r)
    ∙ ap₂ (λ (b : Bool) (n : ℕ). pick (distinct (keys es) && b) n 7) (still_free e t f r (keys es)) (laid-number e t f r)
    ∙ algebra (distinct (keys es)) (all_free (keys es) t) (has e.key (keys es)) (free t e.key) t.number

-- ---- from the empty table

empty_slot : (n k : ℕ) → get_or (replicate n no_value) k no_value ≡ no_value
empty_slot zero k = refl
empty_slot (suc n) zero = refl
empty_slot (suc n) (suc k) = empty_slot n k

empty_free : (k : ℕ) → free (empty_table 0) k ≡ true
unfolding empty_table
empty_free k = rw (empty_slot 128 k)

empty_room : (n : ℕ) → Room (empty_table n)
unfolding empty_table
empty_room n = refl

all_room : (es : List Entry) (t : Table) → Room t → Room (laid_all es t)
unfolding laid_all
all_room [] t r = r
all_room (e ∷ es) t r = all_room es (laid e t) (laid-room e t r)

-- a table has its 128 places, whatever was laid
pub tabled-room : (o : Option (List Entry)) → Room (tabled o)
unfolding tabled_on
tabled-room none = empty_room 6
tabled-room (some es) = all_room es (empty_table 0) (empty_room 0)

all-free : (ks : List ℕ) → all_free ks (empty_table 0) ≡ true
unfolding all_free
all-free [] = refl
all-free (k ∷ ks) = rw (empty_free k) (all-free ks)

and_true : (a : Bool) → (a && true) ≡ a
and_true true = refl
and_true false = refl

-- each key's place
pub places-found : {s : Bytes} {es : List Entry} → AllFit s es → place_of (laid_all es (empty_table 0)) ≡ find es
places-found f = fun_ext (λ k. all-places f (empty_table 0) (empty_room 0) k ∙ rw (empty_free k))

-- 7 exactly where a key stands twice
pub number-found : {s : Bytes} {es : List Entry} → AllFit s es → (laid_all es (empty_table 0)).number ≡ pick (distinct (keys es)) 0 7
number-found {es = es} f =
    all-number f (empty_table 0) (empty_room 0)
    ∙ ap₂ (λ (b : Bool) (n : ℕ). pick b n 7) (ap (λ (b : Bool). distinct (keys es) && b) (all-free (keys es)) ∙ and_true (distinct (keys es))) (unfold empty_table in refl)
