-- Items with distinct keys, the pairs that are written of them, and what is read of those. Assumes nothing.
use Rattle.std.specs.Prelude.{Ok, Err}
use Prim.Native.Nat.{ℕ, ◌+◌, ◌^◌, ◌<◌}
use mathlib.Core.Path.{◌≡◌, refl, sym, ap, ap₂, ◌∙◌, subst}
use mathlib.Core.Bool.{Bool, true, false, not, ◌&&◌, ◌||◌}
use mathlib.Core.List.{List, [], ◌∷◌}
use mathlib.Core.Option.{Option, none, some}
use native.Mathlib.Omega.{arith}
use borrow.Author.Tests.{ltb-true, leb-true, eqb-true, eqb-false, not-true, le-leb, eq-eqb, ne_eqb}
use lib.Dec.{leb, ltb, eqb}
use lib.ListN.{length}
use Rattle.msgpack_first_bytes.specs.Bytes.{Bytes, pick}
use Rattle.msgpack_values.specs.Value.{value, Read}
use Rattle.msgpack_writing.specs.Forms.{unsigned_form}
use Rattle.frames.specs.declared.Place.{Place}
use Rattle.frames.specs.declared.Rule.{Rule}
use Rattle.frames.specs.declared.Rule.TheVariants.{AtMost, Array, String, Anything}
use Rattle.frames.specs.Limits.{max64, held_depth}
use Rattle.frames.specs.Held.{all, Held, absent, outside, number, bytes, view, number_in, suits, number_or_bytes, value_held, held_at, number_held, place_held, encoded, is_some, Item, item, locate}
use Rattle.frames.specs.Keys.{optional}
use Rattle.frames.specs.Maps.{keys, has, distinct}
use Rattle.frames.specs.Writing.{Pair, onto, pairs, is_whole, sound}
use Rattle.frame_round_trip.proofs.Numbers.{unsigned_form_lem, form_whole}
use Rattle.frame_round_trip.proofs.Maps.{All, Fine, located, Holds, Stands, seek}

pub never : {A : Type 0} → false ≡ true → A
never e = absurd (let z : ◌≡◌ {A = ℕ} 0 1 = cc in omega arith)

pub both : (a b : Bool) → (a && b) ≡ true → (a ≡ true) × (b ≡ true)
both true b h = (refl, h)
both false b h = never h

neither : (a b : Bool) → (a || b) ≡ false → (a ≡ false) × (b ≡ false)
neither true b h = never (sym h)
neither false b h = (refl, h)

-- ---- their keys

unfoldable pub item_keys : List Item → List ℕ
item_keys [] = []
item_keys (x ∷ xs) = x.key ∷ item_keys xs

unfoldable pair_keys : List Pair → List ℕ
pair_keys [] = []
pair_keys (p ∷ ps) = p.key ∷ pair_keys ps

located-keys : (at : ℕ) (ps : List Pair) → keys (located at ps) ≡ pair_keys ps
unfolding keys located pair_keys
located-keys at [] = refl
located-keys at (p ∷ ps) = ap (◌∷◌ p.key) (located-keys (at + 1 + length p.bytes) ps)

-- a key that no item has, no pair has
has-pairs : (k : ℕ) (xs : List Item) → has k (item_keys xs) ≡ false → has k (pair_keys (pairs xs)) ≡ false
unfolding has item_keys pair_keys pairs onto
has-pairs k [] h = refl
has-pairs k (x ∷ xs) h = let n = neither (eqb k x.key) (has k (item_keys xs)) h in go (encoded x.held) n.0 (has-pairs k xs n.1)
  where
    go : (o : Option Bytes) → eqb k x.key ≡ false → has k (pair_keys (pairs xs)) ≡ false → has k (pair_keys (onto x.key o (pairs xs))) ≡ false
    go none e i = i
    go (some v) e i = rw e i

distinct-pairs : (xs : List Item) → distinct (item_keys xs) ≡ true → distinct (pair_keys (pairs xs)) ≡ true
unfolding distinct item_keys pair_keys pairs onto
distinct-pairs [] d = refl
distinct-pairs (x ∷ xs) d =
    let b = both (not (has x.key (item_keys xs))) (distinct (item_keys xs)) d in
    go (encoded x.held) (has-pairs x.key xs (not-true _ b.0)) (distinct-pairs xs b.1)
  where
    go : (o : Option Bytes) → has x.key (pair_keys (pairs xs)) ≡ false → distinct (pair_keys (pairs xs)) ≡ true → distinct (pair_keys (onto x.key o (pairs xs))) ≡ true
    go none e i = i
    go (some v) e i = rw e i

-- 7 does not come
pub distinct-located : (at : ℕ) (xs : List Item) → distinct (item_keys xs) ≡ true → distinct (keys (located at (pairs xs))) ≡ true
distinct-located at xs d = rw located-keys (distinct-pairs xs d)

-- ---- under its key each item's encoding is found

seek-none : (k : ℕ) (ps : List Pair) → has k (pair_keys ps) ≡ false → seek ps k ≡ none
unfolding has pair_keys seek
seek-none k [] h = refl
seek-none k (p ∷ ps) h = let n = neither (eqb k p.key) (has k (pair_keys ps)) h in rw n.0 (seek-none k ps n.1)

pub seek-pairs : (xs : List Item) (k : ℕ) → distinct (item_keys xs) ≡ true → seek (pairs xs) k ≡ encoded (locate xs k)
unfolding distinct item_keys pairs seek onto locate encoded
seek-pairs [] k d = refl
seek-pairs (x ∷ xs) k d =
    let b = both (not (has x.key (item_keys xs))) (distinct (item_keys xs)) d in
    go x.held (encoded x.held) refl (eqb k x.key) refl (seek-none x.key (pairs xs) (has-pairs x.key xs (not-true _ b.0))) (seek-pairs xs k b.1)
  where
    go : (h : Held) (o : Option Bytes) → encoded h ≡ o → (b : Bool) → eqb k x.key ≡ b → seek (pairs xs) x.key ≡ none → seek (pairs xs) k ≡ encoded (locate xs k)
        → seek (onto x.key o (pairs xs)) k ≡ encoded (pick b h (locate xs k))
    go h none q true e n i = rw (eqb-true k x.key e) (n ∙ sym q)
    go h none q false e n i = i
    go h (some v) q true e n i = rw (e, q)
    go h (some v) q false e n i = rw e i

-- each item is the one that is found under its key
abbrev First : List Item → Item → Type 0
First xs x = locate xs x.key ≡ x.held

firsts : (xs : List Item) → distinct (item_keys xs) ≡ true → All (First xs) xs
unfolding distinct has item_keys locate
firsts [] d = tt
firsts (x ∷ xs) d =
    let b = both (not (has x.key (item_keys xs))) (distinct (item_keys xs)) d in
    (rw (eq-eqb x.key x.key refl), later xs (not-true _ b.0) (firsts xs b.1))
  where
    later : (ys : List Item) → has x.key (item_keys ys) ≡ false → All (First xs) ys → All (First (x ∷ xs)) ys
    later [] n h = tt
    later (y ∷ ys) n h =
        let e = neither (eqb x.key y.key) (has x.key (item_keys ys)) n in
        let z : eqb y.key x.key ≡ false = ne_eqb y.key x.key (λ q. eqb-false x.key y.key e.0 (sym q)) in
        (rw z h.0, later ys e.1 h.1)

-- ---- what the writer may be given

-- a number has 64 bits at most
unfoldable pub narrow : Rule → Bool
narrow (AtMost m) = leb m max64
narrow Array = true
narrow String = true
narrow Anything = true

pub record Ready (x : Item) : Type 0 where
  pub low : x.key < 128
  pub thin : narrow x.rule ≡ true
  pub whole : sound x.held ≡ true
  pub fit : suits x.rule x.held ≡ true

-- a table of keys: distinct, few, below 128, with narrow rules. It computes, whatever the items hold
unfoldable pub tabled : List Item → Bool
tabled xs = distinct (item_keys xs) && (ltb (length xs) 65536 && all (λ (x : Item). ltb x.key 128 && narrow x.rule) xs)

pub ready : (xs : List Item) → all (λ (x : Item). ltb x.key 128 && narrow x.rule) xs ≡ true → all (λ (x : Item). sound x.held) xs ≡ true
    → all (λ (x : Item). suits x.rule x.held) xs ≡ true → All Ready xs
ready [] a b c = tt
ready (x ∷ xs) a b c =
    let p = both (ltb x.key 128 && narrow x.rule) _ a in
    let l = both (ltb x.key 128) (narrow x.rule) p.0 in
    let q = both (sound x.held) _ b in
    let r = both (suits x.rule x.held) _ c in
    (record { low = ltb-true _ _ l.0; thin = l.1; whole = q.0; fit = r.0 }, ready xs p.1 q.1 r.1)

within64 : (m n : ℕ) → narrow (AtMost m) ≡ true → suits (AtMost m) (number n) ≡ true → n < 2 ^ 64
unfolding narrow suits
within64 m n h k = omega (arith, leb-true m max64 h, leb-true n m k)

is-whole : (r : Read) (n : ℕ) → is_whole r n ≡ true → r ≡ Ok n
unfolding is_whole
is-whole (Ok k) n h = ap Ok (eqb-true k n h)
is-whole (Err p) n h = never h

-- what is written of an item is one whole value
held_whole : (t : Rule) (h : Held) (v : Bytes) → narrow t ≡ true → sound h ≡ true → suits t h ≡ true → encoded h ≡ some v → value held_depth v ≡ Ok (length v)
unfolding sound suits encoded
held_whole t absent v n w s e = absurd (let z : ◌≡◌ {A = ℕ} 0 1 = cc in omega arith)
held_whole t outside v n w s e = never w
held_whole (AtMost m) (number k) v n w s e = let q : unsigned_form k ≡ v = cc in rw q at (form_whole held_depth k (within64 m k n s))
held_whole Array (number k) v n w s e = never s
held_whole String (number k) v n w s e = never s
held_whole Anything (number k) v n w s e = never s
held_whole t (bytes u) v n w s e = let q : u ≡ v = cc in rw q at (is-whole (value held_depth u) (length u) w)

pub pairs_fine : (xs : List Item) → All Ready xs → All (Fine held_depth) (pairs xs)
unfolding pairs onto
pairs_fine [] h = tt
pairs_fine (x ∷ xs) h = go (encoded x.held) refl (pairs_fine xs h.1)
  where
    go : (o : Option Bytes) → encoded x.held ≡ o → All (Fine held_depth) (pairs xs) → All (Fine held_depth) (onto x.key o (pairs xs))
    go none e i = i
    go (some v) e i = (record { low = h.0.low; single = held_whole x.rule x.held v h.0.thin h.0.whole h.0.fit e }, i)

-- ---- what is read of it

-- what a record shows of a place
unfoldable pub again : Rule → Bytes → Place → Held
again (AtMost m) s p = number_held (optional (number_in s p))
again Array s p = place_held s p
again String s p = place_held s p
again Anything s p = place_held s p

-- where the encoding of what a key held stands, the reader finds it and the record shows it
pub record Back (t : Rule) (s : Bytes) (p : Place) (h : Held) : Type 0 where
  pub reads : held_at t s p ≡ h
  pub shows : again t s p ≡ h

pub number-back : (n : ℕ) (s : Bytes) (p : Place) → n < 2 ^ 64 → Holds s p (unsigned_form n) → number_in s p ≡ some n
unfolding number_in
number-back n s p l a = rw (a.same, unsigned_form_lem n l, a.present)

module _ (s : Bytes) (p : Place) where
  -- of all rules but numbers
  no_view : p.present ≡ false → (h : Held) → (pick p.present h absent ≡ absent) × (place_held s p ≡ absent)
  unfolding place_held
  no_view e h = (rw e, rw e)

  a-view : (v : Bytes) → Holds s p v → (pick p.present (bytes (view s p)) absent ≡ bytes v) × (place_held s p ≡ bytes v)
  unfolding place_held
  a-view v a = (rw (a.same, a.present), rw (le-leb _ _ a.inside, a.same, a.present))

  back_none : (t : Rule) → p.present ≡ false → Back t s p absent
  unfolding held_at value_held again number_held number_in optional
  back_none (AtMost m) e = record { reads = rw e; shows = rw e }
  back_none Array e = let b = no_view e (bytes (view s p)) in record { reads = b.0; shows = b.1 }
  back_none String e = let b = no_view e (bytes (view s p)) in record { reads = b.0; shows = b.1 }
  back_none Anything e = let b = no_view e (bytes (view s p)) in record { reads = b.0; shows = b.1 }

  back-number : (m n : ℕ) → n < 2 ^ 64 → Holds s p (unsigned_form n) → Back (AtMost m) s p (number n)
  unfolding held_at value_held number_or_bytes again number_held optional
  back-number m n l a = record { reads = rw (a.same, unsigned_form_lem n l, a.present); shows = rw (number-back n s p l a) }

  back-bytes : (t : Rule) (v : Bytes) → suits t (bytes v) ≡ true → Holds s p v → Back t s p (bytes v)
  unfolding suits held_at value_held again
  back-bytes (AtMost m) v k a = never k
  back-bytes Array v k a = let b = a-view v a in record { reads = b.0; shows = b.1 }
  back-bytes String v k a = let b = a-view v a in record { reads = b.0; shows = b.1 }
  back-bytes Anything v k a = let b = a-view v a in record { reads = b.0; shows = b.1 }

back : (t : Rule) (s : Bytes) (p : Place) (h : Held) → narrow t ≡ true → suits t h ≡ true → Stands s p (encoded h) → Back t s p h
unfolding encoded suits
back t s p absent n k a = back_none s p t a
back t s p outside n k a = never k
back (AtMost m) s p (number x) n k a = back-number s p m x (within64 m x n k) a
back Array s p (number x) n k a = never k
back String s p (number x) n k a = never k
back Anything s p (number x) n k a = never k
back t s p (bytes v) n k a = back-bytes s p t v k a

-- ---- all items

abbrev pub Backs : Bytes → (ℕ → Place) → List Item → Type 0
Backs s f xs = All (λ (x : Item). Back x.rule s (f x.key) x.held) xs

-- where each key's encoding stands, each item is read back
pub backs : (s : Bytes) (f : ℕ → Place) (xs : List Item) → distinct (item_keys xs) ≡ true → All Ready xs → ((k : ℕ) → Stands s (f k) (seek (pairs xs) k)) → Backs s f xs
backs s f xs d r st = go xs (firsts xs d) r
  where
    go : (ys : List Item) → All (First xs) ys → All Ready ys → Backs s f ys
    go [] e r = tt
    go (y ∷ ys) e r = (
      back y.rule s (f y.key) y.held r.0.thin r.0.fit
          (subst (λ (o : Option Bytes). Stands s (f y.key) o) (seek-pairs xs y.key d ∙ ap encoded e.0) (st y.key)),
      go ys e.1 r.1,
    )

-- the items as a new record shows them
unfoldable pub reread : Bytes → (ℕ → Place) → List Item → List Item
reread s f [] = []
reread s f (x ∷ xs) = item x.key x.rule (again x.rule s (f x.key)) ∷ reread s f xs

pub reread-back : (s : Bytes) (f : ℕ → Place) (xs : List Item) → Backs s f xs → reread s f xs ≡ xs
unfolding reread
reread-back s f [] h = refl
reread-back s f (x ∷ xs) h = ap₂ (λ (a : Held) (l : List Item). item x.key x.rule a ∷ l) h.0.shows (reread-back s f xs h.1)

-- 9 does not come
abbrev pub suited_items : List Item → Bytes → (ℕ → Place) → Bool
suited_items xs s f = all (λ (x : Item). suits x.rule (held_at x.rule s (f x.key))) xs

pub suited-back : (s : Bytes) (f : ℕ → Place) (xs : List Item) → Backs s f xs → All Ready xs → suited_items xs s f ≡ true
suited-back s f [] h r = refl
suited-back s f (x ∷ xs) h r = rw (h.0.reads, r.0.fit) (suited-back s f xs h.1 r.1)

-- nor 10
pub present_stands : (s : Bytes) (p : Place) (o : Option Bytes) → Stands s p o → p.present ≡ is_some o
unfolding is_some
present_stands s p none a = a
present_stands s p (some v) a = a.present
