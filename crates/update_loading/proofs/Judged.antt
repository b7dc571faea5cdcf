-- A tuple judged by the tests on the way; what that says of its fields. Assumes nothing.
use Rattle.std.specs.Prelude.{Some, None, Ok, Err, Option as CodeOption}
use Rattle.std.proofs.lemmas.Option.{some_pair_parts}
use mathlib.Core.Path.{◌≡◌, refl, sym, ap, ◌∙◌, subst}
use mathlib.Core.Bool.{Bool, true, false}
use mathlib.Core.List.{List, []}
use mathlib.Core.Option.{Option, none, some}
use Prim.Native.Nat.{ℕ, ◌+◌, ◌-◌, ◌<◌, ◌≤◌}
use native.Mathlib.Omega.{arith}
use borrow.Author.Tests.{leb-true, leb-false, le-leb, lt-leb, eqb-true, eq-eqb, ne_eqb}
use lib.Dec.{leb, eqb}
use lib.ListN.{length, take, drop, length-drop, length-append}
use lib.Seq.{take_all, take-append_seam}
use Rattle.msgpack_first_bytes.specs.Bytes.{Bytes, pick}
use Rattle.msgpack_first_bytes.proofs.Logic.{impossible}
use Rattle.msgpack_values.specs.Value.{shift, value, items, Read}
use Rattle.msgpack_values.specs.Pieces.{pieces, joined}
use Rattle.msgpack_values.proofs.Pieces.{pieces-joined}
use Rattle.msgpack_scalars.specs.Start.{array_by}
use Rattle.msgpack_scalars.specs.Header.{header, Header}
use Rattle.tuples.specs.Limits.{max_fields, max_tuple, field_depth}
use Rattle.tuples.specs.Tuple.{Fields, filling, fields_filling, fields_by, fields_of}
use Rattle.tuples.specs.Decoding.{count_from, count}
use Rattle.tuples.proofs.Tuple.{array-short}
use Rattle.update_parts.specs.Part.{natural_by}
use Rattle.update_places.specs.Place.{places_at}
use Rattle.update_loading.specs.Loading.{count_by, loaded_by, loaded, entries_by, entries, tabled, Loaded}
use Rattle.update_loading.proofs.Measures.{whole-at}
use Rattle.update_loading.specs.declared.Unloaded.TheVariants.{Bad, NoRoom}

-- ---- n values from a place on, by what the reader says of them

abbrev values : ℕ → Bytes → Read
values = items (value field_depth)

module _ (n at : ℕ) (t : Bytes) where
  broken : {p : ℕ} → Err p ≡ shift at (values n (drop at t)) → Err Bad ≡ count_by at (fields_filling n (drop at t))
  unfolding fields_filling filling
  broken {p} q = go (values n (drop at t)) q
    where
      go : (r : Read) → Err p ≡ shift at r → Err Bad ≡ count_by at (filling r (length (drop at t)) (pieces (value field_depth) n (drop at t)))
      go (Ok k) q = impossible cc
      go (Err k) q = refl

  module _ {end : ℕ} (h : at ≤ length t) (q : Ok end ≡ shift at (values n (drop at t))) where
    short : (end ≡ length t → ⊥) → Err Bad ≡ count_by at (fields_filling n (drop at t))
    unfolding fields_filling filling
    short f =
        let (x, w) = whole-at at end (values n (drop at t)) q in
        rw (w, ne_eqb (end - at) (length (drop at t)) (λ e. f (let r = length-drop at t in omega arith)))

    filled : end ≡ length t → Ok (n, at) ≡ count_by at (fields_filling n (drop at t))
    unfolding fields_filling filling
    filled f =
        let (x, w) = whole-at at end (values n (drop at t)) q in
        let r = length-drop at t in
        let g = (pieces-joined (value field_depth) n (drop at t) (end - at) w).0 in
        rw (w, eq-eqb (end - at) (length (drop at t)) (omega arith), g)

-- ---- each way back

abbrev Answers : Bytes → Loaded → List ℕ → List ℕ → Type 0
Answers t r l' l = (r ≡ loaded (length l) t) × (l' ≡ tabled (entries (length l) t) l)

module _ (t : Bytes) (l : List ℕ) where
  pub long-tuple : max_tuple < length t → Answers t (Err Bad) l l
  unfolding loaded entries tabled
  long-tuple h = rw (lt-leb (length t) max_tuple h) (refl, refl)

  module _ (h : length t ≤ max_tuple) {x : CodeOption (ℕ × ℕ)} (q : x ≡ natural_by t (count t)) where
    pub no_array : x ≡ None → Answers t (Err Bad) l l
    unfolding loaded loaded_by entries entries_by tabled count count_from
    no_array e = rw (le-leb (length t) max_tuple h) (go (header array_by t) (sym e ∙ q))
      where
        go : (r : Header) → None ≡ natural_by t (count_from r t) → (Err Bad ≡ loaded_by (length l) r t) × (l ≡ tabled (entries_by (length l) r t) l)
        go (Some (n, e)) q = impossible cc
        go None q = (refl, refl)

    module _ {n at : ℕ} (i : x ≡ Some (n, at)) where
      pub many_fields : max_fields < n → Answers t (Err Bad) l l
      unfolding loaded loaded_by entries entries_by tabled count count_from
      many_fields k = rw (le-leb (length t) max_tuple h) (go (header array_by t) (sym i ∙ q))
        where
          go : (r : Header) → Some (n, at) ≡ natural_by t (count_from r t) → (Err Bad ≡ loaded_by (length l) r t) × (l ≡ tabled (entries_by (length l) r t) l)
          go (Some (m, e)) q = let j = (some_pair_parts _ _ _ _ q).0 in rw (← j, lt-leb n max_fields k) (refl, refl)
          go None q = impossible cc

      module _ (k : n ≤ max_fields) where
        -- the header ends where its reader says
        array-is : (header array_by t ≡ Some (n, at)) × (at ≤ length t)
        unfolding count count_from
        array-is = go (header array_by t) refl (sym i ∙ q)
          where
            go : (r : Header) → header array_by t ≡ r → Some (n, at) ≡ natural_by t (count_from r t) → (header array_by t ≡ Some (n, at)) × (at ≤ length t)
            go (Some (m, e)) p q =
                let (j, o) = some_pair_parts _ _ _ _ q in
                let f = (array-short t m e (omega arith) p).1 in
                let d = length-drop e t in
                let u : e ≡ at = omega arith in
                (p ∙ rw (j, u), omega arith)
            go None p q = impossible cc

        pub no_room : length l < n → Answers t (Err NoRoom) l l
        unfolding loaded loaded_by entries entries_by tabled
        no_room o = rw (le-leb (length t) max_tuple h, array-is.0, le-leb n max_fields k, lt-leb n (length l) o) (refl, refl)

        module _ (o : n ≤ length l) {l' : List ℕ} (m : l' ≡ tabled (places_at at (pieces (value field_depth) n (drop at t))) l) where
          as_values : {r : Loaded} → r ≡ count_by at (fields_filling n (drop at t)) → Answers t r l' l
          unfolding loaded loaded_by entries entries_by
          as_values e = rw (le-leb (length t) max_tuple h, array-is.0, le-leb n max_fields k, le-leb n (length l) o) (e, m)

          pub loaded-broken : {p : ℕ} → Err p ≡ shift at (values n (drop at t)) → Answers t (Err Bad) l' l
          loaded-broken e = as_values (broken n at t e)

          pub loaded-short : {end : ℕ} → Ok end ≡ shift at (values n (drop at t)) → (end ≡ length t → ⊥) → Answers t (Err Bad) l' l
          loaded-short e f = as_values (short n at t array-is.1 e f)

          pub loaded-all : {end : ℕ} → Ok end ≡ shift at (values n (drop at t)) → end ≡ length t → Answers t (Ok (n, at)) l' l
          loaded-all e f = as_values (filled n at t array-is.1 e f)

-- ---- for callers

-- n fields, the first of them at e, where the tuple's fields are o and the places es were found
pub record LoadedIs (room : ℕ) (t : Bytes) (o : Option Fields) (n e : ℕ) (es : List ℕ) : Type 0 where
  pub fields : Fields
  pub are : o ≡ some fields
  pub number : length fields ≡ n
  pub places : es ≡ places_at e fields
  pub enough : n ≤ room
  pub few : n ≤ max_fields
  pub ends : e + length (joined fields) ≡ length t
  pub bytes : drop e t ≡ joined fields
  pub fits : length t ≤ max_tuple

abbrev Says : ℕ → Bytes → Option Fields → Loaded → List ℕ → Type 0
Says room t o (Err Bad) es = o ≡ none
Says room t o (Err NoRoom) es = room < max_fields
Says room t o (Ok (n, e)) es = LoadedIs room t o n e es

says : (room : ℕ) (t : Bytes) → Says room t (fields_of t) (loaded room t) (entries room t)
unfolding loaded loaded_by entries entries_by fields_of fields_by fields_filling filling
says room t = by_length (leb (length t) max_tuple) refl (header array_by t) refl
  where
    by_values : length t ≤ max_tuple → (n e : ℕ) → header array_by t ≡ Some (n, e) → n ≤ max_fields → n ≤ room → (r : Read) → values n (drop e t) ≡ r
        → Says room t (filling r (length (drop e t)) (pieces (value field_depth) n (drop e t)))
        (count_by e (filling r (length (drop e t)) (pieces (value field_depth) n (drop e t)))) (places_at e (pieces (value field_depth) n (drop e t)))
    by_values h n e q k o (Err p) v = refl
    by_values h n e q k o (Ok j) v = by_fill (eqb j (length (drop e t))) refl
      where
        by_fill : (b : Bool) → eqb j (length (drop e t)) ≡ b → (let fs = pieces (value field_depth) n (drop e t) in Says room t (pick b (some fs) none) (count_by e (pick b (some fs) none)) (places_at e fs))
        by_fill false w = refl
        by_fill true w =
            let (c, g) = pieces-joined (value field_depth) n (drop e t) j v in
            let d = g ∙ take_all j (drop e t) (omega (arith, eqb-true j (length (drop e t)) w)) in
            let i = (array-short t n e (omega arith) q).1 in
            let m = ap length d ∙ length-drop e t in
            record {
              fields = pieces (value field_depth) n (drop e t);
              are = refl;
              number = refl;
              places = refl;
              enough = omega arith;
              few = omega arith;
              ends = omega arith;
              bytes = sym d;
              fits = h;
            }

    by_room : length t ≤ max_tuple → (n e : ℕ) → header array_by t ≡ Some (n, e) → (b c : Bool) → leb n max_fields ≡ b → leb n room ≡ c
        → Says room t (pick b (fields_filling n (drop e t)) none) (pick b (pick c (count_by e (fields_filling n (drop e t))) (Err NoRoom)) (Err Bad))
        (pick b (pick c (places_at e (pieces (value field_depth) n (drop e t))) []) [])
    by_room h n e q false c x y = refl
    by_room h n e q true false x y = omega (arith, leb-true n max_fields x, leb-false n room y)
    by_room h n e q true true x y = by_values h n e q (leb-true _ _ x) (leb-true _ _ y) (values n (drop e t)) refl

    by_length : (b : Bool) → leb (length t) max_tuple ≡ b → (g : Header) → header array_by t ≡ g
        → Says room t (pick b (fields_by g t) none) (pick b (loaded_by room g t) (Err Bad)) (pick b (entries_by room g t) [])
    by_length false x g q = refl
    by_length true x None q = refl
    by_length true x (Some (n, e)) q = by_room (leb-true _ _ x) n e q (leb n max_fields) (leb n room) refl refl

module _ (room : ℕ) (t : Bytes) where
  told : {r : Loaded} → loaded room t ≡ r → Says room t (fields_of t) r (entries room t)
  told q = subst (λ (x : Loaded). Says room t (fields_of t) x (entries room t)) q (says room t)

  pub loaded_bad : loaded room t ≡ Err Bad → fields_of t ≡ none
  loaded_bad q = told q

  pub loaded-is : {n e : ℕ} → loaded room t ≡ Ok (n, e) → LoadedIs room t (fields_of t) n e (entries room t)
  loaded-is q = told q

  pub loaded_noroom : loaded room t ≡ Err NoRoom → room < max_fields
  loaded_noroom q = told q

-- the table keeps its length, and begins with the places
pub tabled-length : (ps table : List ℕ) → length ps ≤ length table → length (tabled ps table) ≡ length table
unfolding tabled
tabled-length ps table h = simp (length-append, length-drop) (omega arith)

pub tabled-front : (ps table : List ℕ) → take (length ps) (tabled ps table) ≡ ps
unfolding tabled
tabled-front ps table = take-append_seam ps (drop (length ps) table)
