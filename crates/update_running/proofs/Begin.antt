-- A tuple that is loaded is held, and a run begins. Assumes nothing.
use Rattle.std.specs.Prelude.{Err}
use mathlib.Core.Path.{◌≡◌, refl, sym, ap, ◌∙◌, subst}
use mathlib.Core.Bool.{true}
use mathlib.Core.List.{List, [], ◌∷◌, ◌++◌, map, append-nil, append_assoc}
use mathlib.Core.Option.{Option, none, some}
use Prim.Native.Nat.{ℕ, suc, ◌+◌, ◌-◌, ◌<◌, ◌≤◌}
use native.Mathlib.Omega.{arith}
use borrow.Author.Tests.{le-leb, lt-leb}
use lib.ListN.{length, take, drop, length-append, length-drop}
use lib.Seq.{length-take-le, take_at, drop_at}
use Rattle.msgpack_first_bytes.specs.Bytes.{Bytes}
use Rattle.msgpack_values.specs.Pieces.{joined}
use Rattle.tuples.specs.Limits.{max_fields, max_tuple, max_operations, max_list}
use Rattle.tuples.specs.Tuple.{Fields, plain, fields_of}
use Rattle.tuples.specs.Edit.{fits}
use Rattle.tuples.specs.declared.Refusal.TheVariants.{BadTuple, BadList}
use Rattle.tuples.proofs.Legal.{Fits}
use Rattle.tuples.proofs.Tuple.{fields-legal}
use Rattle.update_places.specs.Place.{in_list, place_of, length_of, fields_in, places_at}
use Rattle.update_places.proofs.Places.{place-small}
use Rattle.update_places.proofs.Chains.{chain-take, chain-places_at, lengths-places_at, fields-places_at}
use Rattle.update_table.specs.Table.{window}
use Rattle.update_loading.specs.Loading.{entries, tabled}
use Rattle.update_loading.proofs.Judged.{LoadedIs}
use Rattle.update_running.specs.declared.Stage.{Stage}
use Rattle.update_running.specs.Carrying.{Ran, comes_to, rest_of, work_room, Begun, Carries}
use Rattle.update_running.specs.Held.{fields_now, undo_in, in_word, Held}
use Rattle.update_running.specs.declared.Unfinished.TheVariants.{Refused}

-- ---- refusals

module _ (t l w : Bytes) (table back : List ℕ) (base n first start : ℕ) where
  pub bad_tuple : fields_of t ≡ none → Carries (Err (Refused BadTuple 0)) (fields_of t) t l w table back base n first start
  unfolding comes_to
  bad_tuple e = (rw e, omega arith)

  bad_list : {fs : Fields} → fields_of t ≡ some fs → rest_of base n first start l ≡ none → Carries (Err (Refused BadList 0)) (fields_of t) t l w table back base n first start
  unfolding comes_to
  bad_list e f = (rw (e, f), omega arith)

  pub many_listed : {fs : Fields} → fields_of t ≡ some fs → max_operations < n → Carries (Err (Refused BadList 0)) (fields_of t) t l w table back base n first start
  many_listed e h = bad_list e (unfold rest_of in rw (lt-leb n max_operations h))

  pub long-list : {fs : Fields} → fields_of t ≡ some fs → n ≤ max_operations → max_list < length l → Carries (Err (Refused BadList 0)) (fields_of t) t l w table back base n first start
  long-list e h k = bad_list e (unfold rest_of in rw (le-leb n max_operations h, lt-leb (length l) max_list k))

-- ---- the places of the fields

words : (a : ℕ) (fs : Fields) → map in_word (places_at a fs) ≡ places_at a fs
unfolding places_at in_word
words a [] = refl
words a (x ∷ fs) =
    let h = place-small a (length x) in
    let e : in_word (place_of a (length x)) ≡ place_of a (length x) = omega arith in
    rw (e, words (a + length x) fs)

length-places : (a : ℕ) (fs : Fields) → length (places_at a fs) ≡ length fs
unfolding places_at
length-places a [] = refl
length-places a (x ∷ fs) = ap suc (length-places (a + length x) fs)

fits_so : {fs : Fields} → Fits fs → fits fs ≡ true
unfolding fits
fits_so {fs} h = rw (le-leb (length fs) max_fields h.few, le-leb (length (plain fs)) max_tuple h.short)

abbrev pub middle : ℕ → List ℕ → List ℕ
middle left table = take (length table - left - left) (drop left table)

abbrev pub begun_at : ℕ → ℕ → ℕ → Bytes → Stage
begun_at left k e t = record { head = left; fields = k; bytes = length t - e; used = 0; laid = 0; back = 0; low = k; tail = k }

module _ (t l w : Bytes) (table back : List ℕ) (left k e room : ℕ) (L : LoadedIs room t (fields_of t) k e (entries room t)) where
  -- the table with the places in its middle, as lending a (middle left table) of it leaves it
  module _ (table' : List ℕ) (h : left + left ≤ length table) (r : room ≡ length (middle left table))
      (q : table' ≡ take left table ++ (tabled (entries room t) (middle left table) ++ drop (length table - left - left) (drop left table))) where
    part_length : length (middle left table) ≡ length table - left - left
    part_length = length-take-le (length table - left - left) (drop left table) (simp length-drop (omega arith))

    pub window-loaded : window left k table' ≡ places_at e L.fields
    unfolding window tabled
    window-loaded =
        let a : length (take left table) ≡ left = length-take-le left table (omega arith) in
        let ps = entries room t in
        let p = L.places in
        let c : length ps ≡ k = ap length p ∙ length-places e L.fields ∙ L.number in
        let rest = drop (length table - left - left) (drop left table) in
        ap (λ (x : List ℕ). take k (drop left x)) q ∙ ap (take k) (drop_at (take left table) _ left a)
        ∙ ap (take k) (append_assoc ps (drop (length ps) (middle left table)) rest) ∙ take_at ps (drop (length ps) (middle left table) ++ rest) k c ∙ p

    table-length : length table' ≡ length table
    unfolding tabled
    table-length =
        let a : length (take left table) ≡ left = length-take-le left table (omega arith) in
        let ps = entries room t in
        let c : length ps ≡ k = ap length L.places ∙ length-places e L.fields ∙ L.number in
        let b = part_length in
        let d = L.enough in
        ap length q ∙ simp (length-append, length-drop, length-drop, a) (omega arith)

    short : (length (joined L.fields) < 32768) × (e + length (joined L.fields) < in_list)
    short = let a = L.ends in let b = L.fits in (omega arith, omega arith)

    pub fields-loaded : fields_now t l w table' (begun_at left k e t) ≡ L.fields
    fields-loaded =
        let s = short in
        ap (fields_in t l (take 0 w)) window-loaded ∙ fields-places_at t l (take 0 w) e L.fields [] s.0 s.1 (L.bytes ∙ sym (append-nil (joined L.fields)))

    held-loaded : left ≤ max_operations → Held t l w table' back left (begun_at left k e t) []
    unfolding undo_in joined
    held-loaded m =
        let s = short in
        let c = chain-places_at e L.fields s.0 (omega arith) in
        let z : k - k ≡ 0 = omega arith in
        let b = part_length in
        let d = L.enough in
        let j = L.ends in
        let o = table-length in
        record {
          whole = ap (λ (x : Fields). map length x) fields-loaded ∙ sym (lengths-places_at e L.fields s.0 (omega arith)) ∙ ap (λ (x : List ℕ). map length_of x) (sym window-loaded);
          small = ap (λ (x : List ℕ). map in_word x) window-loaded ∙ words e L.fields ∙ sym window-loaded;
          bytes = ap (λ (x : ℕ). x) (let y : length t - e ≡ length (joined L.fields) = omega arith in y) ∙ ap (λ (x : Fields). length (joined x)) (sym fields-loaded);
          fit = ap fits fields-loaded ∙ fits_so (fields-legal t L.fields L.are).fit;
          used = omega arith;
          below = omega arith;
          above = omega arith;
          low = omega arith;
          tail = omega arith;
          front_at = e;
          front = rw window-loaded (chain-take e (places_at e L.fields) c k);
          rear_at = e;
          rear = rw (z, window-loaded) c;
          laid = refl;
          back_bytes = refl;
          olds = λ _. refl;
          olds_whole = λ _. refl;
          log = omega arith;
          few_laid = omega arith;
          short_back = omega arith;
        }

    pub begins : {n first : ℕ} → left ≡ n - first → n ≤ max_operations → length l ≤ max_list → length w ≤ work_room → Begun t l w table' back n first (begun_at left k e t)
    begins p few long room' =
        record {
          held = subst (λ (x : ℕ). Held t l w table' back x (begun_at left k e t) []) p (held-loaded (omega arith));
          sources = record { tuple = let a = L.fits in omega arith; list = omega arith };
          few = few;
          short = long;
          work = room';
          legal = rw fields-loaded (fields-legal t L.fields L.are).whole;
          used = refl;
        }

    -- what holds of a run on the fields that are held holds of the tuple
    pub carries : (r' : Ran) (v : Bytes) (table'' back' : List ℕ) (base n first start : ℕ) → Carries r' (some (fields_now t l w table' (begun_at left k e t))) t l v table'' back' base n first start
        → Carries r' (fields_of t) t l v table'' back' base n first start
    carries r' v table'' back' base n first start c =
        subst (λ (T : Option Fields). Carries r' T t l v table'' back' base n first start) (ap some fields-loaded ∙ sym L.are) c
