-- A plan that is performed is the definition's step, and what is held goes on. Assumes nothing.
use Rattle.std.specs.Prelude.{Ok, Err}
use mathlib.Core.Path.{◌≡◌, refl, sym, ap, ◌∙◌}
use mathlib.Core.Bool.{Bool, true, false}
use mathlib.Core.List.{List, [], ◌∷◌, ◌++◌, map}
use Prim.Native.Nat.{ℕ, suc, ◌+◌, ◌-◌, ◌*◌, ◌^◌, ◌<◌, ◌≤◌}
use native.Mathlib.Omega.{arith}
use native.Mathlib.Numerals.{add-one}
use borrow.Author.Tests.{leb-true, le-leb}
use lib.Dec.{leb}
use lib.ListN.{length, take, drop, get_or, set, length-set, length-append, get_or-map, length-drop}
use lib.Seq.{take-suc-set, take-take, drop-drop, drop-cons, length-take-le}
use Rattle.msgpack_first_bytes.specs.Bytes.{Bytes, pick}
use Rattle.msgpack_values.specs.Pieces.{joined}
use Rattle.msgpack_writing.specs.Forms.{unsigned_form, array_header}
use Rattle.msgpack_writing.proofs.Lengths.{unsigned-long, array_mono}
use Rattle.tuples.specs.Limits.{max_fields, max_tuple}
use Rattle.tuples.specs.Tuple.{Fields}
use Rattle.tuples.specs.Edit.{Edit, spliced, fits, limited, stop, next, perform, operation_bytes, restored, inverse}
use Rattle.tuples.specs.declared.Refusal.{TheVariants.TooLarge}
use Rattle.tuples.proofs.Cases.{both_hold}
use Rattle.tuples.proofs.Legal.{plain-length}
use Rattle.update_places.specs.Place.{length_of, bytes_at, fields_in, sum}
use Rattle.update_places.proofs.Places.{map-take, map-drop}
use Rattle.update_places.proofs.Kept.{drop-take, kept-one-more, kept_more}
use Rattle.update_table.specs.Table.{window, added, head_added, removed}
use Rattle.update_table.proofs.Windows.{length-window, window-set, get_d_window, length-added, head-added, window-added, length_removed, head-removed, window-removed}
use Rattle.update_table.proofs.Edits.{Opens, Closes, is_open, is_closed}
use Rattle.update_planning.specs.Plan.{Planned}
use Rattle.update_planning.proofs.Plans.{Puts, Adds, Cuts, Planning}
use Rattle.update_running.specs.declared.Stage.{Stage}
use Rattle.update_running.specs.Steps.{Performed, entry_of, laid_from, fitting, head_length, gone_place, bytes_put, put_stage, add_stage, gone_places, gone_bytes, cut_stage, performed, table_after, back_after}
use Rattle.update_running.specs.Held.{places_now, fields_now, undo_in, in_word, Held}
use Rattle.update_running.proofs.Sums.{length-map, length-spliced}
use Rattle.update_running.proofs.Holding.{edited_bytes, Edits, fields-next, held_next}
use Rattle.update_running.proofs.Undoing.{entry_place_lem, entry-is, entry_removes, place-nothing, operation-length, in_word_lem, length-laid, take-laid, restoring, restoring_whole, restoring_bytes, restored-length}
use Rattle.update_altering.specs.declared.Obstacle.TheVariants.{Full, Refused}
use Rattle.update_planning.specs.declared.TableEdit.TheVariants.{Add, Cut, Put}

-- ---- 16, by numbers

pub fits_by : (gs : Fields) {n b : ℕ} → length gs ≡ n → length (joined gs) ≡ b → fits gs ≡ fitting n b
unfolding fits fitting
fits_by gs e f = rw (plain-length gs, e, f)

pub fitting_holds : (n b : ℕ) → fitting n b ≡ true → (n ≤ max_fields) × (length (array_header n) + b ≤ max_tuple)
unfolding fitting
fitting_holds n b e = let (p, q) = both_hold (leb n max_fields) (leb (length (array_header n) + b) max_tuple) e in (leb-true _ _ p, leb-true _ _ q)

fitting-less : (n m b c : ℕ) → n ≤ m → b ≤ c → fitting m c ≡ true → fitting n b ≡ true
unfolding fitting
fitting-less n m b c h k e =
    let (p, q) = fitting_holds m c e in
    let a = array_mono n m h in
    rw (le-leb n max_fields (omega arith), le-leb (length (array_header n) + b) max_tuple (omega arith))

pub next_fits : (gs : Fields) → fits gs ≡ true → limited gs ≡ next gs
unfolding limited
next_fits gs e = rw e

stop-fits : (gs : Fields) → fits gs ≡ false → limited gs ≡ stop TooLarge
unfolding limited
stop-fits gs e = rw e

fields-count : (t l w : Bytes) (ps : List ℕ) → length (fields_in t l w ps) ≡ length ps
unfolding fields_in
fields-count t l w ps = length-map (bytes_at t l w) ps

module _ {t l w : Bytes} {table back : List ℕ} {left : ℕ} {z : Stage} {us : List Bytes} (H : Held t l w table back left z us) where
  abbrev fs : Fields
  fs = fields_now t l w table z

  abbrev win : List ℕ
  win = places_now table z

  pub win-length : length win ≡ z.fields
  win-length = length-window table z.head z.fields (omega (arith, H.above))

  pub fields-length : length fs ≡ z.fields
  fields-length = fields-count t l (take z.used w) win ∙ win-length

  pub within : (z.fields ≤ max_fields) × (length (array_header z.fields) + z.bytes ≤ max_tuple)
  within = fitting_holds z.fields z.bytes (sym (fits_by fs fields-length (sym H.bytes)) ∙ H.fit)

  -- the entry of a field, and the field
  pub gone_place_lem : (f : ℕ) → gone_place f z table ≡ get_or win f 0 → length_of (gone_place f z table) ≡ length (get_or fs f [])
  unfolding length_of
  gone_place_lem f g =
      ap length_of g ∙ sym (get_or-map length_of win f 0) ∙ ap (λ (x : List ℕ). get_or x f 0) (sym H.whole) ∙ get_or-map length fs f []

  pub gone_small : (f : ℕ) → f < z.fields → gone_place f z table < 2 ^ 32
  unfolding in_word
  gone_small f h =
      let g = get_d_window table z.head z.fields f h in
      in_word_lem (gone_place f z table) (ap in_word (sym g) ∙ sym (get_or-map in_word win f 0) ∙ ap (λ (x : List ℕ). get_or x f 0) H.small ∙ g)

  pub gone_bytes_lem : (f : ℕ) → f < z.fields → bytes_at t l (take z.used w) (gone_place f z table) ≡ get_or fs f []
  unfolding fields_in
  gone_bytes_lem f h =
      ap (bytes_at t l (take z.used w)) (sym (get_d_window table z.head z.fields f h)) ∙ sym (get_or-map (bytes_at t l (take z.used w)) win f 0)
      ∙ ap (get_or (map (bytes_at t l (take z.used w)) win) f) (place-nothing t l (take z.used w))

-- what a plan does to the stage: refused, with the definition's step; or on, where what is held goes on
abbrev pub Performs : Bytes → Bytes → Bytes → List ℕ → List ℕ → ℕ → List Bytes → Fields → Edit → Performed → Type 0
Performs t l v table back left us gs ed (Err (Refused k)) = perform ed gs ≡ stop k
Performs t l v table back left us gs ed (Err Full) = Unit {0}
Performs t l v table back left us gs ed (Ok z) = (perform ed gs ≡ next (fields_now t l v table z)) × Held t l v table back left z (inverse ed gs ++ us)

pub one_field : (fs : Fields) (f : ℕ) → f < length fs → sum (map length (take 1 (drop f fs))) ≡ length (get_or fs f [])
unfolding sum
one_field fs f h = rw (drop-cons fs f [] h) (omega arith)

one_byte : length (unsigned_form 1) ≡ 1
unfolding unsigned_form
one_byte = refl

no_length : ◌≡◌ {A = ℕ} 0 (length_of 0)
unfolding length_of
no_length = refl

none-joined : length (joined []) ≡ 0
unfolding joined
none-joined = refl

pub one-joined : (b : Bytes) → length (joined (b ∷ [])) ≡ length b
unfolding joined
one-joined b = length-append b [] ∙ (omega arith)

module _ {t l w : Bytes} {table back : List ℕ} {left : ℕ} {z : Stage} {us : List Bytes} (H : Held t l w table back (suc left) z us) where
  abbrev gs : Fields
  gs = fields_now t l w table z

  module _ (v : Bytes) (ed : Edit) (P : take z.used v ≡ take z.used w) where
    -- `= f old`
    module _ (f q u : ℕ) (p : Puts t l v z.used gs f q u ed) where
      there : f < z.fields
      there = let e = fields-length H in omega (arith, p.among)

      gone_length : length_of (gone_place f z table) ≡ length (get_or gs f [])
      gone_length = gone_place_lem H f (sym (get_d_window table z.head z.fields f there))

      put-bytes : (length (joined (spliced f 1 (bytes_at t l (take u v) q ∷ []) gs)) ≡ bytes_put f q z table) × (length_of (gone_place f z table) ≤ z.bytes)
      put-bytes =
          let a = edited_bytes f 1 (bytes_at t l (take u v) q ∷ []) gs in
          let c = edited_bytes f 1 [] gs in
          let d = one_field gs f p.among in
          let e = one-joined (bytes_at t l (take u v) q) in
          let g = gone_length in
          let k = none-joined in
          (omega (arith, H.bytes, p.long), omega (arith, H.bytes))

      put_count : length (spliced f 1 (bytes_at t l (take u v) q ∷ []) gs) ≡ z.fields
      put_count = let e = fields-length H in let n = there in length-spliced f 1 (bytes_at t l (take u v) q ∷ []) gs (omega arith) ∙ (omega arith)

      put-fits : fits (spliced f 1 (bytes_at t l (take u v) q ∷ []) gs) ≡ fitting z.fields (bytes_put f q z table)
      put-fits = fits_by (spliced f 1 (bytes_at t l (take u v) q ∷ []) gs) put_count put-bytes.0

      put-stops : fitting z.fields (bytes_put f q z table) ≡ false → perform ed gs ≡ stop TooLarge
      unfolding perform
      put-stops e = rw p.edit (stop-fits (spliced f 1 (bytes_at t l (take u v) q ∷ []) gs) (put-fits ∙ e))

      put_edits : fitting z.fields (bytes_put f q z table) ≡ true
          → Edits t l w v table (set table (z.head + f) q) back (set back z.laid (entry_of 0x3d f (gone_place f z table))) left z (put_stage f q u z table)
          (operation_bytes 0x3d f (get_or gs f []) ∷ []) f 1 (q ∷ []) (entry_of 0x3d f (gone_place f z table) ∷ [])
      unfolding put_stage fields_in undo_in
      put_edits e =
          let n = there in
          let i = within H in
          let m : f < 2 ^ 16 = omega arith in
          let s = gone_small H f n in
          let o = put-bytes.0 in
          let g = put-bytes.1 in
          let L = (unsigned-long f).1 in
          let O = operation-length 0x3d f (get_or gs f []) in
          let J = one-joined (operation_bytes 0x3d f (get_or gs f [])) in
          let G = gone_length in
          let A = H.above in
          let C : take u v ≡ take u v = refl in
          let K : bytes_at t l (take u v) (gone_place f z table) ≡ get_or gs f [] = kept-one-more t l w v z.used u p.more P (gone_place f z table) (ap length (gone_bytes_lem H f n) ∙ sym G) ∙ gone_bytes_lem H f n in
          let N : (◌≡◌ {A = ℕ} 0x3d 0x23 → ⊥) = λ (x : ◌≡◌ {A = ℕ} 0x3d 0x23). (omega arith) in
          record {
            among = omega arith;
            places = window-set table z.head z.fields (omega arith) f q n;
            fields = omega arith;
            more = p.more;
            inside = p.within;
            kept = P;
            whole = ap (λ (x : ℕ). x ∷ []) p.long;
            small = ap (λ (x : ℕ). x ∷ []) (unfold in_word in let y = p.small in omega arith);
            low = omega arith;
            lowest = omega arith;
            tail = omega arith;
            least = omega arith;
            bytes = sym o;
            fit = put-fits ∙ e;
            below = let B = H.below in omega arith;
            above = let y = length-set table (z.head + f) q in omega arith;
            laid = refl;
            back_bytes = omega arith;
            entries = λ h. rw add-one (take-suc-set back z.laid (entry_of 0x3d f (gone_place f z table)) (omega arith));
            room = length-set back z.laid (entry_of 0x3d f (gone_place f z table));
            undoes = ap (λ (x : Bytes). x ∷ []) (entry-is 0x3d f (gone_place f z table) m s t l (take u v) N ∙ ap (operation_bytes 0x3d f) K);
            whole_entries = ap (λ (x : ℕ). x ∷ []) (rw (entry_place_lem 0x3d f (gone_place f z table) m s) (ap length K ∙ sym G));
            log = let a = H.log in let d = p.most in omega arith;
            few = omega arith;
            short = omega arith;
          }

    -- `# f 1`
    module _ (f q : ℕ) (p : Adds t l v z.used gs f q ed) where
      add-bytes : length (joined (spliced f 0 (bytes_at t l (take z.used v) q ∷ []) gs)) ≡ z.bytes + length_of q
      unfolding sum
      add-bytes =
          let a : length (joined (spliced f 0 (bytes_at t l (take z.used v) q ∷ []) gs)) + 0 ≡ length (joined gs) + length (joined (bytes_at t l (take z.used v) q ∷ []))
          = edited_bytes f 0 (bytes_at t l (take z.used v) q ∷ []) gs in
          let e = one-joined (bytes_at t l (take z.used v) q) in
          omega (arith, H.bytes, p.long)

      add-count : length (spliced f 0 (bytes_at t l (take z.used v) q ∷ []) gs) ≡ z.fields + 1
      add-count =
          let e = fields-length H in
          length-spliced f 0 (bytes_at t l (take z.used v) q ∷ []) gs (omega (arith, p.among)) ∙ (omega arith)

      add-fits : fits (spliced f 0 (bytes_at t l (take z.used v) q ∷ []) gs) ≡ fitting (z.fields + 1) (z.bytes + length_of q)
      add-fits = fits_by (spliced f 0 (bytes_at t l (take z.used v) q ∷ []) gs) add-count add-bytes

      add-stops : fitting (z.fields + 1) (z.bytes + length_of q) ≡ false → perform ed gs ≡ stop TooLarge
      unfolding perform
      add-stops e = rw p.edit (stop-fits (spliced f 0 (bytes_at t l (take z.used v) q ∷ []) gs) (add-fits ∙ e))

      add_edits : length v ≡ length w → fitting (z.fields + 1) (z.bytes + length_of q) ≡ true
          → Edits t l w v table (added z.head z.fields f q table) back (set back z.laid (entry_of 0x23 f 0)) left z (add_stage f q z table)
          (operation_bytes 0x23 f (unsigned_form 1) ∷ []) f 0 (q ∷ []) (entry_of 0x23 f 0 ∷ [])
      unfolding add_stage fields_in undo_in
      add_edits lv e =
          let i = within H in
          let c = fields-length H in
          let n : f ≤ z.fields = omega (arith, p.among) in
          let m : f < 2 ^ 16 = omega arith in
          let A = H.above in
          let B = H.below in
          let O : Opens (length table) z.head z.fields f = record { entry = n; below = omega arith; above = omega arith } in
          let o = is_open z.head z.fields f q table O in
          let D = head-added z.head z.fields f q table o in
          let L = (unsigned-long f).1 in
          let U : length (operation_bytes 0x23 f (unsigned_form 1)) ≡ head_length f + 1 = operation-length 0x23 f (unsigned_form 1) ∙ ap (λ (x : ℕ). head_length f + x) one_byte in
          let J = one-joined (operation_bytes 0x23 f (unsigned_form 1)) in
          let W : window (head_added (length table) z.head z.fields f) (z.fields + 1) (added z.head z.fields f q table) ≡ spliced f 0 (q ∷ []) (places_now table z)
          = rw add-one (window-added z.head z.fields f q table o) in
          record {
            among = omega arith;
            places = W;
            fields = omega arith;
            more = omega arith;
            inside = let y = H.used in omega arith;
            kept = P;
            whole = ap (λ (x : ℕ). x ∷ []) p.long;
            small = ap (λ (x : ℕ). x ∷ []) (unfold in_word in let y = p.small in omega arith);
            low = omega arith;
            lowest = omega arith;
            tail = omega arith;
            least = omega arith;
            bytes = sym add-bytes;
            fit = add-fits ∙ e;
            below = omega arith;
            above = let y = length-added z.head z.fields f q table in omega arith;
            laid = refl;
            back_bytes = omega arith;
            entries = λ h. rw add-one (take-suc-set back z.laid (entry_of 0x23 f 0) (omega arith));
            room = length-set back z.laid (entry_of 0x23 f 0);
            undoes = ap (λ (x : Bytes). x ∷ []) (entry_removes t l (take z.used v) f m);
            whole_entries = ap (λ (x : ℕ). x ∷ []) (rw (entry_place_lem 0x23 f 0 m (omega arith), place-nothing) (no_length));
            log = let a = H.log in omega arith;
            few = omega arith;
            short = omega arith;
          }

    -- m times `! f`
    module _ (f m : ℕ) (p : Cuts gs f m ed) where
      abbrev ps : List ℕ
      ps = take m (drop f (places_now table z))

      gone_window : gone_places f m z table ≡ take m (drop f (places_now table z))
      unfolding window
      gone_window =
          let c = fields-length H in
          let k : m ≤ z.fields - f = omega (arith, p.among) in
          sym (ap (take m) (drop-take f z.fields (drop z.head table)) ∙ take-take m (z.fields - f) (drop f (drop z.head table)) k
          ∙ ap (take m) (drop-drop f z.head table))

      gone_fields : fields_in t l (take z.used v) ps ≡ take m (drop f gs)
      unfolding fields_in
      gone_fields =
          map-take (bytes_at t l (take z.used v)) m (drop f (places_now table z)) ∙ ap (take m) (map-drop (bytes_at t l (take z.used v)) f (places_now table z))
          ∙ ap (λ (x : Fields). take m (drop f x)) (kept_more t l w v z.used z.used (omega arith) P (places_now table z) H.whole)

      gone_whole : map length (fields_in t l (take z.used v) ps) ≡ map length_of ps
      gone_whole =
          ap (λ (x : Fields). map length x) gone_fields ∙ map-take length m (drop f gs) ∙ ap (take m) (map-drop length f gs) ∙ ap (λ (x : List ℕ). take m (drop f x)) H.whole
          ∙ sym (map-take length_of m (drop f (places_now table z)) ∙ ap (take m) (map-drop length_of f (places_now table z)))

      gone_words : map in_word ps ≡ ps
      gone_words = map-take in_word m (drop f (places_now table z)) ∙ ap (take m) (map-drop in_word f (places_now table z)) ∙ ap (λ (x : List ℕ). take m (drop f x)) H.small

      cut-bytes : (length (joined (spliced f m [] gs)) ≡ z.bytes - gone_bytes f m z table) × (sum (map length_of ps) ≤ z.bytes)
      cut-bytes =
          let a = edited_bytes f m [] gs in
          let c = none-joined in
          let d : sum (map length (take m (drop f gs))) ≡ sum (map length_of ps) = ap (λ (x : Fields). sum (map length x)) (sym gone_fields) ∙ ap sum gone_whole in
          let e : gone_bytes f m z table ≡ sum (map length_of ps) = ap (λ (x : List ℕ). sum (map length_of x)) gone_window in
          (omega (arith, H.bytes), omega (arith, H.bytes))

      cut-count : length (spliced f m [] gs) ≡ z.fields - m
      cut-count = let e = fields-length H in length-spliced f m [] gs p.among ∙ (omega arith)

      cut_fits : fits (spliced f m [] gs) ≡ true
      cut_fits =
          let b = cut-bytes.0 in
          fits_by (spliced f m [] gs) cut-count b
          ∙ fitting-less (z.fields - m) z.fields (z.bytes - gone_bytes f m z table) z.bytes (omega arith) (omega arith) (sym (fits_by gs (fields-length H) (sym H.bytes)) ∙ H.fit)

      ps-length : length ps ≡ m
      ps-length =
          let c = win-length H in
          let d = fields-length H in
          length-take-le m (drop f (places_now table z)) (simp length-drop (omega (arith, p.among)))

      restored-is : restored f (fields_in t l (take z.used v) ps) ≡ restored f (take m (drop f gs))
      restored-is = ap (restored f) gone_fields

      -- each operation has a head of at most 12 bytes
      restored-short : (qs : List ℕ) → sum (map (λ (x : ℕ). head_length f + length_of x) qs) ≤ 12 * length qs + sum (map length_of qs)
      unfolding sum
      restored-short [] = omega arith
      restored-short (x ∷ qs) = let a = restored-short qs in let b = (unsigned-long f).1 in omega arith

      at_least_lem : (qs : List ℕ) → sum (map length_of qs) ≤ sum (map (λ (x : ℕ). head_length f + length_of x) qs)
      unfolding sum
      at_least_lem [] = omega arith
      at_least_lem (x ∷ qs) = let a = at_least_lem qs in omega arith

      cut_edits : length v ≡ length w
          → Edits t l w v table (removed z.head z.fields f m table) back (laid_from z.laid (map (entry_of 0x21 f) (gone_places f m z table)) back) left z (cut_stage f m z table)
          (restored f (take m (drop f gs))) f m [] (map (entry_of 0x21 f) ps)
      unfolding cut_stage fields_in
      cut_edits lv =
          let i = within H in
          let c = fields-length H in
          let n : f + m ≤ z.fields = omega (arith, p.among) in
          let k : f < 2 ^ 16 = omega arith in
          let A = H.above in
          let B = H.below in
          let C : Closes (length table) z.head z.fields f m = record { entries = n; inside = omega arith } in
          let o = is_closed z.head z.fields f m table C in
          let D = head-removed z.head z.fields f m table o in
          let Z = length_removed z.head z.fields f m table in
          let es = map (entry_of 0x21 f) ps in
          let el : length es ≡ m = length-map (entry_of 0x21 f) ps ∙ ps-length in
          let vl : length (restored f (take m (drop f gs))) ≡ m
          = restored-length f (take m (drop f gs)) ∙ ap length (sym gone_fields) ∙ fields-count t l (take z.used v) ps ∙ ps-length in
          let R : length (joined (restored f (take m (drop f gs)))) ≡ sum (map (λ (x : ℕ). head_length f + length_of x) ps)
          = ap (λ (x : List Bytes). length (joined x)) (sym restored-is) ∙ restoring_bytes t l (take z.used v) f k ps gone_whole in
          let S = restored-short ps in
          let Q = ps-length in
          let G = gone_window in
          let T : sum (map (λ (x : ℕ). head_length f + length_of x) (gone_places f m z table)) ≡ sum (map (λ (x : ℕ). head_length f + length_of x) ps)
          = ap (λ (y : List ℕ). sum (map (λ (x : ℕ). head_length f + length_of x) y)) G in
          let b = cut-bytes.0 in
          let d = cut-bytes.1 in
          let g : gone_bytes f m z table ≡ sum (map length_of ps) = ap (λ (x : List ℕ). sum (map length_of x)) G in
          let Y = at_least_lem ps in
          record {
            among = n;
            places = window-removed z.head z.fields f m table o;
            fields = omega arith;
            more = omega arith;
            inside = let y = H.used in omega arith;
            kept = P;
            whole = refl;
            small = refl;
            low = omega arith;
            lowest = omega arith;
            tail = omega arith;
            least = omega arith;
            bytes = sym b;
            fit = cut_fits;
            below = omega arith;
            above = omega arith;
            laid = omega arith;
            back_bytes = omega arith;
            entries = λ h. ap (λ (x : List ℕ). take (z.laid + m) (laid_from z.laid (map (entry_of 0x21 f) x) back)) G
                ∙ ap (λ (x : ℕ). take (z.laid + x) (laid_from z.laid es back)) (sym el) ∙ take-laid z.laid es back (omega arith);
            room = length-laid z.laid (map (entry_of 0x21 f) (gone_places f m z table)) back;
            undoes = restoring t l (take z.used v) f k ps gone_words ∙ restored-is;
            whole_entries = restoring_whole t l (take z.used v) f k ps gone_words gone_whole;
            log = let a = H.log in omega arith;
            few = omega arith;
            short = omega arith;
          }

  -- A PLAN PERFORMED
  pub performs : (v : Bytes) (ed : Edit) (p : Planned) → Planning t l w v z.used gs p ed
      → Performs t l v (table_after p z table) (back_after p z table back) left us gs ed (performed p z table)
  unfolding perform inverse fields_in put_stage add_stage cut_stage
  performs v ed (Err (Refused k)) P = P.means
  performs v ed (Err Full) P = tt
  performs v ed (Ok (Put f q u)) P = go (fitting z.fields (bytes_put f q z table)) refl
    where
      go : (b : Bool) → fitting z.fields (bytes_put f q z table) ≡ b
          → Performs t l v (pick b (set table (z.head + f) q) table) (pick b (set back z.laid (entry_of 0x3d f (gone_place f z table))) back) left us gs ed
          (pick b (Ok (put_stage f q u z table)) (Err (Refused TooLarge)))
      go true e =
          let E = put_edits v ed P.kept f q u P.means e in
          rw P.means.edit (next_fits _ (put-fits v ed P.kept f q u P.means ∙ e) ∙ ap next (sym (fields-next H E)), held_next H E)
      go false e = put-stops v ed P.kept f q u P.means e
  performs v ed (Ok (Add f q)) P = go (fitting (z.fields + 1) (z.bytes + length_of q)) refl
    where
      go : (b : Bool) → fitting (z.fields + 1) (z.bytes + length_of q) ≡ b
          → Performs t l v (pick b (added z.head z.fields f q table) table) (pick b (set back z.laid (entry_of 0x23 f 0)) back) left us gs ed
          (pick b (Ok (add_stage f q z table)) (Err (Refused TooLarge)))
      go true e =
          let E = add_edits v ed P.kept f q P.means P.long e in
          rw P.means.edit (next_fits _ (add-fits v ed P.kept f q P.means ∙ e) ∙ ap next (sym (fields-next H E)), held_next H E)
      go false e = add-stops v ed P.kept f q P.means e
  performs v ed (Ok (Cut f m)) P =
      let E = cut_edits v ed P.kept f m P.means P.long in
      rw P.means.edit (next_fits _ (cut_fits v ed P.kept f m P.means) ∙ ap next (sym (fields-next H E)), held_next H E)
