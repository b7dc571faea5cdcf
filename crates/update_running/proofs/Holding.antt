-- An edit of the table keeps what is held. Assumes nothing.
use mathlib.Core.Path.{◌≡◌, refl, sym, ap, ◌∙◌}
use mathlib.Core.Bool.{true}
use mathlib.Core.List.{List, [], ◌∷◌, ◌++◌, map, map-append, append_assoc, append-nil}
use Prim.Native.Nat.{ℕ, suc, ◌+◌, ◌-◌, ◌≤◌}
use native.Mathlib.Omega.{arith}
use lib.ListN.{length, take, drop, get_or, length-append}
use lib.Seq.{drop-drop, take-take}
use Rattle.msgpack_first_bytes.specs.Bytes.{Bytes}
use Rattle.msgpack_values.specs.Pieces.{joined}
use Rattle.tuples.specs.Limits.{max_fields, max_list}
use Rattle.tuples.specs.Tuple.{Fields}
use Rattle.tuples.specs.Edit.{spliced, fits}
use Rattle.update_places.specs.Place.{length_of, bytes_at, fields_in, Chain, sum}
use Rattle.update_places.proofs.Places.{map-take, map-drop, map-spliced, fields-spliced}
use Rattle.update_places.proofs.Kept.{kept-one-more, kept_more}
use Rattle.update_places.proofs.Chains.{chain-take, chain-drop}
use Rattle.update_table.proofs.Windows.{length-window}
use Rattle.update_running.specs.declared.Stage.{Stage}
use Rattle.update_running.specs.Steps.{entry_place}
use Rattle.update_running.specs.Held.{places_now, fields_now, entry_bytes, undo_in, in_word, Held}
use Rattle.update_running.proofs.Sums.{length-joined, sum-spliced, front-spliced, rear-spliced}

pub joined-append : (s t : List Bytes) → joined (s ++ t) ≡ joined s ++ joined t
unfolding joined
joined-append [] t = refl
joined-append (x ∷ s) t = ap (λ (r : Bytes). x ++ r) (joined-append s t) ∙ sym (append_assoc x (joined s) (joined t))

pub undo-append : (t l w : Bytes) (a b : List ℕ) → undo_in t l w (a ++ b) ≡ undo_in t l w b ++ undo_in t l w a
unfolding undo_in
undo-append t l w [] b = sym (append-nil (undo_in t l w b))
undo-append t l w (e ∷ a) b = rw (undo-append t l w a b) (append_assoc (undo_in t l w b) (undo_in t l w a) (entry_bytes t l w e ∷ []))

-- entries whose places are whole
abbrev pub WholeIn : Bytes → Bytes → Bytes → List ℕ → Type 0
WholeIn t l w es = map (λ (e : ℕ). length (bytes_at t l w (entry_place e))) es ≡ map (λ (e : ℕ). length_of (entry_place e)) es

module _ (t l w v : Bytes) (u u' : ℕ) (h : u ≤ u') (q : take u v ≡ take u w) where
  -- what was laid stays as it is, whatever is written behind the used bytes
  undo-kept : (es : List ℕ) → WholeIn t l (take u w) es → (undo_in t l (take u' v) es ≡ undo_in t l (take u w) es) × WholeIn t l (take u' v) es
  unfolding undo_in entry_bytes
  undo-kept [] m = (refl, refl)
  undo-kept (e ∷ es) m =
      let f : length (bytes_at t l (take u w) (entry_place e)) ≡ length_of (entry_place e) = ap (λ (x : List ℕ). get_or x 0 0) m in
      let k = kept-one-more t l w v u u' h q (entry_place e) f in
      let i = undo-kept es (ap (drop 1) m) in
      (rw (k, i.0), rw k (ap (λ (x : List ℕ). length (bytes_at t l (take u w) (entry_place e)) ∷ x) i.1 ∙ ap (λ (x : ℕ). x ∷ map (λ (e : ℕ). length_of (entry_place e)) es) f))

-- THE FIELDS after an edit: f + c of the entries are there, xs come for c of them from f on, and stand whole in the work array v
module _ (t l w v : Bytes) (u u' : ℕ) (h : u ≤ u') (q : take u v ≡ take u w) (f c : ℕ) (xs win : List ℕ)
    (m : map length (fields_in t l (take u w) win) ≡ map length_of win) where
  pub edited : fields_in t l (take u' v) (spliced f c xs win) ≡ spliced f c (fields_in t l (take u' v) xs) (fields_in t l (take u w) win)
  edited = fields-spliced t l (take u' v) f c xs win ∙ ap (λ (x : Fields). spliced f c (fields_in t l (take u' v) xs) x) (kept_more t l w v u u' h q win m)

  pub edited_whole : map length (fields_in t l (take u' v) xs) ≡ map length_of xs
      → map length (fields_in t l (take u' v) (spliced f c xs win)) ≡ map length_of (spliced f c xs win)
  edited_whole x =
      ap (λ (y : Fields). map length y) edited ∙ map-spliced length f c (fields_in t l (take u' v) xs) (fields_in t l (take u w) win)
      ∙ ap (λ (y : List ℕ). spliced f c y (map length (fields_in t l (take u w) win))) x ∙ ap (λ (y : List ℕ). spliced f c (map length_of xs) y) m ∙ sym (map-spliced length_of f c xs win)

-- the bytes of the fields after it
pub edited_bytes : (f c : ℕ) (ys fs : Fields) → length (joined (spliced f c ys fs)) + sum (map length (take c (drop f fs))) ≡ length (joined fs) + length (joined ys)
edited_bytes f c ys fs =
    let a : length (joined (spliced f c ys fs)) ≡ sum (spliced f c (map length ys) (map length fs)) = length-joined (spliced f c ys fs) ∙ ap sum (map-spliced length f c ys fs) in
    let b : sum (map length (take c (drop f fs))) ≡ sum (take c (drop f (map length fs))) = ap sum (map-take length c (drop f fs) ∙ ap (take c) (map-drop length f fs)) in
    let d = sum-spliced f c (map length ys) (map length fs) in
    let e = length-joined fs in
    let g = length-joined ys in
    omega arith

-- what an edit does, from the stage z to z': f + c fields are there, xs come for c of them; vs is what takes it back, laid as the entries es
pub record Edits (t l w w' : Bytes) (table table' back back' : List ℕ) (left : ℕ) (z z' : Stage) (vs : List Bytes) (f c : ℕ) (xs es : List ℕ) : Type 0 where
  pub among : f + c ≤ z.fields
  pub places : places_now table' z' ≡ spliced f c xs (places_now table z)
  pub fields : z'.fields ≡ z.fields - c + length xs
  pub more : z.used ≤ z'.used
  pub inside : z'.used ≤ length w'
  pub kept : take z.used w' ≡ take z.used w
  pub whole : map length (fields_in t l (take z'.used w') xs) ≡ map length_of xs
  pub small : map in_word xs ≡ xs
  pub low : z'.low ≤ z.low
  pub lowest : z'.low ≤ f
  pub tail : z'.tail ≤ z.tail
  pub least : z'.tail ≤ z.fields - (f + c)
  pub bytes : z'.bytes ≡ length (joined (spliced f c (fields_in t l (take z'.used w') xs) (fields_now t l w table z)))
  pub fit : fits (spliced f c (fields_in t l (take z'.used w') xs) (fields_now t l w table z)) ≡ true
  pub below : left ≤ z'.head
  pub above : z'.head + z'.fields + left ≤ length table'
  pub laid : z'.laid ≡ z.laid + length vs
  pub back_bytes : z'.back ≡ z.back + length (joined vs)
  pub entries : z'.laid ≤ length back → take z'.laid back' ≡ take z.laid back ++ es
  pub room : length back' ≡ length back
  pub undoes : undo_in t l (take z'.used w') es ≡ vs
  pub whole_entries : WholeIn t l (take z'.used w') es
  pub log : z'.used ≤ z'.bytes + z'.back
  pub few : length vs ≤ max_fields
  pub short : length (joined vs) ≤ max_list

module _ {t l w w' : Bytes} {table table' back back' : List ℕ} {left : ℕ} {z z' : Stage} {us vs : List Bytes} {f c : ℕ} {xs es : List ℕ}
    (H : Held t l w table back (suc left) z us) (E : Edits t l w w' table table' back back' left z z' vs f c xs es) where
  wins : length (places_now table z) ≡ z.fields
  wins = length-window table z.head z.fields (omega (arith, H.above))

  pub fields-next : fields_now t l w' table' z' ≡ spliced f c (fields_in t l (take z'.used w') xs) (fields_now t l w table z)
  fields-next =
      ap (λ (x : List ℕ). fields_in t l (take z'.used w') x) E.places ∙ edited t l w w' z.used z'.used E.more E.kept f c xs (places_now table z) H.whole

  front-next : Chain H.front_at (take z'.low (places_now table' z'))
  front-next =
      let e : take z'.low (places_now table' z') ≡ take z'.low (places_now table z)
      = ap (take z'.low) E.places ∙ front-spliced f c xs (places_now table z) (omega (arith, E.among, wins)) z'.low E.lowest in
      let g : take z'.low (take z.low (places_now table z)) ≡ take z'.low (places_now table z) = take-take z'.low z.low (places_now table z) E.low in
      rw (e, ← g) (chain-take H.front_at (take z.low (places_now table z)) H.front z'.low)

  rear-next : (a : ℕ) × Chain a (drop (z'.fields - z'.tail) (places_now table' z'))
  rear-next =
      let W = places_now table z in
      let e : drop (z'.fields - z'.tail) (places_now table' z') ≡ drop (length W - z'.tail) W
      = ap (drop (z'.fields - z'.tail)) E.places ∙ rear-spliced f c xs W (omega (arith, E.among, wins)) z'.tail (z'.fields - z'.tail) (omega (arith, E.least, wins)) (omega (arith, E.fields, wins)) in
      let k = z.tail - z'.tail in
      let i : z.fields - z.tail + k ≡ length W - z'.tail = omega (arith, E.tail, H.tail, wins) in
      let g : drop k (drop (z.fields - z.tail) W) ≡ drop (length W - z'.tail) W = drop-drop k (z.fields - z.tail) W ∙ ap (λ (n : ℕ). drop n W) i in
      (H.rear_at + sum (map length_of (take k (drop (z.fields - z.tail) W))), rw (e, ← g) (chain-drop H.rear_at (drop (z.fields - z.tail) W) H.rear k))

  pub held_next : Held t l w' table' back' left z' (vs ++ us)
  held_next =
      let W = places_now table z in
      let F = E.fields in
      let N = wins in
      let lv = length-append vs us in
      let jv : length (joined (vs ++ us)) ≡ length (joined vs) + length (joined us) = ap length (joined-append vs us) ∙ length-append (joined vs) (joined us) in
      let R = rear-next in
      let old : z'.laid ≤ length back' → z.laid ≤ length back = λ h. omega (arith, h, E.room, E.laid) in
      let in-room : z'.laid ≤ length back' → z'.laid ≤ length back = λ h. omega (arith, h, E.room) in
      let K : (h : z'.laid ≤ length back') → (undo_in t l (take z'.used w') (take z.laid back) ≡ undo_in t l (take z.used w) (take z.laid back)) × WholeIn t l (take z'.used w') (take z.laid back)
      = λ h. undo-kept t l w w' z.used z'.used E.more E.kept (take z.laid back) (H.olds_whole (old h)) in
      record {
        whole = ap (λ (x : List ℕ). map length (fields_in t l (take z'.used w') x)) E.places
            ∙ edited_whole t l w w' z.used z'.used E.more E.kept f c xs W H.whole E.whole ∙ ap (λ (x : List ℕ). map length_of x) (sym E.places);
        small = ap (λ (x : List ℕ). map in_word x) E.places ∙ map-spliced in_word f c xs W ∙ ap (λ (x : List ℕ). spliced f c x (map in_word W)) E.small
            ∙ ap (λ (x : List ℕ). spliced f c xs x) H.small ∙ sym E.places;
        bytes = E.bytes ∙ ap (λ (x : Fields). length (joined x)) (sym fields-next);
        fit = ap fits fields-next ∙ E.fit;
        used = E.inside;
        below = E.below;
        above = E.above;
        low = omega (arith, E.lowest, E.fields, E.among);
        tail = omega (arith, E.least, E.fields, E.among);
        front_at = H.front_at;
        front = front-next;
        rear_at = R.0;
        rear = R.1;
        laid = E.laid ∙ (let a = H.laid in omega arith);
        back_bytes = E.back_bytes ∙ (let a = H.back_bytes in omega arith);
        olds = λ h. ap (undo_in t l (take z'.used w')) (E.entries (in-room h)) ∙ undo-append t l (take z'.used w') (take z.laid back) es
            ∙ ap (λ (x : List Bytes). x ++ undo_in t l (take z'.used w') (take z.laid back)) E.undoes ∙ ap (λ (x : List Bytes). vs ++ x) ((K h).0 ∙ H.olds (old h));
        olds_whole = λ h. rw (E.entries (in-room h), map-append, map-append, (K h).1, E.whole_entries);
        log = E.log;
        few_laid = let a = H.few_laid in let b = E.laid in let d = E.few in omega arith;
        short_back = let a = H.short_back in let b = E.back_bytes in let d = E.short in omega arith;
      }
