-- Spliced strings: where the old one stands, how its pieces are copied, and what they make. Assumes nothing.
use Rattle.std.specs.Prelude.{Some, None, Ok, Err, Option}
use mathlib.Core.Path.{◌≡◌, refl, sym, ap, ◌∙◌}
use mathlib.Core.List.{[], ◌∷◌, ◌++◌}
use mathlib.Core.Logic.{⊎_elim}
use mathlib.Core.Option.{some}
use Prim.Native.Nat.{ℕ, ◌+◌, ◌-◌, ◌<◌, ◌≤◌}
use native.Mathlib.Omega.{arith}
use lib.ListN.{length, take, drop, length-append, length-take, length-drop}
use lib.Seq.{drop-drop, take-take, length-take-le, take_all}
use Rattle.msgpack_first_bytes.specs.Bytes.{Bytes}
use Rattle.msgpack_first_bytes.proofs.Logic.{either}
use Rattle.msgpack_writing.specs.Forms.{string_header, string_form}
use Rattle.msgpack_writing.proofs.Put.{wrote, written, step}
use Rattle.msgpack_writing.proofs.Lengths.{Long, string-long}
use Rattle.tuples.specs.Decoding.{Got, string}
use Rattle.tuples.specs.Operation.{splice}
use Rattle.tuples.specs.Edit.{Edit, refuse, put, spliced, became, suited, altered, edit_at}
use Rattle.tuples.specs.Limits.{max_tuple}
use Rattle.tuples.specs.declared.Refusal.TheVariants.{Unsuited, TooLarge}
use Rattle.update_parts.specs.Part.{part, span_by}
use Rattle.update_parts.proofs.Leaving.{leaving_string, span_in, span_back, span_order}
use Rattle.update_places.specs.Place.{in_list, in_work, bytes_from}
use Rattle.update_places.proofs.Runs.{by_source, from-tuple, from_list, from-work}
use Rattle.update_places.proofs.Kept.{drop-take}
use Rattle.update_altering.specs.Altering.{Alters, Altered}
use Rattle.msgpack_writing.specs.Put.{Writes}
use Rattle.update_altering.specs.Splicing.{cut_by, Fits}
use Rattle.update_altering.proofs.Edits.{put_large, put_full, put_is}
use Rattle.update_altering.specs.declared.Obstacle.TheVariants.{Full, Refused}

-- ---- a field, and pieces of it

pub no_longer : (t l w : Bytes) (at size : ℕ) → length (bytes_from t l w at size) ≤ size
no_longer t l w at size =
    by_source _ at (λ h. rw (from-tuple t l w at size h) (omega (arith, length-take size (drop at t))))
    (λ h k. rw (from_list t l w at size h k) (omega (arith, length-take size (drop (at - in_list) l))))
    (λ h. rw (from-work t l w at size h) (omega (arith, length-take size (drop (at - in_work) w))))

pub piece_length : (s : Bytes) (a n : ℕ) → a + n ≤ length s → length (take n (drop a s)) ≡ n
piece_length s a n h = length-take-le n (drop a s) (simp length-drop (omega arith))

-- ---- header and pieces, one after the other

module _ (a b c w : Bytes) (k : Fits 0 (length a + (length b + length c)) w) where
  abbrev head : Bytes
  head = string_header (length a + (length b + length c))

  long : length (head ++ (a ++ (b ++ c))) ≡ length head + (length a + (length b + length c))
  long = simp length-append

  pub all-written : {a₁ a₂ a₃ a₄ : ℕ} {w₁ w₂ w₃ w₄ : Bytes} → Writes 0 head a₁ w w₁ → Writes a₁ a a₂ w₁ w₂ → Writes a₂ b a₃ w₂ w₃ → Writes a₃ c a₄ w₃ w₄
      → Writes 0 (string_form (a ++ (b ++ c))) a₄ w w₄
  all-written {a₁} {a₂} {a₃} {a₄} {w₁} {w₂} {w₃} {w₄} e f g h =
      let r = k.1 in
      let l = long in
      let n : length (a ++ (b ++ c)) ≡ length a + (length b + length c) = simp length-append in
      rw n (written (step w 0 head e (omega (arith, l)) (λ i. step w₁ a₁ a f i (λ j. step w₂ a₂ b g j (λ m. wrote w₃ a₃ c h m)))))

-- ---- from p on, k bytes go and `argument` comes in their place

splice_by : ℕ → ℕ → Bytes → Got Bytes → Edit
splice_by p k argument g = suited 0 g (λ s. some (string_form (spliced p k argument s)))

splice-read : (p k : ℕ) (argument field : Bytes) → splice_by p k argument (string field) ≡ edit_at (splice p k argument) 0 (field ∷ [])
unfolding splice_by edit_at altered
splice-read p k argument field = refl

-- what is before the position, and what is after what goes
module _ (s : Bytes) (a e p k : ℕ) where
  abbrev old : Bytes
  old = part a e s

  front_cut : (n : ℕ) → n ≡ e - a - (e - a - p) → take n (drop a s) ≡ take p old
  front_cut n q =
      ⊎_elim (λ h. let i : n ≡ p = omega arith in rw i (sym (take-take p (e - a) (drop a s) h)))
      (λ h.
      let i : n ≡ e - a = omega arith in
      let m = length-take (e - a) (drop a s) in
      rw i (sym (take_all p old (omega (arith, m)))))
      (either p (e - a))

  back_cut : (rest : ℕ) → rest ≡ e - a - p - k → a ≤ e → take rest (drop (e - rest) s) ≡ drop (p + k) old
  back_cut rest q o =
      let d : drop (p + k) old ≡ take rest (drop (a + (p + k)) s)
      = drop-take (p + k) (e - a) (drop a s) ∙ ap (λ (x : ℕ). take x (drop (p + k) (drop a s))) (let z : e - a - (p + k) ≡ rest = omega arith in z) ∙ ap (take rest) (drop-drop (p + k) a s) in
      ⊎_elim (λ h. let i : e - rest ≡ a + (p + k) = omega arith in rw i (sym d)) (λ h. let i : rest ≡ 0 = omega arith in sym (rw i (rw i at d)))
      (either (p + k) (e - a))

-- what the code knows of a string that it found from a up to e
pub record Cut (p k : ℕ) (argument field : Bytes) (a e after rest : ℕ) : Type 0 where
  pub order : a ≤ e
  pub end : e ≤ length field
  pub behind : after ≡ e - a - p
  pub left : rest ≡ after - k
  pub header : Long 5 (string_header (e - a - after + (length argument + rest)))
  pub long : length (string_form (cut_by a (e - a - after) argument (e - rest) rest field)) ≡ length (string_header (e - a - after + (length argument + rest))) + (e - a - after + (length argument + rest))
  pub edit : put 0 (string_form (cut_by a (e - a - after) argument (e - rest) rest field)) ≡ edit_at (splice p k argument) 0 (field ∷ [])

module _ (p k : ℕ) (argument field : Bytes) {r : Option (ℕ × ℕ)} (h : r ≡ span_by field (string field)) where
  told : {x : Option (ℕ × ℕ)} → r ≡ x → splice_by p k argument (span_in field x) ≡ edit_at (splice p k argument) 0 (field ∷ [])
  told q = ap (splice_by p k argument) (ap (span_in field) (sym q ∙ h) ∙ span_back field (string field) (leaving_string.leaves field)) ∙ splice-read p k argument field

  pub splice_unsuited : r ≡ None → refuse Unsuited ≡ edit_at (splice p k argument) 0 (field ∷ [])
  unfolding splice_by suited
  splice_unsuited q = told q

  pub splice-is : {a e after rest : ℕ} → r ≡ Some (a, e) → after ≡ e - a - p → rest ≡ after - k → Cut p k argument field a e after rest
  unfolding splice_by suited became spliced
  splice-is {a} {e} {after} {rest} q i j =
      let o = span_order field (string field) (sym q ∙ h) in
      let m = piece_length field a (e - a - after) (omega (arith, o)) in
      let b = piece_length field (e - rest) rest (omega (arith, o)) in
      let w : length (cut_by a (e - a - after) argument (e - rest) rest field) ≡ e - a - after + (length argument + rest) = simp (length-append, m, b) in
      record {
        order = o.0;
        end = o.1;
        behind = i;
        left = j;
        header = string-long (e - a - after + (length argument + rest));
        long = length-append (string_header (length (cut_by a (e - a - after) argument (e - rest) rest field))) (cut_by a (e - a - after) argument (e - rest) rest field) ∙ rw w;
        edit = rw (front_cut field a e p k (e - a - after) (omega arith), back_cut field a e p k rest (omega arith) o.0) (told q);
      }

module _ {p k : ℕ} {argument field : Bytes} {a e after rest : ℕ} (cut : Cut p k argument field a e after rest) (work : Bytes) where
  abbrev n : ℕ
  n = e - a - after + (length argument + rest)

  abbrev whole : Bytes
  whole = string_form (cut_by a (e - a - after) argument (e - rest) rest field)

  abbrev Splices : Altered → Bytes → Type 0
  Splices r left = Alters (edit_at (splice p k argument) 0 (field ∷ [])) 0 r work left

  pub splice_large : max_tuple < length (string_header n) + n → Splices (Err (Refused TooLarge)) work
  splice_large h = rw (← cut.edit) (put_large whole work 0 (let l = cut.long in omega arith))

  module _ (h : length (string_header n) + n ≤ max_tuple) where
    pub splice_full : length work < length (string_header n) + n → Splices (Err Full) work
    splice_full i = let l = cut.long in rw (← cut.edit) (put_full whole work 0 (omega arith) (omega arith))

    pub splice-put : length (string_header n) + n ≤ length work → {r : ℕ} {left : Bytes} → Writes 0 whole r work left → Splices (Ok r) left
    splice-put i w = let l = cut.long in rw (← cut.edit) (put_is whole work 0 (omega arith) (omega arith) w)

  pub splice_some : length (string_header n) + n ≤ length work → {r : ℕ} {left : Bytes} → Writes 0 whole r work left → 0 < r
  splice_some i w = let l = cut.long in let e = (wrote work 0 whole w (omega arith)).end in let h = cut.header in omega arith
