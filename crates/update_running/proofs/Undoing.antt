-- The entries of an undo list, and the operations that they stand for. Assumes nothing.
use mathlib.Core.Path.{◌≡◌, refl, sym, ap, ◌∙◌}
use mathlib.Core.List.{List, [], ◌∷◌, ◌++◌, map, append_assoc}
use Prim.Native.Nat.{ℕ, suc, ◌+◌, ◌^◌, ◌<◌, ◌≤◌}
use native.Mathlib.Omega.{arith}
use borrow.Author.Tests.{ne_eqb}
use lib.ListN.{length, take, drop, get_or, set, length-set, length-append}
use lib.Seq.{take-suc-set}
use Rattle.msgpack_first_bytes.specs.Bytes.{Bytes}
use Rattle.msgpack_values.specs.Pieces.{joined}
use Rattle.msgpack_writing.specs.Forms.{unsigned_form, string_header, array_header}
use Rattle.tuples.specs.Tuple.{Fields}
use Rattle.tuples.specs.Edit.{operation_bytes, restored}
use Rattle.update_places.specs.Place.{start_of, length_of, bytes_at, fields_in, sum}
use Rattle.update_places.proofs.Runs.{from_nothing}
use Rattle.update_running.specs.Steps.{entry_of, entry_mark, entry_field, entry_place, laid_from, head_length}
use Rattle.update_running.specs.Held.{entry_bytes, undo_in, in_word}
use Rattle.update_running.proofs.Holding.{joined-append, WholeIn}

module _ (m f p : ℕ) (i : f < 2 ^ 16) (j : p < 2 ^ 32) where
  pub entry-mark : entry_mark (entry_of m f p) ≡ m
  unfolding entry_mark entry_of
  entry-mark = omega arith

  pub entry-field : entry_field (entry_of m f p) ≡ f
  unfolding entry_field entry_of
  entry-field = omega arith

  pub entry_place_lem : entry_place (entry_of m f p) ≡ p
  unfolding entry_place entry_of
  entry_place_lem = omega arith

  -- an entry of another mark than `#`
  pub entry-is : (t l w : Bytes) → (m ≡ 0x23 → ⊥) → entry_bytes t l w (entry_of m f p) ≡ operation_bytes m f (bytes_at t l w p)
  unfolding entry_bytes
  entry-is t l w h = rw (entry-mark, entry-field, entry_place_lem, ne_eqb m 0x23 h)

pub entry_removes : (t l w : Bytes) (f : ℕ) → f < 2 ^ 16 → entry_bytes t l w (entry_of 0x23 f 0) ≡ operation_bytes 0x23 f (unsigned_form 1)
unfolding entry_bytes
entry_removes t l w f i = rw (entry-mark 0x23 f 0 i (omega arith), entry-field 0x23 f 0 i (omega arith))

pub place-nothing : (t l w : Bytes) → bytes_at t l w 0 ≡ []
unfolding bytes_at length_of start_of
place-nothing t l w = from_nothing t l w 0

pub operation-length : (c f : ℕ) (a : Bytes) → length (operation_bytes c f a) ≡ head_length f + length a
unfolding operation_bytes array_header string_header
operation-length c f a = let e = length-append (unsigned_form f) a in omega arith

pub in_word_lem : (p : ℕ) → in_word p ≡ p → p < 2 ^ 32
unfolding in_word
in_word_lem p e = omega arith

-- ---- entries laid

pub length-laid : (k : ℕ) (es back : List ℕ) → length (laid_from k es back) ≡ length back
unfolding laid_from
length-laid k [] back = refl
length-laid k (e ∷ es) back = length-laid (suc k) es (set back k e) ∙ length-set back k e

pub take-laid : (k : ℕ) (es back : List ℕ) → k + length es ≤ length back → take (k + length es) (laid_from k es back) ≡ take k back ++ es
unfolding laid_from
take-laid k [] back h = let z : k + 0 ≡ k = omega arith in rw z (sym (mathlib.Core.List.append-nil (take k back)))
take-laid k (e ∷ es) back h =
    let z : k + suc (length es) ≡ suc k + length es = omega arith in
    let i : suc k + length es ≤ length (set back k e) = rw (length-set back k e) (omega arith) in
    rw z (take-laid (suc k) es (set back k e) i ∙ ap (λ (x : List ℕ). x ++ es) (take-suc-set back k e (omega arith)) ∙ append_assoc (take k back) (e ∷ []) es)

-- ---- removed fields

module _ (t l w : Bytes) (f : ℕ) (i : f < 2 ^ 16) where
  pub restoring : (ps : List ℕ) → map in_word ps ≡ ps → undo_in t l w (map (entry_of 0x21 f) ps) ≡ restored f (fields_in t l w ps)
  unfolding undo_in restored fields_in
  restoring [] s = refl
  restoring (p ∷ ps) s =
      let j : p < 2 ^ 32 = in_word_lem p (ap (λ (x : List ℕ). get_or x 0 0) s) in
      let h : (◌≡◌ {A = ℕ} 0x21 0x23 → ⊥) = λ (q : ◌≡◌ {A = ℕ} 0x21 0x23). (omega arith) in
      rw (restoring ps (ap (drop 1) s), entry-is 0x21 f p i j t l w h)

  pub restoring_whole : (ps : List ℕ) → map in_word ps ≡ ps → map length (fields_in t l w ps) ≡ map length_of ps → WholeIn t l w (map (entry_of 0x21 f) ps)
  unfolding fields_in
  restoring_whole [] s m = refl
  restoring_whole (p ∷ ps) s m =
      let j : p < 2 ^ 32 = in_word_lem p (ap (λ (x : List ℕ). get_or x 0 0) s) in
      let a : length (bytes_at t l w p) ≡ length_of p = ap (λ (x : List ℕ). get_or x 0 0) m in
      rw (entry_place_lem 0x21 f p i j, a, restoring_whole ps (ap (drop 1) s) (ap (drop 1) m))

  pub restoring_bytes : (ps : List ℕ) → map length (fields_in t l w ps) ≡ map length_of ps
      → length (joined (restored f (fields_in t l w ps))) ≡ sum (map (λ (p : ℕ). head_length f + length_of p) ps)
  unfolding fields_in restored joined sum
  restoring_bytes [] m = refl
  restoring_bytes (p ∷ ps) m =
      let a : length (bytes_at t l w p) ≡ length_of p = ap (λ (x : List ℕ). get_or x 0 0) m in
      let R = restored f (fields_in t l w ps) in
      let O = operation_bytes 0x21 f (bytes_at t l w p) in
      let b : length (joined (R ++ (O ∷ []))) ≡ length (joined R) + length (joined (O ∷ [])) = ap length (joined-append R (O ∷ [])) ∙ length-append (joined R) (joined (O ∷ [])) in
      let d : length (joined (O ∷ [])) ≡ length O = length-append O [] ∙ (omega arith) in
      let e = operation-length 0x21 f (bytes_at t l w p) in
      let g = restoring_bytes ps (ap (drop 1) m) in
      let r : length (joined (R ++ (O ∷ []))) ≡ head_length f + length_of p + sum (map (λ (p : ℕ). head_length f + length_of p) ps) = omega arith in
      r

pub restored-length : (f : ℕ) (gs : Fields) → length (restored f gs) ≡ length gs
unfolding restored
restored-length f [] = refl
restored-length f (x ∷ gs) = length-append (restored f gs) _ ∙ (let e = restored-length f gs in omega arith)
