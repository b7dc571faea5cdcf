-- A tuple's bytes and its fields. Assumes nothing.
use Rattle.std.specs.Prelude.{Some, None, Ok, Err}
use Rattle.std.proofs.lemmas.Option.{some_pair_parts}
use mathlib.Core.Path.{◌≡◌, refl, ap, ◌∙◌, subst}
use mathlib.Core.Bool.{Bool, true, false}
use mathlib.Core.List.{[], ◌∷◌, ◌++◌, append-nil}
use mathlib.Core.Option.{some}
use Prim.Native.Nat.{ℕ, suc, ◌+◌, ◌-◌, ◌^◌, ◌<◌, ◌≤◌}
use native.Mathlib.Omega.{arith}
use borrow.Author.Tests.{leb-true, le-leb, eqb-true, eq-eqb}
use lib.Dec.{T, leb, leb→le, eqb}
use lib.ListN.{length, take, drop, length-drop}
use lib.Seq.{take-length, drop-append_seam}
use Rattle.msgpack_first_bytes.specs.Bytes.{Bytes, pick}
use Rattle.msgpack_first_bytes.specs.FirstByte.{form_of}
use Rattle.msgpack_numbers.specs.Number.{number}
use Rattle.msgpack_values.specs.Value.{value, items, Read}
use Rattle.msgpack_values.specs.Pieces.{pieces, joined, Each}
use Rattle.msgpack_values.proofs.Local.{value_good}
use Rattle.msgpack_values.proofs.Pieces.{pieces-joined, items-joined}
use Rattle.msgpack_scalars.specs.Header.{counted, header, Header}
use Rattle.msgpack_scalars.specs.Start.{array_by, Start}
use Rattle.msgpack_writing.specs.Forms.{big_endian, array_header}
use Rattle.msgpack_read_back.proofs.Back.{array-header-back}
use Rattle.msgpack_first_bytes.proofs.Logic.{impossible, by_eqb}
use Rattle.msgpack_first_bytes.proofs.Forms.{each_form}
use Rattle.msgpack_writing.proofs.Lengths.{array_mono}
use Rattle.tuples.specs.Limits.{max_fields, max_tuple, field_depth}
use Rattle.tuples.specs.Tuple.{Fields, plain, filling, fields_filling, fields_by, fields_of}
use Rattle.tuples.proofs.Cases.{guarded}
use Rattle.tuples.proofs.Whole.{pieces-each}
use Rattle.tuples.proofs.Legal.{Legal, plain-length}

-- ---- no array's header is shorter than the one that is written

-- 16 fields and more take two count bytes at least
abbrev enough : Start → Bool
enough (Some (w, f)) = pick (eqb w 0) (leb f 15) (leb 2 w)
enough None = true

array-wide : (b : ℕ) → T (enough (array_by (form_of b)))
unfolding form_of
array-wide = each_form (λ h. enough (array_by h)) tt

pub array-short : (t : Bytes) (n e : ℕ) → n < 2 ^ 16 → header array_by t ≡ Some (n, e) → (length (array_header n) ≤ e) × (e ≤ length t)
unfolding header counted number array_header big_endian
array-short [] n e l h = impossible (cc)
array-short (b ∷ s) n e l h = by_start (array_by (form_of b)) (array-wide b) h
  where
    by_count : (w f : ℕ) → T (enough (Some (w, f))) → (t : Bool) → leb w (length s) ≡ t → pick {A = Header} t (Some (number (take w s) + f, 1 + w)) None ≡ Some (n, e)
        → (length (array_header n) ≤ e) × (e ≤ suc (length s))
    by_count w f r true q h =
        let k = leb-true w (length s) q in
        let (x, p) = some_pair_parts _ _ _ _ h in
        let few = array_mono n 15 in
        let all = array_mono n 65535 (omega arith) in (
          by_eqb (λ (t : Bool). T t → length (array_header n) ≤ e) w 0
              (λ z r. let o : number (take w s) ≡ 0 = rw z in let m = few (omega (arith, leb→le f 15 r)) in omega arith) (λ _ r. omega (arith, leb→le 2 w r)) r,
          omega arith,
        )
    by_count w f r false q h = impossible (cc)

    by_start : (x : Start) → T (enough x) → counted x s ≡ Some (n, e) → (length (array_header n) ≤ e) × (e ≤ suc (length s))
    by_start (Some (w, f)) r h = by_count w f r (leb w (length s)) refl h
    by_start None r h = impossible (cc)

-- ---- what `fields_of` says

-- n values that fill s
record Filled (n : ℕ) (s : Bytes) (fs : Fields) : Type 0 where
  count : length fs ≡ n
  join : joined fs ≡ s
  whole : Each (value field_depth) fs

values-filled : (n : ℕ) (s : Bytes) (fs : Fields) → fields_filling n s ≡ some fs → Filled n s fs
unfolding fields_filling filling
values-filled n s fs h = go (items (value field_depth) n s) refl h
  where
    go : (r : Read) → items (value field_depth) n s ≡ r → filling r (length s) (pieces (value field_depth) n s) ≡ some fs → Filled n s fs
    go (Err p) e h = impossible (cc)
    go (Ok k) e h =
        let (t, q) = guarded (eqb k (length s)) (some (pieces (value field_depth) n s)) fs h in
        let p : pieces (value field_depth) n s ≡ fs = cc in
        let l : k ≡ length s = eqb-true k (length s) t in
        let (c, j) = pieces-joined (value field_depth) n s k e in
        subst (Filled n s) p (record { count = c; join = j ∙ (rw l (take-length s)); whole = pieces-each field_depth n s k e })

pub fields-legal : (t : Bytes) (fs : Fields) → fields_of t ≡ some fs → Legal fs
unfolding fields_of fields_by
fields-legal t fs h =
    let (b, e) = guarded (leb (length t) max_tuple) (fields_by (header array_by t) t) fs h in
    go (leb-true _ _ b) (header array_by t) refl e
  where
    go : length t ≤ max_tuple → (g : Header) → header array_by t ≡ g → fields_by g t ≡ some fs → Legal fs
    go l None q e = impossible (cc)
    go l (Some (n, k)) q e =
        let (b, v) = guarded (leb n max_fields) (fields_filling n (drop k t)) fs e in
        let f = values-filled n (drop k t) fs v in
        let few : n ≤ max_fields = leb-true _ _ b in
        let (s, i) = array-short t n k (omega arith) q in
        let j : length (joined fs) ≡ length t - k = ap length f.join ∙ length-drop k t in
        let p = plain-length fs in
        let c : length (array_header (length fs)) ≡ length (array_header n) = ap (λ (m : ℕ). length (array_header m)) f.count in
        record { fit = record { few = rw f.count few; short = omega arith }; whole = f.whole }

-- a tuple is within its limit, and its fields are no longer
pub fields-short : (t : Bytes) (fs : Fields) → fields_of t ≡ some fs → (length t ≤ max_tuple) × (length (joined fs) ≤ length t)
unfolding fields_of fields_by
fields-short t fs h =
    let (b, e) = guarded (leb (length t) max_tuple) (fields_by (header array_by t) t) fs h in
    (leb-true _ _ b, go (header array_by t) e)
  where
    go : (g : Header) → fields_by g t ≡ some fs → length (joined fs) ≤ length t
    go None e = impossible (cc)
    go (Some (n, k)) e =
        let (b, v) = guarded (leb n max_fields) (fields_filling n (drop k t)) fs e in
        let j : length (joined fs) ≡ length t - k = ap length (values-filled n (drop k t) fs v).join ∙ length-drop k t in
        omega arith

-- ---- a plain form is read as its fields

pub read_plain : (fs : Fields) → Legal fs → fields_of (plain fs) ≡ some fs
unfolding fields_of fields_by fields_filling filling
read_plain fs g =
    let h : header array_by (plain fs) ≡ Some (length fs, length (array_header (length fs))) = unfold plain in array-header-back (length fs) (joined fs) (omega arith) in
    let d : drop (length (array_header (length fs))) (plain fs) ≡ joined fs = unfold plain in drop-append_seam (array_header (length fs)) (joined fs) in
    let (i, p) = items-joined (value field_depth) (value_good field_depth) g.whole [] in
    rw (le-leb _ _ g.fit.short, h) (rw (le-leb _ _ g.fit.few, d) (filled i p))
  where
    filled : items (value field_depth) (length fs) (joined fs ++ []) ≡ Ok (length (joined fs)) → pieces (value field_depth) (length fs) (joined fs ++ []) ≡ fs → fields_filling (length fs) (joined fs) ≡ some fs
    filled i p = rw (rw append-nil at i, rw append-nil at p, eq-eqb (length (joined fs)) (length (joined fs)) refl)
