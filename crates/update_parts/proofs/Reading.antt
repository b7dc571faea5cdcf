-- What an operation is read from: each answer of the code is what the definition gets. Assumes nothing.
use Rattle.std.specs.Prelude.{Some, None, Ok, Err, Option}
use Rattle.std.specs.Result.{result_ok}
use Rattle.std.proofs.lemmas.Option.{some_pair_parts}
use mathlib.Core.Path.{◌≡◌, refl, sym, ap, ◌∙◌}
use mathlib.Core.Logic.{⊎_elim}
use mathlib.Core.List.{[], ◌∷◌}
use Prim.Native.Nat.{ℕ, suc, ◌+◌, ◌-◌, ◌<◌, ◌≤◌, min}
use native.Mathlib.Omega.{arith}
use borrow.Author.Tests.{le-leb, lt-leb, eq-eqb, ne_eqb}
use lib.Dec.{leb}
use lib.ListN.{length, take, drop, get_or, length-take, length-drop, drop_of_length-le}
use lib.Seq.{take_all, take-nil}
use Rattle.msgpack_first_bytes.specs.Bytes.{Bytes, pick}
use Rattle.msgpack_first_bytes.specs.FirstByte.{form_of}
use Rattle.msgpack_first_bytes.specs.declared.Kind.{Kind, TheVariants.Unsigned, TheVariants.Signed}
use Rattle.msgpack_first_bytes.specs.declared.Form.{Form}
use Rattle.msgpack_values.specs.Value.{shift, value, Read}
use Rattle.msgpack_values.proofs.Local.{value_good, value_pos}
use Rattle.msgpack_scalars.specs.Start.{scalar_of, string_by, array_by, Start}
use Rattle.msgpack_scalars.specs.Integer.{due_in, due, unsigned_by, unsigned, signed_by, signed, adding, integer, shift_integer, Due, Integer}
use Rattle.msgpack_scalars.specs.Header.{counted, header, shift_header, Header}
use Rattle.msgpack_first_bytes.proofs.Logic.{impossible, by_leb, either}
use Rattle.tuples.specs.Decoding.{value_from, any_value, integer_from, any_integer, string_from, string, count_from, count, mark}
use Rattle.update_parts.specs.Part.{part, signed_by as signedPart, natural_by, span_by}
use Rattle.msgpack_scalars.specs.declared.NoNumber.TheVariants.{Cut, Other}

-- k bytes from a place on, and what is left after them
ends : (l : Bytes) (at k : ℕ) → 1 ≤ k → k ≤ length (drop at l) → at + k ≡ length l - length (drop k (drop at l))
ends l at k h i = let m = simp length-drop at i in simp (length-drop, length-drop) (omega arith)

-- ---- an integer takes a byte at least, and n at most

abbrev DueFits : ℕ → Due → Type 0
DueFits n (Ok f) = 1 + f ≤ n
DueFits n (Err Cut) = Unit {0}
DueFits n (Err Other) = Unit {0}

due-fits : (k : Kind) (s : Bytes) → DueFits (length s) (due k s)
unfolding due due_in
due-fits k [] = tt
due-fits k (b ∷ s) = go (scalar_of k (form_of b))
  where
    go : (x : Start) → DueFits (suc (length s)) (due_in x s)
    go (Some (w, f)) = by_leb (DueFits (suc (length s))) f (length s) (λ h. omega arith) (λ _. tt)
    go None = tt

abbrev IntegerFits : ℕ → Integer → Type 0
IntegerFits n (Ok (z, e)) = (1 ≤ e) × (e ≤ n)
IntegerFits n (Err Cut) = Unit {0}
IntegerFits n (Err Other) = Unit {0}

integer-fits : (s : Bytes) → IntegerFits (length s) (integer s)
unfolding integer unsigned signed unsigned_by signed_by adding
integer-fits s = go (due Unsigned s) (due-fits Unsigned s) (due Signed s) (due-fits Signed s)
  where
    go : (u : Due) → DueFits (length s) u → (v : Due) → DueFits (length s) v → IntegerFits (length s) (adding (unsigned_by u s) (signed_by v s))
    go (Ok f) h v k = (omega arith, h)
    go (Err Cut) h v k = tt
    go (Err Other) h (Ok f) k = (omega arith, k)
    go (Err Other) h (Err Cut) k = tt
    go (Err Other) h (Err Other) k = tt

pub integer-at : (l : Bytes) (at : ℕ) {r : Integer} → r ≡ shift_integer at (integer (drop at l)) → result_ok r ≡ signedPart l (any_integer (drop at l))
unfolding any_integer integer_from
integer-at l at e = rw e (go (integer (drop at l)) (integer-fits (drop at l)))
  where
    go : (x : Integer) → IntegerFits (length (drop at l)) x → result_ok (shift_integer at x) ≡ signedPart l (integer_from x (drop at l))
    go (Ok (z, k)) h = ap (λ a. Some (z, a)) (ends l at k h.0 h.1)
    go (Err Cut) h = refl
    go (Err Other) h = refl

-- ---- a value

abbrev pub span_of : ℕ → Option ℕ → Option (ℕ × ℕ)
span_of at (Some e) = Some (at, e)
span_of at None = None

pub value-at : (l : Bytes) (at : ℕ) {r : Read} {o : Option ℕ} → r ≡ shift at (value 12 (drop at l)) → o ≡ result_ok r → span_of at o ≡ span_by l (any_value (drop at l))
unfolding any_value value_from
value-at l at e f = rw (f, e) (go (value 12 (drop at l)) refl)
  where
    go : (x : Read) → value 12 (drop at l) ≡ x → span_of at (result_ok (shift at x)) ≡ span_by l (value_from x (drop at l))
    go (Ok k) q =
        let g : k ≤ length (drop at l) = (value_good 12 (drop at l) k q).0 in
        let i = ends l at k (value_pos 12 (drop at l) k q) g in
        let m = length-take k (drop at l) in
        let j : at ≡ length l - length (drop k (drop at l)) - length (take k (drop at l)) = omega arith in
        cc
    go (Err p) q = refl

-- ---- a header takes a byte at least, and n at most

abbrev HeaderFits : ℕ → Header → Type 0
HeaderFits n (Some (m, e)) = (1 ≤ e) × (e ≤ n)
HeaderFits n None = Unit {0}

header-fits : (by : Form → Start) (s : Bytes) → HeaderFits (length s) (header by s)
unfolding header counted
header-fits by [] = tt
header-fits by (b ∷ s) = go (by (form_of b))
  where
    go : (x : Start) → HeaderFits (suc (length s)) (counted x s)
    go (Some (w, f)) = by_leb (HeaderFits (suc (length s))) w (length s) (λ h. (omega arith, omega arith)) (λ _. tt)
    go None = tt

pub count_at : (l : Bytes) (at : ℕ) {r : Header} → r ≡ shift_header at (header array_by (drop at l)) → r ≡ natural_by l (count (drop at l))
unfolding count count_from
count_at l at e = rw e (go (header array_by (drop at l)) (header-fits array_by (drop at l)))
  where
    go : (x : Header) → HeaderFits (length (drop at l)) x → shift_header at x ≡ natural_by l (count_from x (drop at l))
    go (Some (n, k)) h = ap (λ a. Some (n, a)) (ends l at k h.0 h.1)
    go None h = refl

-- ---- a string, by its header and by whether its bytes have all come

abbrev pub string_of : Bytes → Header → Option (ℕ × ℕ)
string_of l (Some (n, e)) = pick (leb n (length l - e)) (Some (e, e + n)) None
string_of l None = None

module _ (l : Bytes) (at : ℕ) {r : Header} (q : r ≡ shift_header at (header string_by (drop at l))) where
  -- its header lies within the bytes
  pub string-start : {n e : ℕ} → r ≡ Some (n, e) → e ≤ length l
  string-start {n} {e} i = go (header string_by (drop at l)) (header-fits string_by (drop at l)) (sym i ∙ q)
    where
      go : (x : Header) → HeaderFits (length (drop at l)) x → Some (n, e) ≡ shift_header at x → e ≤ length l
      go (Some (m, k)) f h = let o = simp length-drop at f.1 in omega (arith, f.0, (some_pair_parts _ _ _ _ h).1)
      go None f h = impossible cc

  pub string-at : string_of l r ≡ span_by l (string (drop at l))
  unfolding string string_from
  string-at = rw q (go (header string_by (drop at l)) (header-fits string_by (drop at l)))
    where
      go : (x : Header) → HeaderFits (length (drop at l)) x → string_of l (shift_header at x) ≡ span_by l (string_from x (drop at l))
      go (Some (n, k)) f =
          let o = simp length-drop at f.1 in
          let h = f.0 in
          ⊎_elim
          (λ (i : n ≤ length l - (at + k)).
          let t : k + n ≤ length (drop at l) = simp length-drop (omega arith) in
          let d : at + k + n ≡ length l - length (drop (k + n) (drop at l)) = simp (length-drop, length-drop) (omega arith) in
          let m : length (take n (drop k (drop at l))) ≡ n = simp (length-take, length-drop, length-drop) (omega arith) in
          let j : at + k ≡ length l - length (drop (k + n) (drop at l)) - length (take n (drop k (drop at l))) = omega arith in
          rw (le-leb n (length l - (at + k)) i, le-leb (k + n) (length (drop at l)) t) (cc))
          (λ (i : length l - (at + k) < n).
          let t : length (drop at l) < k + n = simp length-drop (omega arith) in
          rw (lt-leb n (length l - (at + k)) i, lt-leb (k + n) (length (drop at l)) t))
          (either n (length l - (at + k)))
      go None f = refl

-- ---- a mark, by the bytes r from its place on

module _ (l : Bytes) (at : ℕ) {r : Bytes} (q : r ≡ drop at l) where
  pub mark-cut : length r < 2 → None ≡ natural_by l (mark (drop at l))
  unfolding mark
  mark-cut h = rw (← q) (go r h)
    where
      go : (s : Bytes) → length s < 2 → None ≡ natural_by l (mark s)
      go [] h = refl
      go (a ∷ []) h = refl
      go (a ∷ c ∷ s) h = absurd (omega arith)

  pub mark_other : (get_or r 0 0 ≡ 0xa1 → ⊥) → None ≡ natural_by l (mark (drop at l))
  unfolding mark
  mark_other h = rw (← q) (go r h)
    where
      go : (s : Bytes) → (get_or s 0 0 ≡ 0xa1 → ⊥) → None ≡ natural_by l (mark s)
      go [] h = refl
      go (a ∷ []) h = refl
      go (a ∷ c ∷ s) h = rw (ne_eqb a 0xa1 h)

  pub mark-is : 2 ≤ length r → get_or r 0 0 ≡ 0xa1 → Some (get_or r 1 0, at + 2) ≡ natural_by l (mark (drop at l))
  unfolding mark
  mark-is h k = rw (← q) (go r h k (ap length q ∙ length-drop at l))
    where
      go : (s : Bytes) → 2 ≤ length s → get_or s 0 0 ≡ 0xa1 → length s ≡ length l - at → Some (get_or s 1 0, at + 2) ≡ natural_by l (mark s)
      go [] h k d = absurd (omega arith)
      go (a ∷ []) h k d = absurd (omega arith)
      go (a ∷ c ∷ s) h k d = rw (eq-eqb a 0xa1 k) (ap (λ e. Some (c, e)) (omega arith))

-- ---- bytes from a place up to another, held to the end

pub clamped : (l : Bytes) (a e : ℕ) (f t : ℕ) → t ≡ min e (length l) → f ≡ min a t → part f t l ≡ part a e l
clamped l a e f t i j = ⊎_elim all past (either e (length l))
  where
    none_left : t ≤ a → e ≤ a → part f t l ≡ part a e l
    none_left h k =
        let m : t - f ≡ 0 = omega arith in
        let n : e - a ≡ 0 = omega arith in
        rw (m, n)

    all : e ≤ length l → part f t l ≡ part a e l
    all h =
        let m : t ≡ e = omega arith in
        ⊎_elim (λ (k : a ≤ e). let n : f ≡ a = omega arith in rw (m, n)) (λ (k : e < a). none_left (omega arith) (omega arith)) (either a e)

    past : length l < e → part f t l ≡ part a e l
    past h =
        let m : t ≡ length l = omega arith in
        ⊎_elim
        (λ (k : a ≤ length l).
        let n : f ≡ a = omega arith in
        let d : length (drop a l) ≤ t - a = rw length-drop (omega arith) in
        let g : length (drop a l) ≤ e - a = rw length-drop (omega arith) in
        rw n (take_all (t - a) (drop a l) d ∙ sym (take_all (e - a) (drop a l) g)))
        (λ (k : length l < a).
        let n : t - f ≡ 0 = omega arith in
        rw (n, drop_of_length-le l {i = a} (omega arith), take-nil))
        (either a (length l))
