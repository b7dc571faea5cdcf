-- A field altered alone, as the edit of a tuple, and as the answer; and what is made in the free bytes alone. Assumes nothing.
use Rattle.std.specs.Prelude.{Ok, Err, IfOk}
use mathlib.Core.Path.{◌≡◌, refl, sym, ap, ◌∙◌}
use mathlib.Core.Bool.{true, false}
use mathlib.Core.List.{[], ◌∷◌, ◌++◌}
use mathlib.Core.Logic.{◌⊎◌, inl, inr, ⊎_elim}
use mathlib.Core.Option.{Option, none, some}
use Prim.Native.Nat.{ℕ, ◌+◌, ◌-◌, ◌<◌, ◌≤◌, min}
use native.Mathlib.Omega.{arith}
use borrow.Author.Tests.{le-leb, lt-leb, lt-ltb, le-ltb}
use lib.Dec.{leb}
use lib.ListN.{length, take, drop, get_or, length-drop, take-append-drop}
use lib.Seq.{drop-drop, take-length, take_all}
use Rattle.msgpack_first_bytes.specs.Bytes.{Bytes, pick}
use Rattle.msgpack_first_bytes.proofs.Logic.{either}
use Rattle.msgpack_writing.specs.Put.{next, Writes}
use Rattle.msgpack_writing.specs.Put as Writing
use Rattle.msgpack_writing.proofs.Put.{refused}
use Rattle.tuples.specs.Limits.{max_tuple}
use Rattle.tuples.specs.Tuple.{Fields}
use Rattle.tuples.specs.Decoding.{Got, fails, gets, Decoder}
use Rattle.tuples.specs.Edit.{Edit, refuse, put, add, cut, became, suited, altered, edit_at}
use Rattle.tuples.specs.declared.Refusal.{Refusal, TheVariants.NoField, TheVariants.Unsuited, TheVariants.OutOfRange, TheVariants.TooLarge}
use Rattle.update_operations.specs.Found.{change_in}
use Rattle.update_operations.specs.declared.Bitwise.{TheVariants.And, TheVariants.Xor, TheVariants.Or}
use Rattle.update_operations.specs.declared.Change.{Change, TheVariants.Sum, TheVariants.Bits, TheVariants.Splice}
use Rattle.update_places.specs.Place.{start_of, length_of, bytes_from, bytes_at}
use Rattle.update_altering.specs.Altering.{changed, Alters, Altered, altered_by, work_by}
use Rattle.update_altering.specs.declared.Obstacle.TheVariants.{Full, Refused}

-- ---- the edit of the field alone, as that of field f

abbrev pub moved : ℕ → Edit → Edit
moved f (refuse k) = refuse k
moved f (put g b) = put f b
moved f (add g b) = add f b
moved f (cut g m) = cut f m

abbrev pub Puts : Edit → Type 0
Puts e = ((k : Refusal) × (e ≡ refuse k)) ⊎ ((b : Bytes) × (e ≡ put 0 b))

-- what an edit of field f of t is, that the field alone decides
record Moves (f : ℕ) (t : Fields) (edit : ℕ → Fields → Edit) : Type 0 where
  here : f < length t → edit f t ≡ moved f (edit 0 (get_or t f [] ∷ []))
  past : length t ≤ f → edit f t ≡ refuse NoField
  puts : (field : Bytes) → Puts (edit 0 (field ∷ []))

module _ {A : Type 0} (read : Decoder A) (change : A → Option Bytes) (f : ℕ) (t : Fields) where
  altered_moves : Moves f t (altered read change)
  unfolding altered suited became
  altered_moves =
      record {
        here = λ h. rw (lt-ltb f (length t) h) (go (read (get_or t f [])));
        past = λ h. rw (le-ltb f (length t) h);
        puts = λ field. only (read field);
      }
    where
      made : (o : Option Bytes) → became f o ≡ moved f (became 0 o)
      made none = refl
      made (some b) = refl

      go : (g : Got A) → suited f g change ≡ moved f (suited 0 g change)
      go fails = refl
      go (gets a s) = made (change a)

      came : (o : Option Bytes) → Puts (became 0 o)
      came none = inl (OutOfRange, refl)
      came (some b) = inr (b, refl)

      only : (g : Got A) → Puts (suited 0 g change)
      only fails = inl (Unsuited, refl)
      only (gets a s) = came (change a)

module _ (l : Bytes) (e f : ℕ) (t : Fields) where
  moves : (x : Change) → Moves f t (edit_at (change_in l x e))
  unfolding edit_at
  moves (Sum true v) = altered_moves _ _ f t
  moves (Sum false v) = altered_moves _ _ f t
  moves (Bits And v) = altered_moves _ _ f t
  moves (Bits Xor v) = altered_moves _ _ f t
  moves (Bits Or v) = altered_moves _ _ f t
  moves (Splice p k a) = altered_moves _ _ f t

  -- what a change makes of the field alone, it makes of field f
  pub edit_moves : (x : Change) → f < length t → edit_at (change_in l x e) f t ≡ moved f (changed l x e (get_or t f []))
  unfolding changed
  edit_moves x = (moves x).here

  pub edit_past : (x : Change) → length t ≤ f → edit_at (change_in l x e) f t ≡ refuse NoField
  edit_past x = (moves x).past

pub only_puts : (l : Bytes) (x : Change) (e : ℕ) (field : Bytes) → Puts (changed l x e field)
unfolding changed
only_puts l x e field = (moves l e 0 [] x).puts field

-- ---- a new field's answer

module _ (b work : Bytes) (used : ℕ) where
  pub put_large : max_tuple < length b → Alters (put 0 b) used (Err (Refused TooLarge)) work work
  put_large h = rw (lt-leb (length b) max_tuple h) (refl, refl)

  module _ (h : length b ≤ max_tuple) where
    pub put_full : length work < used + length b → Alters (put 0 b) used (Err Full) work work
    put_full k = rw (le-leb (length b) max_tuple h, lt-leb (used + length b) (length work) k) (refl, (refused work used b k).1)

    pub put_is : used + length b ≤ length work → {r : ℕ} {left : Bytes} → Writes used b r work left → Alters (put 0 b) used (Ok r) work left
    unfolding next
    put_is k w = rw (le-leb (length b) max_tuple h, le-leb (used + length b) (length work) k) (ap Ok (w.0 ∙ rw (le-leb (used + length b) (length work) k)), w.1)

-- ---- what is made in the free bytes alone, is made behind those in use

abbrev pub behind : ℕ → Altered → Altered
behind used (Ok e) = Ok (used + e)
behind used (Err o) = Err o

module _ (used : ℕ) (work : Bytes) where
  abbrev taken : ℕ
  taken = min used (length work)

  -- an edit that is made in the free bytes, and what it leaves of them
  pub lifted : (e : Edit) {free left : Bytes} {r : Altered} → free ≡ drop taken work → Alters e 0 r free left → IfOk r (λ n. 0 < n)
      → Alters e used (behind used r) work (take taken work ++ left)
  unfolding Writing.put
  lifted e {free} {left} {r} f h s = rw (h.0, h.1, f) (go e (rw (h.0, f) at s))
    where
      rest : take taken work ++ drop taken work ≡ work
      rest = take-append-drop taken work

      made : (b : Bytes) → IfOk (pick (leb (0 + length b) (length (drop taken work))) (Ok (0 + length b)) (Err Full)) (λ n. 0 < n)
          → (behind used (pick (leb (0 + length b) (length (drop taken work))) (Ok (0 + length b)) (Err Full)) ≡ pick (leb (used + length b) (length work)) (Ok (used + length b)) (Err Full))
          × (take taken work ++ Writing.put 0 b (drop taken work) ≡ Writing.put used b work)
      made b s =
          let l : length (drop taken work) ≡ length work - taken = length-drop taken work in
          ⊎_elim
          (λ (k : 0 + length b ≤ length (drop taken work)).
          let some : 0 < 0 + length b = rw (le-leb (0 + length b) (length (drop taken work)) k) at s in
          let i : taken ≡ used = omega arith in
          let j : used + (0 + length b) ≡ used + length b = omega arith in
          let d : drop (0 + length b) (drop used work) ≡ drop (used + length b) work = drop-drop (0 + length b) used work ∙ ap (λ (x : ℕ). drop x work) j in
          rw (le-leb (0 + length b) (length (drop taken work)) k, i, d, j, le-leb (used + length b) (length work) (omega arith)) (refl, refl))
          (λ (k : length (drop taken work) < 0 + length b).
          rw (lt-leb (0 + length b) (length (drop taken work)) k, rest, lt-leb (used + length b) (length work) (omega arith)) (refl, refl))
          (either (0 + length b) (length (drop taken work)))

      go : (e : Edit) → IfOk (altered_by e 0 (drop taken work)) (λ n. 0 < n) → Alters e used (behind used (altered_by e 0 (drop taken work))) work (take taken work ++ work_by e 0 (drop taken work))
      go (refuse k) s = (refl, rest)
      go (add g b) s = (refl, rest)
      go (cut g m) s = (refl, rest)
      go (put g b) s =
          ⊎_elim (λ (m : length b ≤ max_tuple). rw (le-leb (length b) max_tuple m) (made b (rw (le-leb (length b) max_tuple m) at s)))
          (λ (m : max_tuple < length b). rw (lt-leb (length b) max_tuple m) (refl, rest))
          (either (length b) max_tuple)

-- bytes in use that are past the end are none
take_most : (used : ℕ) (work : Bytes) → take (min used (length work)) work ≡ take used work
take_most used work =
    ⊎_elim (λ (h : used ≤ length work). let e : min used (length work) ≡ used = omega arith in rw e)
    (λ (h : length work < used). let e : min used (length work) ≡ length work = omega arith in rw e (take-length work ∙ sym (take_all used work (omega arith))))
    (either used (length work))

-- a change of the field at a place, which was read in the bytes in use
module _ (t l work : Bytes) (used old e : ℕ) (x : Change) {at size u : ℕ} {front back : Bytes}
    (i : at ≡ start_of old) (j : size ≡ length_of old) (m : u ≡ min used (length work)) (f : front ≡ take u work) (b : back ≡ drop u work) where
  pub at_place : {r : Altered} {left : Bytes} → Alters (changed l x e (bytes_from t l front at size)) 0 r back left → IfOk r (λ n. 0 < n)
      → Alters (changed l x e (bytes_at t l (take used work) old)) used (behind used r) work (front ++ left)
  unfolding bytes_at
  at_place h s =
      let q : front ≡ take (min used (length work)) work = f ∙ ap (λ (n : ℕ). take n work) m in
      let p : front ≡ take used work = q ∙ take_most used work in
      let g = lifted used work (changed l x e (bytes_from t l front at size)) (b ∙ ap (λ (n : ℕ). drop n work) m) h s in
      rw (← i, ← j, ← p) (rw (← q) at g)
