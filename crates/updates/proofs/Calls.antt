-- From what a list came to, to what the calls show. Assumes nothing.
use Rattle.std.specs.Prelude.{Some, None, Ok, Err, unwrap_or, Option as Either}
use mathlib.Core.Path.{◌≡◌, refl, sym, ap, ◌∙◌, subst}
use mathlib.Core.Bool.{true}
use mathlib.Core.Logic.{◌⊎◌, inl, inr, ⊎_elim}
use mathlib.Core.List.{List, []}
use mathlib.Core.Option.{Option, none, some}
use Prim.Native.Nat.{ℕ, ◌<◌, ◌≤◌}
use native.Mathlib.Omega.{arith}
use native.Mathlib.Nat.{sub-zero}
use borrow.Author.Tests.{le-leb, lt-leb}
use lib.Dec.{eqb}
use lib.ListN.{length, take, drop, length-append, length-drop}
use lib.Seq.{take_at}
use Rattle.msgpack_first_bytes.specs.Bytes.{Bytes}
use Rattle.msgpack_first_bytes.proofs.Logic.{impossible}
use Rattle.msgpack_values.specs.Spoiled.{no_place}
use Rattle.tuples.specs.Limits.{max_tuple, max_operations, max_list}
use Rattle.tuples.specs.Tuple.{Fields, plain, fields_of}
use Rattle.tuples.specs.Operation.{Operation, operations_of}
use Rattle.tuples.specs.Edit.{Run, refused, done, run, plans}
use Rattle.tuples.specs.Call.{number_of, Outcome, bytes, judged, on_run, update_of, undo_list_of, limited_list, update, undo, Result, refusing, writing, delivered, spoiled_in, with_place}
use Rattle.tuples.specs.Press.{pressing, press, PressResult, declining, pressed, placed, press_call}
use Rattle.tuples.specs.declared.Refusal.{Refusal, TheVariants.LongUndo, TheVariants.BadTuple}
use Rattle.tuples.proofs.Calls.{numbered}
use Rattle.tuples.proofs.Decode.{list_fine}
use Rattle.tuples.proofs.Sound.{plans-sound}
use Rattle.tuples.proofs.Taking.{run_undone}
use Rattle.tuples.proofs.Tuple.{fields-legal}
use Rattle.update_answers.specs.Seen.{seen, press_seen}
use Rattle.update_operations.specs.Listing.{front}
use Rattle.update_operations.proofs.Listing.{good, bad}
use Rattle.update_running.specs.Carrying.{Came, stops, makes, came_by, comes_to, takes_back, rest_of, table_room, work_room}
use Rattle.msgpack_writing.specs.Put.{next}
use Rattle.msgpack_writing.specs.Put as Writing
use Rattle.msgpack_writing.proofs.Put.{wrote, through}
use Rattle.update_delivering.specs.Delivering.{Rebased, call_failed, update_by, undo_by, long_by, both_written, Lacks, TriesUpdate, TriesUndo, TriesPress, Tried, Pressed}
use Rattle.updates.specs.Telling.{Call, Fronts, came_of, Tells, Told, ToldOrLong, PressTells, PressToldOrLong, Refuses, answer_by, FewIn, press_answer_by}
use Rattle.tuples.specs.declared.Answer.{Answer}
use Rattle.update_delivering.specs.declared.Failed.{Failed}
use Rattle.update_delivering.specs.declared.Failed.TheVariants.{NoRoom, Refused}
use Rattle.update_delivering.specs.declared.Unwritten.TheVariants.{Moved, NoRoom as NoRoomYet, Refused as RefusedYet}

-- ---- the front of a list

pub front_is : (base : ℕ) (l : Bytes) {r : Either (ℕ × ℕ)} → r ≡ front base l → {f : ℕ × ℕ} → f ≡ unwrap_or r (65, 0) → Fronts base l f.0 f.1
unfolding rest_of
front_is base l {r = None} h q = rw q (sym (bad base l h refl))
front_is base l {r = Some (n, e)} h q = let j = good base l h refl in rw (q, le-leb n max_operations j.few, le-leb (length l) max_list j.short, sub-zero) (sym j.all)

-- ---- the definitions' outcomes

module _ (t l : Bytes) (b : ℕ) where
  pub update-came : update t l b ≡ update_by (came_of t l b)
  unfolding update judged update_of on_run comes_to
  update-came = go (fields_of t) (operations_of b l)
    where
      by_run : (r : Run) → on_run r (λ u. bytes (plain u)) ≡ update_by (came_by r)
      by_run (refused k i) = refl
      by_run (done u) = refl

      go : (T : Option Fields) (O : Option (List Operation)) → judged T O update_of ≡ update_by (comes_to 0 T O)
      go none O = refl
      go (some f) none = refl
      go (some f) (some os) = by_run (run 0 (plans os) f)

  pub undo-came : undo t l b ≡ undo_by (came_of t l b) (takes_back (fields_of t) (operations_of b l))
  unfolding undo judged undo_list_of on_run comes_to takes_back
  undo-came = go (fields_of t) (operations_of b l)
    where
      by_run : (r : Run) (us : List Bytes) → on_run r (λ u. limited_list us) ≡ undo_by (came_by r) us
      by_run (refused k i) us = refl
      by_run (done u) us = refl

      go : (T : Option Fields) (O : Option (List Operation)) → judged T O undo_list_of ≡ undo_by (comes_to 0 T O) (takes_back T O)
      go none O = refl
      go (some f) none = refl
      go (some f) (some os) = by_run (run 0 (plans os) f) _

  -- what is made is a tuple within the limits
  pub made-short : {u : Fields} → came_of t l b ≡ makes u → length (plain u) ≤ max_tuple
  unfolding comes_to
  made-short {u} e = go (fields_of t) (operations_of b l) refl refl e
    where
      by_run : (f : Fields) (os : List Operation) → fields_of t ≡ some f → operations_of b l ≡ some os → (r : Run) → run 0 (plans os) f ≡ r → came_by r ≡ makes u → length (plain u) ≤ max_tuple
      by_run f os p q (refused k i) g e = impossible (cc)
      by_run f os p q (done v) g e =
          let d : v ≡ u = cc in
          subst (λ (x : Fields). length (plain x) ≤ max_tuple) d (run_undone (plans os) f v 0 (plans-sound (list_fine b l os q)) (fields-legal t f p) g).legal.fit.short

      go : (T : Option Fields) (O : Option (List Operation)) → fields_of t ≡ T → operations_of b l ≡ O → comes_to 0 T O ≡ makes u → length (plain u) ≤ max_tuple
      go none O p q e = impossible (cc)
      go (some f) none p q e = impossible (cc)
      go (some f) (some os) p q e = by_run f os p q (run 0 (plans os) f) refl e

-- ---- what was tried, told

abbrev pub told_by : Tried → Call
told_by (Err u) = Err (call_failed u)
told_by (Ok n) = Ok n

module _ (t l : Bytes) (b : ℕ) (count start : ℕ) (F : Fronts b l count start) (out left : Bytes) where
  abbrev came : Came
  came = comes_to 0 (fields_of t) (rest_of b count 0 start l)

  came-is : came ≡ came_of t l b
  came-is = ap (comes_to 0 (fields_of t)) F

  updates_as : delivered (update_by came) out ≡ delivered (update t l b) out
  updates_as = ap (λ (c : Came). delivered (update_by c) out) came-is ∙ ap (λ (o : Outcome). delivered o out) (sym (update-came t l b))

  pub told-update : (r : Tried) (spare spare' work : Bytes) (table : List ℕ) → TriesUpdate r came l out left spare spare' work table b count 0 → Tells (told_by r) (update t l b) out left
  told-update (Err NoRoomYet) spare spare' work table h = h.0
  told-update (Err (Moved n at i)) spare spare' work table h = h.0
  told-update (Err (RefusedYet k i)) spare spare' work table h = (h.0 ∙ updates_as, h.2)
  told-update (Ok n) spare spare' work table h = h.0 ∙ updates_as

  abbrev taken : List Bytes
  taken = takes_back (fields_of t) (rest_of b count 0 start l)

  undo-is : undo_by came taken ≡ undo t l b
  undo-is = ap (λ (O : Option (List Operation)). undo_by (comes_to 0 (fields_of t) O) (takes_back (fields_of t) O)) F ∙ sym (undo-came t l b)

  undo_as : delivered (undo_by came taken) out ≡ delivered (undo t l b) out
  undo_as = ap (λ (o : Outcome). delivered o out) undo-is

  pub told-undo : (r : Call) (work : Bytes) (table : List ℕ) → TriesUndo r came taken out left work table → Tells r (undo t l b) out left
  told-undo (Err NoRoom) work table h = h.0
  told-undo (Err (Refused k i)) work table h = (h.0 ∙ undo_as, h.1)
  told-undo (Ok n) work table h = h ∙ undo_as

  -- in the longest arrays
  long_as : (work : Bytes) (table : List ℕ) → table_room ≤ length table → length work ≡ work_room → Lacks table work ⊎ (length work < work_room) ⊎ (undo_by came taken ≡ long_by came) → undo t l b ≡ long_by (came_of t l b)
  long_as work table h k (inl (inl a)) = absurd (omega arith)
  long_as work table h k (inl (inr a)) = absurd (omega arith)
  long_as work table h k (inr (inl a)) = absurd (omega arith)
  long_as work table h k (inr (inr a)) = sym undo-is ∙ a ∙ ap long_by came-is

  pub told-long : (r : Call) (work : Bytes) (table : List ℕ) → table_room ≤ length table → length work ≡ work_room → TriesUndo r came taken out left work table
      → ToldOrLong r (undo t l b) (came_of t l b) out left
  told-long (Err NoRoom) work table h k s = (s.0, long_as work table h k s.1)
  told-long (Err (Refused k' i)) work table h k s = (s.0 ∙ undo_as, s.1)
  told-long (Ok n) work table h k s = s ∙ undo_as

  module _ (un undone : Bytes) where
    press_as : pressed (pressing (update_by came) (undo_by came taken)) out un ≡ pressed (press t l b) out un
    unfolding press
    press_as = ap (λ (o : Outcome). pressed (pressing (update_by came) o) out un) undo-is ∙ ap (λ (o : Outcome). pressed (pressing o (undo t l b)) out un) (ap update_by came-is ∙ sym (update-came t l b))

    pub told-press : (r : Pressed) (work : Bytes) (table : List ℕ) → TriesPress r came taken out left un undone work table → PressTells r (press t l b) out left un undone
    told-press (Err NoRoom) work table s = (s.0, s.1)
    told-press (Err (Refused k i)) work table s = (s.0 ∙ press_as, s.1)
    told-press (Ok (n, m)) work table s = s ∙ press_as

    pub told-long-press : (r : Pressed) (work : Bytes) (table : List ℕ) → table_room ≤ length table → length work ≡ work_room → TriesPress r came taken out left un undone work table
        → PressToldOrLong r (press t l b) (undo t l b) (came_of t l b) out left un undone
    told-long-press (Err NoRoom) work table h k s = (s.0, s.1, long_as work table h k s.2)
    told-long-press (Err (Refused k' i)) work table h k s = (s.0 ∙ press_as, s.1)
    told-long-press (Ok (n, m)) work table h k s = s ∙ press_as

-- ---- answers

module _ {r : Call} {e : Failed} (p : r ≡ Err e) where
  pub few_in : {k : Refusal} {i : ℕ} → e ≡ Refused k i → FewIn r → i ≤ max_operations
  few_in q h = subst FewIn (p ∙ ap (λ (x : Failed). Err x) q) h

  pub answer_failed : (t l : Bytes) {f : Failed} → e ≡ f → {a : Answer} → a ≡ answer_by (Err f) t l → a ≡ answer_by r t l
  answer_failed t l q h = h ∙ ap (λ (x : Call). answer_by x t l) (sym (p ∙ ap (λ (x : Failed). Err x) q))

pub told-few : (r : Call) (o : Outcome) (out left : Bytes) → Told r o out left → FewIn r
told-few (Err NoRoom) o out left h = tt
told-few (Err (Refused k i)) o out left h = h.1
told-few (Ok n) o out left h = tt

module _ (t l : Bytes) where
  pub answers : (r : Call) (o : Outcome) (out left : Bytes) → Told r o out left → seen (answer_by r t l) left ≡ with_place t l (delivered o out)
  unfolding with_place refusing spoiled_in
  answers (Err NoRoom) o out left h = absurd h
  answers (Err (Refused k i)) o out left h = ap (with_place t l) h.0
  answers (Ok n) o out left h = ap (with_place t l) h

-- a refusal, in any buffer
rebuffer : Bytes → Result → Result
rebuffer out r = record { number = r.number; operation = r.operation; length = 0; place = no_place; buffer = out }

redecline : Bytes → Bytes → Result → PressResult
redecline out un r = record { number = r.number; operation = r.operation; length = 0; undo_length = 0; place = no_place; buffer = out; undo_buffer = un }

never : {A : Type 0} (k : Refusal) → number_of k ≡ 0 → A
never k e = let n : eqb (number_of k) 0 ≡ true = rw e in impossible (let f = numbered k in cc)

-- ---- where 17 is due, if nothing is refused before

abbrev pub judged_by : Call → Call
judged_by (Err NoRoom) = Err (Refused LongUndo 0)
judged_by (Err (Refused k i)) = Err (Refused k i)
judged_by (Ok n) = Err (Refused LongUndo 0)

module _ (t l : Bytes) (b : ℕ) where
  pub judges : (r : Call) (out left : Bytes) → length out ≡ max_tuple → Told r (update t l b) out left → Refuses (judged_by r) (long_by (came_of t l b))
  unfolding delivered refusing writing rebuffer
  judges r out left e h = go (came_of t l b) refl r (told r h)
    where
      told : (r : Call) → Told r (update t l b) out left → Told r (update_by (came_of t l b)) out left
      told r h = subst (λ (o : Outcome). Told r o out left) (update-came t l b) h

      go : (c : Came) → came_of t l b ≡ c → (r : Call) → Told r (update_by c) out left → Refuses (judged_by r) (long_by c)
      go c q (Err NoRoom) h = absurd h
      go (stops k' i') q (Err (Refused k i)) h = (λ o. ap (rebuffer o) h.0, h.1)
      go (stops k' i') q (Ok n) h = never k' (sym (ap (λ (r : Result). r.number) h))
      go (makes u) q (Err (Refused k i)) h =
          let f : length (plain u) ≤ length out = let m = made-short t l b q in omega arith in
          never k (ap (λ (r : Result). r.number) (rw (le-leb (length (plain u)) (length out) f) at h.0))
      go (makes u) q (Ok n) h = (λ o. refl, omega arith)

  pub answers-long : (r : Call) (o : Outcome) (out left : Bytes) → left ≡ out → o ≡ long_by (came_of t l b) → Refuses r (long_by (came_of t l b)) → seen (answer_by r t l) left ≡ with_place t l (delivered o out)
  unfolding with_place refusing spoiled_in
  answers-long (Err NoRoom) o out left e f h = absurd h
  answers-long (Err (Refused k i)) o out left e f h = rw (e, f) (ap (with_place t l) (h.0 out))
  answers-long (Ok n) o out left e f h = absurd h

  pub refuses_few : (r : Call) (o : Outcome) → Refuses r o → FewIn r
  refuses_few (Err NoRoom) o h = tt
  refuses_few (Err (Refused k i)) o h = h.1
  refuses_few (Ok n) o h = tt

  module _ (out un : Bytes) where
    pub press-both : (n m : ℕ) (left undone : Bytes) → both_written n m left undone ≡ pressed (press t l b) out un
        → press_seen (press_answer_by (answer_by (Ok n) t l) m) left undone ≡ press_call t l b out un
    unfolding press_call placed spoiled_in
    press-both n m left undone h = ap (placed t l) h

    pub press-declined : (k : Refusal) (i : ℕ) (left undone : Bytes) → declining k i left undone ≡ pressed (press t l b) out un
        → press_seen (press_answer_by (answer_by (Err (Refused k i)) t l) 0) left undone ≡ press_call t l b out un
    unfolding press_call placed declining
    press-declined k i left undone h = ap (placed t l) h

    pub press-long : (r : Call) (left undone : Bytes) → left ≡ out → undone ≡ un → undo t l b ≡ long_by (came_of t l b) → Refuses r (long_by (came_of t l b))
        → press_seen (press_answer_by (answer_by r t l) 0) left undone ≡ press_call t l b out un
    unfolding declining pressed pressing press delivered refusing redecline
    press-long (Err NoRoom) left undone e f g h = absurd h
    press-long (Ok n) left undone e f g h = absurd h
    press-long (Err (Refused k i)) left undone e f g h =
        press-declined k i left undone (rw (e, f) (go (came_of t l b) (h.0 []) ∙ ap (λ (o : Outcome). pressed (pressing o (long_by (came_of t l b))) out un) (sym (update-came t l b))
        ∙ ap (λ (o : Outcome). pressed (pressing (update t l b) o) out un) (sym g)))
      where
        go : (c : Came) → refusing k i [] ≡ delivered (long_by c) [] → declining k i out un ≡ pressed (pressing (update_by c) (long_by c)) out un
        go (stops k' i') h = ap (redecline out un) h
        go (makes u) h = ap (redecline out un) h

-- ---- the run goes on from a tuple

module _ (one piece : Bytes) {r : ℕ} {one' : Bytes} (h : (r ≡ next 0 piece one) × (one' ≡ Writing.put 0 piece one)) (k : length piece ≤ length one) where
  pub stands : (r ≡ length piece) × ((take r one' ≡ piece) × (length one' ≡ length one))
  stands =
      let w = wrote one 0 piece h (omega arith) in
      let e : r ≡ length piece = let a = w.end in omega arith in
      let f : take r one' ≡ piece = through w in
      (e, (f, w.long))

pub rebased : {c : Came} {l work spare spare' : Bytes} {base n first k at i : ℕ} → Rebased c l work spare spare' base n first k at i
    → (one : Bytes) {r : ℕ} {one' : Bytes} → (r ≡ next 0 (take k spare') one) × (one' ≡ Writing.put 0 (take k spare') one) → max_tuple ≤ length one → length spare ≡ max_tuple
    → (comes_to i (fields_of (take r one')) (rest_of base n i at l) ≡ c) × ((r ≤ length one') × (length one' ≡ length one))
rebased {c} {l} {work} {spare} {spare'} {base} {n} {first} {k} {at} {i} R one {r} {one'} h m e =
    let p : take k spare' ≡ plain R.fields = ap (take k) R.buffer ∙ take_at (plain R.fields) (drop (length (plain R.fields)) spare) k (sym R.long) in
    let L : length (take k spare') ≤ length one = let a = ap length p in let b = R.short in omega arith in
    let s = stands one (take k spare') h L in (
      ap (λ (x : Bytes). comes_to i (fields_of x) (rest_of base n i at l)) (s.1.0 ∙ p) ∙ ap (λ (x : Option Fields). comes_to i x (rest_of base n i at l)) R.read ∙ sym R.goes,
      (let a = s.0 in let b = s.1.1 in omega arith, s.1.1),
    )

pub long-tuple : (t l : Bytes) (b : ℕ) (out : Bytes) → max_tuple < length t → Told (Err (Refused BadTuple 0)) (update t l b) out out
unfolding comes_to fields_of delivered
long-tuple t l b out h = (sym (ap (λ (o : Outcome). delivered o out) (update-came t l b) ∙ rw (lt-leb (length t) max_tuple h)), omega arith)

pub first_turn : (t l : Bytes) (b : ℕ) (count start : ℕ) → Fronts b l count start → (one : Bytes) {r : ℕ} {one' : Bytes} → (r ≡ next 0 t one) × (one' ≡ Writing.put 0 t one) → length t ≤ length one
    → (comes_to 0 (fields_of (take r one')) (rest_of b count 0 start l) ≡ came_of t l b) × ((r ≤ length one) × (length one' ≡ length one))
first_turn t l b count start F one h k =
    let s = stands one t h k in
    (ap (λ (x : Bytes). comes_to 0 (fields_of x) (rest_of b count 0 start l)) s.1.0 ∙ ap (comes_to 0 (fields_of t)) F, (let a = s.0 in omega arith, s.1.1))

-- a run that goes on tells of the whole
module _ (t l : Bytes) (b : ℕ) {c : Came} (e : c ≡ came_of t l b) {out₀ out : Bytes} (q : out ≡ out₀) where
  pub told_as : delivered (update_by c) out ≡ delivered (update t l b) out₀
  told_as = ap (λ (x : Came). delivered (update_by x) out) e ∙ ap (λ (o : Outcome). delivered o out) (sym (update-came t l b)) ∙ ap (delivered (update t l b)) q

pub no_room : (table : List ℕ) (work spare : Bytes) → Lacks table work ⊎ (length spare < max_tuple) → length table ≡ table_room → length work ≡ max_tuple → length spare ≡ max_tuple → ⊥
no_room table work spare (inl (inl a)) h k m = omega arith
no_room table work spare (inl (inr a)) h k m = omega arith
no_room table work spare (inr a) h k m = omega arith

pub rebased_room : {c : Came} {l work spare spare' : Bytes} {base n first k at i : ℕ} → Rebased c l work spare spare' base n first k at i → (k ≤ length spare') × (length spare' ≡ length spare)
rebased_room {c} {l} {work} {spare} {spare'} R =
    let a = ap length R.buffer ∙ length-append (plain R.fields) (drop (length (plain R.fields)) spare) in
    let d = length-drop (length (plain R.fields)) spare in
    let b = R.short in
    let e = R.long in
    (omega arith, omega arith)

pub rebased_on : {c : Came} {l work spare spare' : Bytes} {base n first k at i : ℕ} → Rebased c l work spare spare' base n first k at i → length work ≡ max_tuple → (first < i) × (i < n)
rebased_on R e = (⊎_elim (λ h. h) (λ h. absurd (omega arith)) R.on, R.within)
