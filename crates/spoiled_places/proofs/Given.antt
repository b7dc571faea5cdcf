-- Where a place is given. Assumes nothing.
use Rattle.std.specs.Prelude.{Ok, Err}
use mathlib.Core.Path.{◌≡◌, refl, sym, ap, ◌∙◌}
use mathlib.Core.Bool.{Bool, true, false, ◌&&◌}
use mathlib.Core.List.{List, [], ◌∷◌, ◌++◌}
use mathlib.Core.Option.{Option, none, some}
use Prim.Native.Nat.{ℕ, suc, ◌+◌, ◌≤◌}
use borrow.Author.Tests.{eq-eqb}
use lib.Dec.{leb, ltb, eqb}
use lib.ListN.{length, get_or, take, drop}
use Rattle.msgpack_first_bytes.specs.Bytes.{Bytes, pick}
use Rattle.msgpack_values.specs.Value.{value, Read}
use Rattle.msgpack_values.specs.Spoiled.{no_place, at_place, spoiled_at}
use Rattle.msgpack_values.specs.declared.OptionalNumber.{OptionalNumber}
use Rattle.msgpack_values.proofs.Spoiled.{spoiled-whole, spoiled-broken}
use Rattle.msgpack_scalars.specs.declared.Int.{Int}
use Rattle.msgpack_scalars.specs.declared.Int.TheVariants.{FromZero, BelowZero}
use Rattle.msgpack_meanings.specs.Meaning.{alone_depth, alone_by, alone}
use Rattle.frames.specs.Limits.{max_depth}
use Rattle.frames.specs.Reading.{size_of, frame_read}
use Rattle.frames.proofs.Placed.{frame_promised, frame-placed, frame_of_value}
use Rattle.sessions.specs.Session.{carry_room, idle, fed, go_on, begun, feed_of}
use Rattle.sessions.specs.declared.Session.{Session}
use Rattle.tuples.specs.Limits.{list_depth, max_operations, max_list}
use Rattle.tuples.specs.Tuple.{Fields, plain, fields_of}
use Rattle.tuples.specs.Decoding.{Got, fails, gets, Decoder, any_integer, at_least, string}
use Rattle.tuples.specs.Operation.{Action, plus, minus, and, xor, or, assign, insert, remove, splice, Operation, operations_of}
use Rattle.tuples.specs.Edit.{Edit, refuse as refuses, put, add, cut, became, suited, altered, edit_at, field_at, Plan, plan_of, plans, stop, next, fits, limited, perform, step, Run, refused, done, onward, run, undo_of}
use Rattle.tuples.specs.Call.{number_of, Outcome, refusal, bytes, judged, on_run, update_of, limited_list, undo_list_of, update, undo, refusing, writing, delivered, spoiled_in, with_place, update_call, undo_call}
use Rattle.tuples.specs.declared.Refusal.{Refusal}
use Rattle.tuples.specs.declared.Refusal.TheVariants.{TooLarge, LongUndo, ShortBuffer}
use Rattle.spoiled_places.specs.First.{FirstSpoiling}
use Rattle.spoiled_places.specs.Given.{place_by, Begins, GivenExactly}
use Rattle.spoiled_places.proofs.First.{counted, first_spoiling}
use Rattle.spoiled_places.proofs.Lists.{accepted-whole}

-- ---- a value read alone, and a frame

alone_exactly : (s : Bytes) → ((alone s).place ≡ spoiled_at alone_depth 0 s) × ((alone s).place.present ≡ eqb (alone s).number 4)
unfolding alone alone_by
alone_exactly s = go (value alone_depth s) refl
  where
    go : (r : Read) → value alone_depth s ≡ r → ((alone_by r s).place ≡ spoiled_at alone_depth 0 s) × ((alone_by r s).place.present ≡ eqb (alone_by r s).number 4)
    go (Ok n) e = (sym (spoiled-whole alone_depth s e), refl)
    go (Err p) e = (refl, ap (λ (x : OptionalNumber). x.present) (spoiled-broken alone_depth 0 s e))

feed_exactly : (s : Session) (p c : Bytes) → s.refused ≡ 0 → (feed_of s p c).place.present ≡ eqb (feed_of s p c).number 4
unfolding feed_of go_on fed idle
feed_exactly s p c h = go (ltb (length c) carry_room)
  where
    go : (b : Bool) → (pick b (idle 19 no_place s) (pick (eqb s.refused 0) (go_on s (begun s c) p) (idle s.refused s.place s))).place.present
        ≡ eqb (pick b (idle 19 no_place s) (pick (eqb s.refused 0) (go_on s (begun s c) p) (idle s.refused s.place s))).number 4
    go true = refl
    go false = rw (eq-eqb s.refused 0 h) (frame-placed (begun s c ++ p)).exactly

frame-inside : (s : Bytes) (n k : ℕ) → size_of s ≡ Ok (n, k) → (frame_read s).place.present ≡ true → (k ≤ (frame_read s).place.value) × ((frame_read s).place.value ≤ k + n)
frame-inside s n k e h = let x = frame_promised s n k e in (x.past h, x.within)

frame-first : (s : Bytes) (n k p : ℕ) → size_of s ≡ Ok (n, k) → (frame_read s).place ≡ at_place p
    → (from : ℕ) × (q : ℕ) × Begins (take (k + n) s) k from × (p ≡ from + q) × FirstSpoiling max_depth (drop from (take (k + n) s)) q
frame-first s n k p e h =
    let (from, b, v) = frame_of_value s n k e p h in
    let f = take (k + n) s in
    let (q, c) = counted max_depth from f p v in
    (from, q, b, c, first_spoiling max_depth from f q (v ∙ ap at_place c))

-- ---- update and undo

-- a refusal other than 11 and 12 has no place
abbrev Later : Refusal → Type 0
Later k = (t l : Bytes) → spoiled_in (number_of k) t l ≡ no_place

abbrev LaterEdit : Edit → Type 0
LaterEdit (refuses k) = Later k
LaterEdit (put f b) = Unit {0}
LaterEdit (add f b) = Unit {0}
LaterEdit (cut f m) = Unit {0}

by : (b : Bool) (x y : Edit) → LaterEdit x → LaterEdit y → LaterEdit (pick b x y)
by true x y p q = p
by false x y p q = q

module _ {A : Type 0} where
  altered_later : (read : Decoder A) (change : A → Option Bytes) (f : ℕ) (t : Fields) → LaterEdit (altered read change f t)
  unfolding altered suited became spoiled_in
  altered_later read change f t = by (ltb f (length t)) _ _ (on (read (get_or t f []))) (λ _ _. refl)
    where
      changed : (o : Option Bytes) → LaterEdit (became f o)
      changed none = λ _ _. refl
      changed (some b) = tt

      on : (g : Got A) → LaterEdit (suited f g change)
      on fails = λ _ _. refl
      on (gets a s) = changed (change a)

edit_later : (a : Action) (f : ℕ) (t : Fields) → LaterEdit (edit_at a f t)
unfolding edit_at spoiled_in
edit_later (plus v) f t = altered_later any_integer _ f t
edit_later (minus v) f t = altered_later any_integer _ f t
edit_later (and v) f t = altered_later (at_least 0) _ f t
edit_later (xor v) f t = altered_later (at_least 0) _ f t
edit_later (or v) f t = altered_later (at_least 0) _ f t
edit_later (assign b) f t = by (ltb f (length t)) _ _ tt (by (eqb f (length t)) _ _ tt (λ _ _. refl))
edit_later (insert b) f t = by (leb f (length t)) _ _ tt (λ _ _. refl)
edit_later (remove m) f t = by (ltb f (length t)) _ _ tt (λ _ _. refl)
edit_later (splice p c a) f t = altered_later string _ f t

plan_later : (o : Operation) (t : Fields) → LaterEdit (plan_of o t)
unfolding plan_of field_at spoiled_in
plan_later o t = go o.number
  where
    go : (z : Int) → LaterEdit (field_at z (λ f. edit_at o.action f t))
    go (FromZero f) = edit_later o.action f t
    go (BelowZero m) = λ _ _. refl

abbrev LaterRun : Run → Type 0
LaterRun (refused k i) = Later k
LaterRun (done t) = Unit {0}

limited_later : (i : ℕ) (t : Fields) (go : Fields → Run) → ((u : Fields) → LaterRun (go u)) → LaterRun (onward i (limited t) go)
unfolding limited spoiled_in
limited_later i t go h = by_fit (fits t)
  where
    by_fit : (b : Bool) → LaterRun (onward i (pick b (next t) (stop TooLarge)) go)
    by_fit true = h t
    by_fit false = λ _ _. refl

step_later : (i : ℕ) (e : Edit) (t : Fields) (go : Fields → Run) → LaterEdit e → ((u : Fields) → LaterRun (go u)) → LaterRun (onward i (perform e t) go)
unfolding perform
step_later i (refuses k) t go l h = l
step_later i (put f b) t go l h = limited_later i _ go h
step_later i (add f b) t go l h = limited_later i _ go h
step_later i (cut f m) t go l h = limited_later i _ go h

run_later : (i : ℕ) (os : List Operation) (t : Fields) → LaterRun (run i (plans os) t)
unfolding run plans step
run_later i [] t = tt
run_later i (o ∷ os) t = step_later i (plan_of o t) t _ (plan_later o t) (run_later (suc i) os)

-- an outcome other than 11 and 12, delivered
abbrev LaterOutcome : Outcome → Type 0
LaterOutcome (refusal k i) = Later k
LaterOutcome (bytes w) = Unit {0}

delivered_later : (o : Outcome) (t l out : Bytes) → LaterOutcome o → (with_place t l (delivered o out)).place ≡ no_place
unfolding with_place delivered refusing writing
delivered_later (refusal k i) t l out h = h t l
delivered_later (bytes w) t l out h = go (leb (length w) (length out))
  where
    go : (b : Bool) → spoiled_in (pick b (writing w out) (refusing ShortBuffer 0 out)).number t l ≡ no_place
    go true = unfold spoiled_in in refl
    go false = unfold spoiled_in in refl

on-run : (r : Run) (go : Fields → Outcome) → LaterRun r → ((u : Fields) → LaterOutcome (go u)) → LaterOutcome (on_run r go)
unfolding on_run
on-run (refused k i) go l h = l
on-run (done u) go l h = h u

-- of any call that is judged so and then goes on
judged-place : (t l : Bytes) (b : ℕ) (out : Bytes) (go : Fields → List Plan → Outcome) → ((fs : Fields) (os : List Operation) → LaterOutcome (go fs (plans os)))
    → (with_place t l (delivered (judged (fields_of t) (operations_of b l) go) out)).place ≡ place_by (fields_of t) t l
judged-place t l b out go h = by_tuple (fields_of t) (operations_of b l) refl
  where
    by_tuple : (x : Option Fields) (y : Option (List Operation)) → operations_of b l ≡ y → (with_place t l (delivered (judged x y go) out)).place ≡ place_by x t l
    by_tuple none y q = unfold judged delivered refusing with_place spoiled_in in refl
    by_tuple (some fs) none q = unfold judged delivered refusing with_place spoiled_in in refl
    by_tuple (some fs) (some os) q =
        unfold judged in (delivered_later (go fs (plans os)) t l out (h fs os) ∙ sym (spoiled-whole list_depth l (accepted-whole.list b l os q)))

update-place : (t l : Bytes) (b : ℕ) (out : Bytes) → (update_call t l b out).place ≡ place_by (fields_of t) t l
unfolding update_call update
update-place t l b out = judged-place t l b out update_of (λ fs os. unfold update_of in on-run _ _ (run_later 0 os fs) (λ u. tt))

list_later : (us : List Bytes) → LaterOutcome (limited_list us)
unfolding limited_list spoiled_in
list_later us = go (leb (length us) max_operations && leb (length (plain us)) max_list)
  where
    go : (b : Bool) → LaterOutcome (pick b (bytes (plain us)) (refusal LongUndo 0))
    go true = tt
    go false = λ _ _. refl

undo-place : (t l : Bytes) (b : ℕ) (out : Bytes) → (undo_call t l b out).place ≡ place_by (fields_of t) t l
unfolding undo_call undo
undo-place t l b out = judged-place t l b out undo_list_of (λ fs os. unfold undo_list_of in on-run _ _ (run_later 0 os fs) (λ u. list_later (undo_of (plans os) fs)))

pub given_exactly : GivenExactly
given_exactly = record { alone = alone_exactly; frame = λ s. (frame-placed s).exactly; feed = feed_exactly; in_frame = frame-inside; in_value = frame-first; update = update-place; undo = undo-place }
