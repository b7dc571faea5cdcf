-- What the calls answer, by what the list came to. Assumes nothing.
use Rattle.std.specs.Prelude.{Ok, Err}
use mathlib.Core.Path.{◌≡◌, refl, sym, ap, ◌∙◌, subst}
use mathlib.Core.Bool.{Bool, true, false, ◌&&◌}
use mathlib.Core.Logic.{◌⊎◌, inl, inr}
use mathlib.Core.List.{List, ◌++◌}
use mathlib.Core.Option.{Option}
use Prim.Native.Nat.{ℕ, ◌<◌, ◌≤◌}
use native.Mathlib.Omega.{arith}
use borrow.Author.Tests.{lt-leb}
use lib.Dec.{leb}
use lib.ListN.{length, drop}
use Rattle.msgpack_first_bytes.specs.Bytes.{Bytes, pick}
use Rattle.msgpack_first_bytes.proofs.Logic.{either}
use Rattle.tuples.specs.Limits.{max_tuple, max_operations, max_list}
use Rattle.tuples.specs.Tuple.{Fields, plain}
use Rattle.tuples.specs.Call.{Outcome, refusal, bytes, limited_list, refusing, delivered}
use Rattle.tuples.specs.Press.{pressing, declining, pressed}
use Rattle.tuples.specs.declared.Refusal.{Refusal}
use Rattle.tuples.specs.declared.Refusal.TheVariants.{LongUndo}
use Rattle.tuples.proofs.Legal.{Fits, Legal}
use Rattle.tuples.proofs.Tuple.{read_plain}
use Rattle.update_running.specs.declared.Stage.{Stage}
use Rattle.update_running.specs.Held.{fields_now}
use Rattle.update_running.specs.Carrying.{Came, stops, makes, comes_to, takes_back, rest_of, work_room, table_room, Stalled, Carried, Carries}
use Rattle.update_running.proofs.Performing.{fields-length, within}
use Rattle.update_delivering.specs.Delivering.{Tried, failed_of, update_by, undo_by, long_by, Lacks, TriesUpdate, TriesUndo, TriesPress}
use Rattle.update_delivering.specs.Gathering.{shown, Stands, undo_outcome, Undoes, Delivers, DeliversBoth, Moves}
use Rattle.update_delivering.proofs.Holds.{same-fields, stands, undoes-held, outcome}
use Rattle.update_running.specs.declared.Unfinished.{Unfinished}
use Rattle.update_running.specs.declared.Unfinished.TheVariants.{Full, NoRoom as NoRoomHere, Refused as RefusedHere}
use Rattle.update_delivering.specs.declared.Failed.TheVariants.{Refused}
use Rattle.update_delivering.specs.declared.Unwritten.TheVariants.{Moved, NoRoom as NoRoomYet, Refused as RefusedYet}

-- ---- the arrays had no room

pub lacks : (table work table' work' : List ℕ) → length table' ≡ length table → length work' ≡ length work
    → (length table' < table_room) ⊎ (work_room < length work') → Lacks table work
lacks table work table' work' e f (inl h) = inl (omega arith)
lacks table work table' work' e f (inr h) = inr (omega arith)

-- ---- refused

pub update-refused : (c : Came) (k : Refusal) (i : ℕ) (out : Bytes) → c ≡ stops k i → refusing k i out ≡ delivered (update_by c) out
unfolding delivered
update-refused c k i out e = rw e

pub undo-refused : (c : Came) (us : List Bytes) (k : Refusal) (i : ℕ) (out : Bytes) → c ≡ stops k i → refusing k i out ≡ delivered (undo_by c us) out
unfolding delivered
undo-refused c us k i out e = rw e

pub press-refused : (c : Came) (us : List Bytes) (k : Refusal) (i : ℕ) (out un : Bytes) → c ≡ stops k i
    → declining k i out un ≡ pressed (pressing (update_by c) (undo_by c us)) out un
unfolding pressed pressing
press-refused c us k i out un e = rw e

-- ---- the work array was full

too_long : (c : Came) (us : List Bytes) → ((u : Fields) → c ≡ makes u → max_list < length (plain us)) → undo_by c us ≡ long_by c
unfolding limited_list
too_long (stops k i) us f = refl
too_long (makes u) us f = go (leb (length us) max_operations) (lt-leb _ _ (f u refl))
  where
    go : (x : Bool) {y : Bool} → y ≡ false → pick (x && y) (bytes (plain us)) (refusal LongUndo 0) ≡ refusal LongUndo 0
    go true e = rw e
    go false e = refl

module _ {T : Option Fields} {t l w : Bytes} {table back : List ℕ} {base n first start i at : ℕ} {z : Stage}
    (S : Stalled T t l w table back base n first start i at z) where
  abbrev C : Came
  C = comes_to first T (rest_of base n first start l)

  abbrev U : List Bytes
  U = takes_back T (rest_of base n first start l)

  pub stalled_stands : Stands t l w table z
  stalled_stands = stands S.held S.sources

  pub stalled_long : (work : Bytes) → length w ≡ length work → (length work < work_room) ⊎ (undo_by C U ≡ long_by C)
  stalled_long work e = go (either work_room (length w))
    where
      go : (work_room ≤ length w) ⊎ (length w < work_room) → (length work < work_room) ⊎ (undo_by C U ≡ long_by C)
      go (inl h) = inr (too_long C U (S.long h))
      go (inr h) = inl (omega arith)

  legal : Legal (fields_now t l w table z)
  legal = record { fit = fits; whole = S.legal }
    where
      fits : Fits (fields_now t l w table z)
      fits =
          let s = stalled_stands in
          record {
            few = let e = fields-length S.held in let f = (within S.held).0 in omega arith;
            short = subst (λ (x : Fields). length (plain x) ≤ max_tuple) (same-fields S.held) s.short;
          }

  -- the fields up to there as a tuple
  pub tries_moved : (r : Tried) (work out spare spare' : Bytes) (old : List ℕ) → length w ≡ length work → Moves r (shown t l w table z) spare spare' at i
      → TriesUpdate r C l out out spare spare' work old base n first
  tries_moved (Err NoRoomYet) work out spare spare' old e m = (refl, m.0, inr m.1)
  tries_moved (Err (Moved k a j)) work out spare spare' old e m =
      let F = fields_now t l w table z in
      let q : shown t l w table z ≡ F = same-fields S.held in
      let b : spare' ≡ plain F ++ drop (length (plain F)) spare = rw q at m.4 in
      let k' : k ≡ length (plain F) = rw q at m.2 in
      let s' : length (plain F) ≤ length spare = rw q at m.3 in
      rw (m.0, m.1) (
        refl,
        record {
          fields = F;
          read = read_plain F legal;
          goes = S.goes;
          buffer = b;
          long = k';
          short = s';
          on = on S.on;
          within = S.within;
        },
      )
    where
      on : (first < i) ⊎ (length w < max_tuple) → (first < i) ⊎ (length work < max_tuple)
      on (inl h) = inl h
      on (inr h) = inr (omega arith)
  tries_moved (Err (RefusedYet k j)) work out spare spare' old e m = absurd m
  tries_moved (Ok k) work out spare spare' old e m = absurd m

module _ {T : Option Fields} {t l w : Bytes} {table back : List ℕ} {base n first start : ℕ} {z : Stage}
    (K : Carried T t l w table back base n first start z) where
  abbrev D : Came
  D = comes_to first T (rest_of base n first start l)

  abbrev B : List Bytes
  B = takes_back T (rest_of base n first start l)

  pub carried_stands : Stands t l w table z
  carried_stands = stands K.held K.sources

  pub carried_undoes : length back ≡ max_operations → Undoes t l w back z
  carried_undoes e = undoes-held K.held e T (rest_of base n first start l) K.undoes

  made : bytes (plain (shown t l w table z)) ≡ update_by D
  made = ap (λ (x : Fields). bytes (plain x)) (same-fields K.held) ∙ ap update_by (sym K.goes)

  undone : length back ≡ max_operations → undo_outcome t l w back z ≡ undo_by D B
  undone e = outcome K.held e ∙ ap limited_list (sym K.undoes) ∙ ap (λ (c : Came). undo_by c B) (sym K.goes)

  module _ (work out out' spare : Bytes) (old : List ℕ) where
    pub update-refuses : (k : Refusal) → Delivers (Err k) (bytes (plain (shown t l w table z))) out out' → TriesUpdate (Err (RefusedYet k 0)) D l out out' spare spare work old base n first
    update-refuses k d = (d ∙ ap (λ (o : Outcome). delivered o out) made, refl, omega arith)

    pub update-writes : {k : ℕ} → Delivers (Ok k) (bytes (plain (shown t l w table z))) out out' → TriesUpdate (Ok k) D l out out' spare spare work old base n first
    update-writes d = (d ∙ ap (λ (o : Outcome). delivered o out) made, refl)

  module _ (work out out' : Bytes) (old : List ℕ) (e : length back ≡ max_operations) where
    pub undo-refuses : (k : Refusal) → Delivers (Err k) (undo_outcome t l w back z) out out' → TriesUndo (Err (Refused k 0)) D B out out' work old
    undo-refuses k d = (d ∙ ap (λ (o : Outcome). delivered o out) (undone e), omega arith)

    pub undo-writes : {k : ℕ} → Delivers (Ok k) (undo_outcome t l w back z) out out' → TriesUndo (Ok k) D B out out' work old
    undo-writes d = d ∙ ap (λ (o : Outcome). delivered o out) (undone e)

    module _ (un un' : Bytes) where
      pub press-refuses : (k : Refusal) → DeliversBoth (Err k) (pressing (bytes (plain (shown t l w table z))) (undo_outcome t l w back z)) out out' un un'
          → TriesPress (Err (Refused k 0)) D B out out' un un' work old
      press-refuses k d = (d ∙ rw (made, undone e), omega arith)

      pub press-writes : (r : ℕ × ℕ) → DeliversBoth (Ok r) (pressing (bytes (plain (shown t l w table z))) (undo_outcome t l w back z)) out out' un un'
          → TriesPress (Ok r) D B out out' un un' work old
      press-writes (k, m) d = d ∙ rw (made, undone e)

-- ---- the list was not done

module _ (T : Option Fields) (t l w : Bytes) (table back : List ℕ) (base n first start : ℕ) (old work : List ℕ) (e : length table ≡ length old) (f : length w ≡ length work) where
  pub undo-fails : (u : Unfinished) → Carries (Err u) T t l w table back base n first start → (out : Bytes)
      → TriesUndo (Err (failed_of u)) (comes_to first T (rest_of base n first start l)) (takes_back T (rest_of base n first start l)) out out work old
  undo-fails NoRoomHere h out = (refl, inl (lacks old work table w e f h))
  undo-fails (Full z at i) h out = (refl, inr (stalled_long h work f))
  undo-fails (RefusedHere k i) h out = (undo-refused _ _ k i out h.0, h.1)

  pub press-fails : (u : Unfinished) → Carries (Err u) T t l w table back base n first start → (out un : Bytes)
      → TriesPress (Err (failed_of u)) (comes_to first T (rest_of base n first start l)) (takes_back T (rest_of base n first start l)) out out un un work old
  press-fails NoRoomHere h out un = (refl, refl, inl (lacks old work table w e f h))
  press-fails (Full z at i) h out un = (refl, refl, inr (stalled_long h work f))
  press-fails (RefusedHere k i) h out un = (press-refused _ _ k i out un h.0, h.1)
