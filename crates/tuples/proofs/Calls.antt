-- An update that goes in, and the update by its undo list. Assumes nothing.
use mathlib.Core.Path.{◌≡◌, refl, sym, subst}
use mathlib.Core.Bool.{Bool, true, false, ◌&&◌}
use mathlib.Core.List.{List}
use mathlib.Core.Option.{Option, none, some}
use Prim.Native.Nat.{ℕ, ◌≤◌}
use borrow.Author.Tests.{leb-true}
use lib.Dec.{leb, eqb}
use lib.ListN.{length, drop}
use lib.Seq.{take-append_seam}
use Rattle.msgpack_first_bytes.specs.Bytes.{Bytes, pick}
use Rattle.tuples.specs.Limits.{max_operations, max_list}
use Rattle.tuples.specs.Tuple.{Fields, plain, fields_of}
use Rattle.tuples.specs.Operation.{Operation, operations_of}
use Rattle.tuples.specs.Edit.{plans, Run, refused, done, run, undo_of}
use Rattle.tuples.specs.Call.{number_of, Outcome, refusal, bytes, judged, on_run, update_of, limited_list, undo_list_of, update, undo, refusing, writing, delivered, spoiled_in, with_place}
use Rattle.tuples.specs.Sequence.{State, on_answer}
use Rattle.tuples.specs.declared.Refusal.{Refusal}
use Rattle.tuples.specs.declared.Refusal.TheVariants.{BadTuple, BadList, NoField, Unsuited, OutOfRange, TooLarge, LongUndo, ShortBuffer}
use Rattle.msgpack_first_bytes.proofs.Logic.{impossible}
use Rattle.tuples.proofs.Cases.{both_hold}
use Rattle.tuples.proofs.Legal.{Legal}
use Rattle.tuples.proofs.Tuple.{fields-legal}
use Rattle.tuples.proofs.Decode.{list_fine, list_back}
use Rattle.tuples.proofs.Sound.{plans-sound}
use Rattle.tuples.proofs.Taking.{Takes, run_undone}

-- the list u takes a tuple of the fields gs to the plain form of fs, however that tuple is written
abbrev pub TakesBack : Bytes → Fields → Fields → Type 0
TakesBack u gs fs = (t : Bytes) → fields_of t ≡ some gs → update t u 0 ≡ bytes (plain fs)

takes_back_lem : {us : List Bytes} {gs fs : Fields} → length us ≤ max_operations → length (plain us) ≤ max_list → Takes us gs fs → TakesBack (plain us) gs fs
unfolding update judged update_of on_run
takes_back_lem f s x t e = rw (e, list_back x.written f s) (rw (x.runs 0))

-- an update of t that writes w and has the undo list u
pub record WentIn (t w u : Bytes) : Type 0 where
  pub fs : Fields
  pub gs : Fields
  pub read : fields_of t ≡ some fs
  pub legal : Legal gs
  pub output : w ≡ plain gs
  pub back : TakesBack u gs fs

limited-bytes : (us : List Bytes) (u : Bytes) → limited_list us ≡ bytes u → (u ≡ plain us) × (length us ≤ max_operations) × (length (plain us) ≤ max_list)
unfolding limited_list
limited-bytes us u h = go (leb (length us) max_operations && leb (length (plain us)) max_list) refl h
  where
    go : (b : Bool) → (leb (length us) max_operations && leb (length (plain us)) max_list) ≡ b → pick b (bytes (plain us)) (refusal LongUndo 0) ≡ bytes u
        → (u ≡ plain us) × (length us ≤ max_operations) × (length (plain us) ≤ max_list)
    go true e h = let (f, s) = both_hold _ _ e in (cc, leb-true _ _ f, leb-true _ _ s)
    go false e h = impossible (cc)

pub went_in : (t l : Bytes) (b : ℕ) (w u : Bytes) → update t l b ≡ bytes w → undo t l b ≡ bytes u → WentIn t w u
unfolding update undo judged update_of undo_list_of on_run
went_in t l b w u h k = from-tuple (fields_of t) refl (operations_of b l) refl h k
  where
    from-run : (fs : Fields) (os : List Operation) → fields_of t ≡ some fs → operations_of b l ≡ some os → (r : Run) → run 0 (plans os) fs ≡ r
        → on_run r (λ gs. bytes (plain gs)) ≡ bytes w → on_run r (λ gs. limited_list (undo_of (plans os) fs)) ≡ bytes u → WentIn t w u
    from-run fs os e q (refused c i) r h k = impossible (cc)
    from-run fs os e q (done gs) r h k =
        let (p, f, s) = limited-bytes (undo_of (plans os) fs) u k in
        let x = run_undone (plans os) fs gs 0 (plans-sound (list_fine b l os q)) (fields-legal t fs e) r in
        record { fs = fs; gs = gs; read = e; legal = x.legal; output = cc; back = subst (λ (v : Bytes). TakesBack v gs fs) (sym p) (takes_back_lem f s x.takes) }

    from-tuple : (o : Option Fields) → fields_of t ≡ o → (p : Option (List Operation)) → operations_of b l ≡ p
        → judged o p update_of ≡ bytes w → judged o p undo_list_of ≡ bytes u → WentIn t w u
    from-tuple none e p q h k = impossible (cc)
    from-tuple (some fs) e none q h k = impossible (cc)
    from-tuple (some fs) e (some os) q h k = from-run fs os e q (run 0 (plans os) fs) refl h k

-- ---- what is written, and 18, have no place

pub no_place_lem : (t l w out : Bytes) → with_place t l (delivered (bytes w) out) ≡ delivered (bytes w) out
unfolding with_place spoiled_in delivered refusing writing
no_place_lem t l w out = go (leb (length w) (length out))
  where
    go : (b : Bool) → with_place t l (pick b (writing w out) (refusing ShortBuffer 0 out)) ≡ pick b (writing w out) (refusing ShortBuffer 0 out)
    go true = refl
    go false = refl

-- ---- the state after a call

pub numbered : (k : Refusal) → eqb (number_of k) 0 ≡ false
numbered BadTuple = refl
numbered BadList = refl
numbered NoField = refl
numbered Unsuited = refl
numbered OutOfRange = refl
numbered TooLarge = refl
numbered LongUndo = refl
numbered ShortBuffer = refl

-- it is the one before, or made of exactly what was to be written
pub by_answer : (P : State → Type 0) (o : Outcome) (out : Bytes) (s : State) (next : Bytes → State) → P s → ((w : Bytes) → o ≡ bytes w → P (next w))
    → P (on_answer (delivered o out) s next)
unfolding on_answer delivered refusing writing
by_answer P (refusal k i) out s next p q = rw (numbered k) p
by_answer P (bytes w) out s next p q = go (leb (length w) (length out))
  where
    go : (b : Bool) → P (on_answer (pick b (writing w out) (refusing ShortBuffer 0 out)) s next)
    go true = rw (take-append_seam w (drop (length w) out)) (q w refl)
    go false = p
