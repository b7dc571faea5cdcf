-- A press beside the update and the undo of the same inputs. Assumes nothing.
use mathlib.Core.Path.{◌≡◌, refl}
use mathlib.Core.Bool.{Bool, true, false, ◌&&◌}
use Prim.Native.Nat.{ℕ}
use borrow.Author.Tests.{le-leb}
use lib.Dec.{leb}
use lib.ListN.{length, drop}
use lib.Seq.{take-append_seam}
use Rattle.msgpack_first_bytes.specs.Bytes.{Bytes, pick}
use Rattle.tuples.specs.Call.{number_of, Outcome, refusal, bytes, update, undo, refusing, writing, delivered, with_place, update_call, undo_call}
use Rattle.tuples.specs.Sequence.{State, on_answer, goes_in, state_after}
use Rattle.tuples.specs.Press.{pressing, press, PressResult, declining, writing_both, pressed, placed, press_call, on_press, state_after_press, RoomFor, GoesInAlike, tuple_seen, undo_seen, AsTheTwoCalls}
use Rattle.tuples.specs.declared.Refusal.{Refusal}
use Rattle.tuples.specs.declared.Refusal.TheVariants.{ShortBuffer}
use Rattle.msgpack_first_bytes.proofs.Logic.{impossible}
use Rattle.tuples.proofs.Calls.{numbered}

never : {A : Type 0} (k : Refusal) → number_of k ≡ 0 → A
never k h = impossible (let e : true ≡ false = rw h at (numbered k) in cc)

-- ---- the two calls

module _ (t l out un : Bytes) where
  abbrev seen : Outcome → Outcome → PressResult
  seen o p = placed t l (pressed (pressing o p) out un)

  -- what both bytes come to, by the test of the two buffers
  abbrev by_test : Bytes → Bytes → Bool → PressResult
  by_test w u a = placed t l (pick a (writing_both w u out un) (declining ShortBuffer 0 out un))

  accepts : (o p : Outcome) → (seen o p).number ≡ 0
      → (with_place t l (delivered o out) ≡ tuple_seen (seen o p)) × (with_place t l (delivered p un) ≡ undo_seen (seen o p))
  unfolding placed pressed pressing declining writing_both with_place delivered refusing writing
  accepts (refusal k i) p h = never k h
  accepts (bytes w) (refusal k i) h = never k h
  accepts (bytes w) (bytes u) h = go (leb (length w) (length out)) (leb (length u) (length un)) h
    where
      go : (a c : Bool) → (by_test w u (a && c)).number ≡ 0
          → (with_place t l (pick a (writing w out) (refusing ShortBuffer 0 out)) ≡ tuple_seen (by_test w u (a && c)))
          × (with_place t l (pick c (writing u un) (refusing ShortBuffer 0 un)) ≡ undo_seen (by_test w u (a && c)))
      go true true h = (refl, refl)
      go true false h = never ShortBuffer h
      go false c h = never ShortBuffer h

  is-accepted : (o p : Outcome) → (delivered o out).number ≡ 0 → (delivered p un).number ≡ 0 → (seen o p).number ≡ 0
  unfolding placed pressed pressing declining writing_both delivered refusing writing
  is-accepted (refusal k i) p h q = h
  is-accepted (bytes w) (refusal k i) h q = q
  is-accepted (bytes w) (bytes u) h q = go (leb (length w) (length out)) (leb (length u) (length un)) h q
    where
      go : (a c : Bool) → (pick a (writing w out) (refusing ShortBuffer 0 out)).number ≡ 0 → (pick c (writing u un) (refusing ShortBuffer 0 un)).number ≡ 0
          → (by_test w u (a && c)).number ≡ 0
      go true true h q = refl
      go true false h q = q
      go false c h q = h

  keeps : (o p : Outcome) → ((seen o p).number ≡ 0 → ⊥) → ((seen o p).buffer ≡ out) × ((seen o p).undo_buffer ≡ un)
  unfolding placed pressed pressing declining writing_both
  keeps (refusal k i) p h = (refl, refl)
  keeps (bytes w) (refusal k i) h = (refl, refl)
  keeps (bytes w) (bytes u) h = go (leb (length w) (length out) && leb (length u) (length un)) h
    where
      go : (a : Bool) → ((by_test w u a).number ≡ 0 → ⊥) → ((by_test w u a).buffer ≡ out) × ((by_test w u a).undo_buffer ≡ un)
      go true h = absurd (h refl)
      go false h = (refl, refl)

  pub as_the_two_calls : (b : ℕ) → AsTheTwoCalls t l b out un
  unfolding press_call press placed update_call undo_call with_place
  as_the_two_calls b =
      record {
        accepted = accepts (update t l b) (undo t l b);
        accepting = is-accepted (update t l b) (undo t l b);
        kept = keeps (update t l b) (undo t l b);
      }

-- ---- the state afterwards

module _ (s : State) (out un : Bytes) where
  alike : (o p : Outcome) → RoomFor p un → on_press (pressed (pressing o p) out un) s ≡ on_answer (delivered o out) s (goes_in s p)
  unfolding on_press pressed pressing declining writing_both on_answer delivered refusing writing goes_in
  alike (refusal k i) p h = rw (numbered k)
  alike (bytes w) (refusal k i) h = rw (numbered k) (go (leb (length w) (length out)))
    where
      go : (a : Bool) → s ≡ on_answer (pick a (writing w out) (refusing ShortBuffer 0 out)) s (goes_in s (refusal k i))
      go true = refl
      go false = refl
  alike (bytes w) (bytes u) h = rw (le-leb _ _ h) (go (leb (length w) (length out)))
    where
      go : (a : Bool)
          → on_press (pick (a && true) (writing_both w u out un) (declining ShortBuffer 0 out un)) s
          ≡ on_answer (pick a (writing w out) (refusing ShortBuffer 0 out)) s (goes_in s (bytes u))
      go true = rw (take-append_seam u (drop (length u) un))
      go false = refl

pub goes_in-alike : GoesInAlike
unfolding state_after_press state_after press_call press placed on_press update_call with_place on_answer
goes_in-alike s l b out un h = alike s out un (update s.tuple l b) (undo s.tuple l b) h
