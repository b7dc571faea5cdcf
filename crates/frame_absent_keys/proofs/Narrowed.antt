-- Reading and writing by the required keys of document 01. Assumes nothing.
use Prim.Native.Nat.{ℕ}
use mathlib.Core.Path.{◌≡◌, refl, ap, ◌∙◌}
use mathlib.Core.Bool.{Bool, true, false, ◌&&◌}
use mathlib.Core.List.{List}
use mathlib.Core.Option.{Option, none, some}
use lib.ListN.{length}
use Rattle.msgpack_first_bytes.specs.Bytes.{Bytes}
use Rattle.frames.specs.declared.Frame.{Frame}
use Rattle.frames.specs.declared.FrameAnswer.{FrameAnswer}
use Rattle.frames.specs.Held.{encoded, is_some, locate}
use Rattle.frames.specs.Keys.{code_in, frame_at, header_table, body_items, body_table}
use Rattle.frames.specs.Codes.{required}
use Rattle.frames.specs.Cascade.{check, given}
use Rattle.frames.specs.Maps.{Entry, find}
use Rattle.frames.specs.Reading.{refuse, accept, suited, by_places}
use Rattle.frames.specs.Writing.{refused, written, write_items, frame_write}
use Rattle.frame_absent_keys.specs.Apart.{Apart, stops_at, maps, apart, read_by}
use Rattle.frame_absent_keys.specs.Before.{required_before, read_before, passes_ten, Narrowed}
use Rattle.frame_absent_keys.proofs.Parts.{reads}
use Rattle.frame_absent_keys.proofs.Fewer.{Agrees, stops_same, refused-same, judged_by, read-fewer, written-fewer}
use Rattle.frame_absent_keys.proofs.Absence.{placed, holds_present, index, offset, iterator}

-- ---- reading

module _ (s : Bytes) (hs bs : List Entry) where
  entries_agree : (c : ℕ) → (suited header_table s (find hs) && suited body_table s (find bs)) ≡ true
      → Agrees (λ (k : ℕ). (find bs k).present) (frame_at c s (find hs) (find bs))
  entries_agree c e =
      record { index = placed index c s (find hs) (find bs) e; offset = placed offset c s (find hs) (find bs) e; iterator = placed iterator c s (find hs) (find bs) e }

  maps-before : read_by required_before (maps s hs bs) ≡ read_before (read_by required (maps s hs bs))
  unfolding read_by by_places frame_at
  maps-before = go (code_in s (find hs))
    where
      by : (ℕ → Option (List ℕ)) → Option ℕ → FrameAnswer
      by needed o =
          given (refuse 8) o (λ code.
          judged_by (λ (k : ℕ). (find bs k).present) (suited header_table s (find hs) && suited body_table s (find bs))
          (accept (length s) (frame_at code s (find hs) (find bs))) (needed code))

      go : (o : Option ℕ) → by required_before o ≡ read_before (by required o)
      go none = unfold given in refused-same 8
      go (some c) = unfold given in read-fewer (frame_at c s (find hs) (find bs)) (length s) _ _ (entries_agree c)

apart-before : (a : Apart) → read_by required_before a ≡ read_before (read_by required a)
apart-before (stops_at n p) = unfold read_by in stops_same n p
apart-before (maps s hs bs) = maps-before s hs bs

-- ---- writing

items_agree : (r : Frame) (s : Bytes) → Agrees (λ (k : ℕ). is_some (encoded (locate (body_items r s) k))) r
items_agree r s = record { index = holds_present index r s; offset = holds_present offset r s; iterator = holds_present iterator r s }

past_ten : (a b : Bool) (w : Bytes) → passes_ten (check (refused 3) a (check (refused 18) b (written w))) ≡ true
unfolding check passes_ten
past_ten true true w = refl
past_ten true false w = refl
past_ten false b w = refl

pub narrowed : Narrowed
unfolding frame_write write_items
narrowed =
    record {
      now = reads;
      reading = λ s. apart-before (apart s) ∙ ap read_before (reads s);
      writing = λ r s room. written-fewer r _ _ _ _ (past_ten _ _ _) (items_agree r s);
    }
