-- One call that does a press: `press(tuple, list, index_base, out, undo)`. Both halves of it, and what a caller sees.
use Rattle.std.specs.Prelude.{ℕ, ◌≤◌, ◌≡◌, ◌&&◌, ◌∷◌, ◌++◌, leb, eqb, length, take, drop}
use Rattle.msgpack_first_bytes.specs.Bytes.{Bytes, pick}
use Rattle.msgpack_values.specs.Spoiled.{no_place}
use Rattle.msgpack_values.specs.declared.OptionalNumber.{OptionalNumber}
use Rattle.tuples.specs.Call.{number_of, Outcome, refusal, bytes, update, undo, Result, spoiled_in, update_call, undo_call}
use Rattle.tuples.specs.Sequence.{updating, State, state_after}
use Rattle.tuples.specs.declared.Refusal.{Refusal}
use Rattle.tuples.specs.declared.Refusal.TheVariants.{ShortBuffer}

-- the new tuple and the undo list, or why not, with the operation's index
pub data Pressing : Type 0 where
  declined : Refusal → ℕ → Pressing
  both : Bytes → Bytes → Pressing

-- "11, 12, per operation 13 to 16, then 17": the update's refusal, and where it has none the undo's
unfoldable pub pressing : Outcome → Outcome → Pressing
pressing (refusal k i) u = declined k i
pressing (bytes w) (refusal k i) = declined k i
pressing (bytes w) (bytes u) = both w u

-- of a tuple, a list and an index base
unfoldable pub press : Bytes → Bytes → ℕ → Pressing
press t l b = pressing (update t l b) (undo t l b)

-- what a caller sees: the answer, and the two lent buffers afterwards
pub record PressResult : Type 0 where
  pub number : ℕ
  pub operation : ℕ
  pub length : ℕ
  pub undo_length : ℕ
  pub place : OptionalNumber
  pub buffer : Bytes
  pub undo_buffer : Bytes

-- "or refuses and changes neither"; "13 to 16 also give the operation's index from 0; all others give 0 there"
unfoldable pub declining : Refusal → ℕ → Bytes → Bytes → PressResult
declining k i out un =
    record { number = number_of k; operation = i; length = 0; undo_length = 0; place = no_place; buffer = out; undo_buffer = un }

-- "writes the new tuple into `out` and the undo list into `undo`"; "bytes past the written length are unchanged"
unfoldable pub writing_both : Bytes → Bytes → Bytes → Bytes → PressResult
writing_both w u out un =
    record {
      number = 0;
      operation = 0;
      length = length w;
      undo_length = length u;
      place = no_place;
      buffer = w ++ drop (length w) out;
      undo_buffer = u ++ drop (length u) un;
    }

-- "then 18 for either buffer"
unfoldable pub pressed : Pressing → Bytes → Bytes → PressResult
pressed (declined k i) out un = declining k i out un
pressed (both w u) out un =
    pick (leb (length w) (length out) && leb (length u) (length un)) (writing_both w u out un) (declining ShortBuffer 0 out un)

-- with 11 the place in the tuple, with 12 that in the list, as in the two calls
unfoldable pub placed : Bytes → Bytes → PressResult → PressResult
placed t l r =
    record {
      number = r.number;
      operation = r.operation;
      length = r.length;
      undo_length = r.undo_length;
      place = spoiled_in r.number t l;
      buffer = r.buffer;
      undo_buffer = r.undo_buffer;
    }

-- THE CALL: tuple, list, index base, the buffer for the tuple, the buffer for the undo list
unfoldable pub press_call : Bytes → Bytes → ℕ → Bytes → Bytes → PressResult
press_call t l b out un = placed t l (pressed (press t l b) out un)

-- ---- what is claimed of it

-- where it answers 0, what it wrote becomes the tuple and the top of the pile, as of an update that goes in; "otherwise both stay"
unfoldable pub on_press : PressResult → State → State
on_press r s =
    pick (eqb r.number 0)
    (record { tuple = take r.length r.buffer; pile = record { list = take r.undo_length r.undo_buffer; given = s.tuple } ∷ s.pile }) s

unfoldable pub state_after_press : State → Bytes → ℕ → Bytes → Bytes → State
state_after_press s l b out un = on_press (press_call s.tuple l b out un) s

-- room for what is to be written, where there is something
abbrev pub RoomFor : Outcome → Bytes → Type 0
RoomFor (refusal k i) out = Unit {0}
RoomFor (bytes w) out = length w ≤ length out

-- with room for the undo list a press does to tuple and pile what demand 3's update does: it goes in exactly where that goes in, and
-- lays the same list on the pile
abbrev pub GoesInAlike : Type 0
GoesInAlike =
    (s : State) (l : Bytes) (b : ℕ) (out un : Bytes) → RoomFor (undo s.tuple l b) un → state_after_press s l b out un ≡ state_after s (updating l b out)

-- what the caller of one of the two calls would see of a press
abbrev pub tuple_seen : PressResult → Result
tuple_seen r = record { number = r.number; operation = r.operation; length = r.length; place = r.place; buffer = r.buffer }

abbrev pub undo_seen : PressResult → Result
undo_seen r = record { number = r.number; operation = r.operation; length = r.undo_length; place = r.place; buffer = r.undo_buffer }

-- a press on these inputs beside the two calls: 0 exactly where both answer 0, and then their very bytes; else neither buffer is changed
pub record AsTheTwoCalls (t l : Bytes) (b : ℕ) (out un : Bytes) : Type 0 where
  pub accepted : (press_call t l b out un).number ≡ 0 → (update_call t l b out ≡ tuple_seen (press_call t l b out un)) × (undo_call t l b un ≡ undo_seen (press_call t l b out un))
  pub accepting : (update_call t l b out).number ≡ 0 → (undo_call t l b un).number ≡ 0 → (press_call t l b out un).number ≡ 0
  pub kept : ((press_call t l b out un).number ≡ 0 → ⊥)
      → ((press_call t l b out un).buffer ≡ out) × ((press_call t l b out un).undo_buffer ≡ un)
