-- Where a place is given. Document 02, 3/12: "a place is given exactly then, too deep included, whichever other cause stands beside it".
use Rattle.std.specs.Prelude.{ℕ, ◌+◌, ◌≤◌, ◌≡◌, true, List, ◌⊎◌, eqb, length, take, drop, Ok}
use Rattle.std.proofs.Math.Option.{Option, none, some}
use Rattle.msgpack_first_bytes.specs.Bytes.{Bytes}
use Rattle.msgpack_values.specs.Value.{value}
use Rattle.msgpack_values.specs.Spoiled.{at_place, spoiled_at}
use Rattle.msgpack_values.specs.declared.OptionalNumber.{OptionalNumber}
use Rattle.msgpack_meanings.specs.Meaning.{alone_depth, alone}
use Rattle.frames.specs.Limits.{max_depth}
use Rattle.frames.specs.Reading.{size_of, frame_read}
use Rattle.sessions.specs.Session.{feed_of}
use Rattle.sessions.specs.declared.Session.{Session}
use Rattle.tuples.specs.Limits.{tuple_depth, list_depth}
use Rattle.tuples.specs.Tuple.{Fields, fields_of}
use Rattle.tuples.specs.Operation.{Operation, operations_of}
use Rattle.tuples.specs.Call.{update_call, undo_call}
use Rattle.spoiled_places.specs.First.{FirstSpoiling}

-- "Here a tuple is one value to depth 13, a list to depth 14": where 11 and 12 do not refuse them, they are whole, and end where their bytes end
pub record AcceptedAreWhole : Type 0 where
  pub tuple : (t : Bytes) (fs : Fields) → fields_of t ≡ some fs → value tuple_depth t ≡ Ok (length t)
  pub list : (b : ℕ) (l : Bytes) (os : List Operation) → operations_of b l ≡ some os → value list_depth l ≡ Ok (length l)

-- the list's place where the tuple is within the rules; else the tuple's, and nothing is said of the list
abbrev pub place_by : Option Fields → Bytes → Bytes → OptionalNumber
place_by (some fs) t l = spoiled_at list_depth 0 l
place_by none t l = spoiled_at tuple_depth 0 t

-- where header or body of the frame f begins: after the k bytes of the size number, or after a whole header
abbrev pub Begins : Bytes → ℕ → ℕ → Type 0
Begins f k from = (from ≡ k) ⊎ ((h : ℕ) × (value max_depth (drop k f) ≡ Ok h) × (from ≡ k + h))

pub record GivenExactly : Type 0 where
  -- with 4 and with no other number
  pub alone : (s : Bytes) → ((alone s).place ≡ spoiled_at alone_depth 0 s) × ((alone s).place.present ≡ eqb (alone s).number 4)
  pub frame : (s : Bytes) → (frame_read s).place.present ≡ eqb (frame_read s).number 4
  pub feed : (s : Session) (p c : Bytes) → s.refused ≡ 0 → (feed_of s p c).place.present ≡ eqb (feed_of s p c).number 4
  -- "counted from the frame's start": past the k bytes of its size number, and at most at the end that the number promises
  pub in_frame : (s : Bytes) (n k : ℕ) → size_of s ≡ Ok (n, k) → (frame_read s).place.present ≡ true
      → (k ≤ (frame_read s).place.value) × ((frame_read s).place.value ≤ k + n)
  -- .. and it is the first byte that spoils the header or, where that is whole, the body
  pub in_value : (s : Bytes) (n k p : ℕ) → size_of s ≡ Ok (n, k) → (frame_read s).place ≡ at_place p
      → (from : ℕ) × (q : ℕ) × Begins (take (k + n) s) k from × (p ≡ from + q) × FirstSpoiling max_depth (drop from (take (k + n) s)) q
  -- by the two calls, whatever the index base, the buffer and the other causes of 11 and 12
  pub update : (t l : Bytes) (b : ℕ) (out : Bytes) → (update_call t l b out).place ≡ place_by (fields_of t) t l
  pub undo : (t l : Bytes) (b : ℕ) (out : Bytes) → (undo_call t l b out).place ≡ place_by (fields_of t) t l
