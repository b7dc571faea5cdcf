-- Inner: what is written of what a run holds, and what writing asks.
use Rattle.std.specs.Prelude.{ℕ, ◌+◌, ◌-◌, ◌^◌, ◌<◌, ◌≤◌, ◌≡◌, Bool, ◌&&◌, List, ◌++◌, map, leb, length, take, drop, get_or, Ok, Err, Result}
use Rattle.msgpack_first_bytes.specs.Bytes.{Bytes, pick}
use Rattle.msgpack_values.specs.Pieces.{joined}
use Rattle.msgpack_writing.specs.Forms.{array_header}
use Rattle.tuples.specs.Limits.{max_fields, max_tuple, max_operations, max_list}
use Rattle.tuples.specs.Tuple.{Fields, plain}
use Rattle.tuples.specs.Call.{Outcome, refusal, bytes, refusing, delivered}
use Rattle.tuples.specs.Press.{Pressing, declining, pressed}
use Rattle.tuples.specs.declared.Refusal.{Refusal}
use Rattle.tuples.specs.declared.Refusal.TheVariants.{LongUndo}
use Rattle.update_places.specs.Place.{length_of, fields_in, Sources, Chain}
use Rattle.update_running.specs.declared.Stage.{Stage}
use Rattle.update_running.specs.Steps.{entry_mark}
use Rattle.update_running.specs.Held.{places_now, undo_in}
use Rattle.update_delivering.specs.Delivering.{Tried, written, both_written}
use Rattle.update_delivering.specs.declared.Unwritten.TheVariants.{Moved, NoRoom as NoRoomYet, Refused as RefusedYet}

-- gathering: each entry's place lies whole in its source, and there is room for all
pub record Gathers (t l w : Bytes) (es : List ℕ) (out : Bytes) (at : ℕ) : Type 0 where
  pub sources : Sources t l
  pub few : length es ≤ max_fields
  pub whole : map length (fields_in t l w es) ≡ map length_of es
  pub room : at + length (joined (fields_in t l w es)) ≤ length out

-- the entries lie side by side
pub record Side (es : List ℕ) : Type 0 where
  pub start : ℕ
  pub chain : Chain start es

-- the first `low` and the last `tail` of them do
pub record Sides (es : List ℕ) (low tail : ℕ) : Type 0 where
  pub low_fits : low ≤ length es
  pub tail_fits : tail ≤ length es
  pub front : Side (take low es)
  pub rear : Side (drop (length es - tail) es)

-- the fields, as they stand in all of the work array
abbrev pub shown : Bytes → Bytes → Bytes → List ℕ → Stage → Fields
shown t l w table z = fields_in t l w (places_now table z)

pub record Stands (t l w : Bytes) (table : List ℕ) (z : Stage) : Type 0 where
  pub sources : Sources t l
  pub inside : z.head + z.fields ≤ length table
  pub few : z.fields ≤ max_fields
  pub whole : map length (shown t l w table z) ≡ map length_of (places_now table z)
  pub long : length (array_header z.fields) + z.bytes ≡ length (plain (shown t l w table z))
  pub short : length (plain (shown t l w table z)) ≤ max_tuple
  pub sides : Sides (places_now table z) z.low z.tail

-- the undo list by its entries, where it is within the limits
abbrev pub in_limits : ℕ → ℕ → Bool
in_limits n b = leb n max_operations && leb (length (array_header n) + b) max_list

abbrev pub undo_shown : Bytes → Bytes → Bytes → List ℕ → Stage → List Bytes
undo_shown t l w back z = undo_in t l w (take z.laid back)

unfoldable pub undo_outcome : Bytes → Bytes → Bytes → List ℕ → Stage → Outcome
undo_outcome t l w back z = pick (in_limits z.laid z.back) (bytes (plain (undo_shown t l w back z))) (refusal LongUndo 0)

-- there is an entry for each operation that is laid, with a mark of one byte
pub record Entries (back : List ℕ) (laid : ℕ) : Type 0 where
  pub inside : laid ≤ length back
  pub few : laid ≤ max_operations
  pub marks : (i : ℕ) → i < laid → entry_mark (get_or back i 0) < 2 ^ 8

pub record Undoes (t l w : Bytes) (back : List ℕ) (z : Stage) : Type 0 where
  pub short : z.back < 2 ^ 32
  pub entries : z.laid ≤ max_operations → Entries back z.laid
  pub bytes : z.laid ≤ max_operations → z.back ≡ length (joined (undo_shown t l w back z))

-- what is answered, by what is to be written
abbrev pub Delivers : Result ℕ Refusal → Outcome → Bytes → Bytes → Type 0
Delivers (Err k) o out out' = refusing k 0 out' ≡ delivered o out
Delivers (Ok k) o out out' = written k out' ≡ delivered o out

abbrev pub DeliversBoth : Result (ℕ × ℕ) Refusal → Pressing → Bytes → Bytes → Bytes → Bytes → Type 0
DeliversBoth (Err k) o out out' un un' = declining k 0 out' un' ≡ pressed o out un
DeliversBoth (Ok (n, k)) o out out' un un' = both_written n k out' un' ≡ pressed o out un

-- the fields as a tuple in the spare buffer
abbrev pub Moves : Tried → Fields → Bytes → Bytes → ℕ → ℕ → Type 0
Moves (Err NoRoomYet) fs spare spare' at i = (spare' ≡ spare) × (length spare < max_tuple)
Moves (Err (Moved k a j)) fs spare spare' at i =
    (a ≡ at) × (j ≡ i) × (k ≡ length (plain fs)) × (length (plain fs) ≤ length spare) × (spare' ≡ plain fs ++ drop (length (plain fs)) spare)
Moves (Err (RefusedYet k j)) fs spare spare' at i = ⊥
Moves (Ok k) fs spare spare' at i = ⊥
