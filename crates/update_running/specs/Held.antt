-- Inner: what table, work array and undo entries hold.
use Rattle.std.specs.Prelude.{ℕ, ◌+◌, ◌-◌, ◌*◌, ◌%◌, ◌^◌, ◌≤◌, ◌≡◌, true, List, [], ◌∷◌, ◌++◌, map, eqb, length, take, drop}
use Rattle.msgpack_first_bytes.specs.Bytes.{Bytes, pick}
use Rattle.msgpack_values.specs.Pieces.{joined}
use Rattle.msgpack_writing.specs.Forms.{unsigned_form}
use Rattle.tuples.specs.Limits.{max_fields, max_operations, max_list}
use Rattle.tuples.specs.Tuple.{Fields}
use Rattle.tuples.specs.Edit.{operation_bytes, fits}
use Rattle.update_places.specs.Place.{length_of, bytes_at, fields_in, Chain}
use Rattle.update_table.specs.Table.{window}
use Rattle.update_running.specs.declared.Stage.{Stage}
use Rattle.update_running.specs.Steps.{entry_mark, entry_field, entry_place}

-- the entries in use, and THE FIELDS of the tuple under work; the cut at `used` says that no field stands in bytes that are still to be written
abbrev pub places_now : List ℕ → Stage → List ℕ
places_now table z = window z.head z.fields table

abbrev pub fields_now : Bytes → Bytes → Bytes → List ℕ → Stage → Fields
fields_now t l w table z = fields_in t l (take z.used w) (places_now table z)

-- an operation of the undo list; `#` has 1 for its argument
unfoldable pub entry_bytes : Bytes → Bytes → Bytes → ℕ → Bytes
entry_bytes t l w e = operation_bytes (entry_mark e) (entry_field e) (pick (eqb (entry_mark e) 0x23) (unsigned_form 1) (bytes_at t l w (entry_place e)))

-- the operations of the undo list: what was laid last comes first
unfoldable pub undo_in : Bytes → Bytes → Bytes → List ℕ → List Bytes
undo_in t l w [] = []
undo_in t l w (e ∷ es) = undo_in t l w es ++ (entry_bytes t l w e ∷ [])

-- a place as an entry of the undo list has it
unfoldable pub in_word : ℕ → ℕ
in_word p = p % 2 ^ 32

-- with `left` operations to come, and the operations us on the undo list
pub record Held (t l w : Bytes) (table back : List ℕ) (left : ℕ) (z : Stage) (us : List Bytes) : Type 0 where
  -- each field's place lies whole in its source
  pub whole : map length (fields_now t l w table z) ≡ map length_of (places_now table z)
  -- and has 32 bits
  pub small : map in_word (places_now table z) ≡ places_now table z
  pub bytes : z.bytes ≡ length (joined (fields_now t l w table z))
  pub fit : fits (fields_now t l w table z) ≡ true
  pub used : z.used ≤ length w
  -- a free entry on both sides for each operation that is left
  pub below : left ≤ z.head
  pub above : z.head + z.fields + left ≤ length table
  -- the first `low` and the last `tail` fields lie side by side
  pub low : z.low ≤ z.fields
  pub tail : z.tail ≤ z.fields
  pub front_at : ℕ
  pub front : Chain front_at (take z.low (places_now table z))
  pub rear_at : ℕ
  pub rear : Chain rear_at (drop (z.fields - z.tail) (places_now table z))
  -- the undo list: its operations are counted, and laid as far as there is room
  pub laid : z.laid ≡ length us
  pub back_bytes : z.back ≡ length (joined us)
  pub olds : z.laid ≤ length back → undo_in t l (take z.used w) (take z.laid back) ≡ us
  pub olds_whole : z.laid ≤ length back
      → map (λ (e : ℕ). length (bytes_at t l (take z.used w) (entry_place e))) (take z.laid back) ≡ map (λ (e : ℕ). length_of (entry_place e)) (take z.laid back)
  -- what was computed is a field still, or stands in the undo list
  pub log : z.used ≤ z.bytes + z.back
  pub few_laid : z.laid + left * max_fields ≤ max_operations * max_fields
  pub short_back : z.back + left * max_list ≤ max_operations * max_list
