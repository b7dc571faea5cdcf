-- Inner: what a list came to on a tuple, as the calls write it, with arrays of some room to work in.
use Rattle.std.specs.Prelude.{ℕ, ◌<◌, ◌≤◌, ◌≡◌, ◌⊎◌, List, ◌++◌, length, drop, Ok, Err, Result}
use Rattle.std.proofs.Math.Option.{some}
use Rattle.msgpack_first_bytes.specs.Bytes.{Bytes}
use Rattle.msgpack_values.specs.Spoiled.{no_place}
use Rattle.tuples.specs.Limits.{max_tuple, max_operations}
use Rattle.tuples.specs.Tuple.{Fields, plain, fields_of}
use Rattle.tuples.specs.Call.{Outcome, refusal, bytes, limited_list, Result as CallResult, refusing, delivered}
use Rattle.tuples.specs.Press.{pressing, PressResult, declining, pressed}
use Rattle.tuples.specs.declared.Refusal.TheVariants.{LongUndo}
use Rattle.update_running.specs.Carrying.{Came, stops, makes, comes_to, rest_of, table_room, work_room}
use Rattle.update_delivering.specs.declared.Failed.TheVariants.{NoRoom, Refused}
use Rattle.update_delivering.specs.declared.Unwritten.TheVariants.{Moved, NoRoom as NoRoomYet, Refused as RefusedYet}
use Rattle.update_running.specs.declared.Unfinished.{Unfinished}
use Rattle.update_running.specs.declared.Unfinished.TheVariants.{Full, NoRoom as NoRoomHere, Refused as RefusedHere}
use Rattle.update_delivering.specs.declared.Failed.{Failed}
use Rattle.update_delivering.specs.declared.Unwritten.{Unwritten}

-- the length written, or why nothing is
abbrev pub Tried : Type 0
Tried = Result ℕ Unwritten

-- the length of an undo list, or why nothing is written
abbrev pub Undone : Type 0
Undone = Result ℕ Failed

-- both lengths written, or why nothing is
abbrev pub Pressed : Type 0
Pressed = Result (ℕ × ℕ) Failed

-- why nothing is written: where the work array is full, there is no room in it
abbrev pub failed_of : Unfinished → Failed
failed_of NoRoomHere = NoRoom
failed_of (Full z at i) = NoRoom
failed_of (RefusedHere k i) = Refused k i

abbrev pub call_failed : Unwritten → Failed
call_failed NoRoomYet = NoRoom
call_failed (Moved n at i) = NoRoom
call_failed (RefusedYet k i) = Refused k i

-- what is to be written: the new tuple, and the undo list
abbrev pub update_by : Came → Outcome
update_by (stops k i) = refusal k i
update_by (makes u) = bytes (plain u)

abbrev pub undo_by : Came → List Bytes → Outcome
undo_by (stops k i) us = refusal k i
undo_by (makes u) us = limited_list us

-- 17, where nothing is refused before
abbrev pub long_by : Came → Outcome
long_by (stops k i) = refusal k i
long_by (makes u) = refusal LongUndo 0

-- an accepted call, without a place
abbrev pub written : ℕ → Bytes → CallResult
written n out = record { number = 0; operation = 0; length = n; place = no_place; buffer = out }

abbrev pub both_written : ℕ → ℕ → Bytes → Bytes → PressResult
both_written n k out un = record { number = 0; operation = 0; length = n; undo_length = k; place = no_place; buffer = out; undo_buffer = un }

-- the arrays lack room for every tuple and list
abbrev pub Lacks : List ℕ → Bytes → Type 0
Lacks table work = (length table < table_room) ⊎ (work_room < length work)

-- the work array was full at the i-th operation, at a place of the list: the fields up to there stand as a tuple in the spare buffer
pub record Rebased (c : Came) (l work spare spare' : Bytes) (base n first k at i : ℕ) : Type 0 where
  pub fields : Fields
  pub read : fields_of (plain fields) ≡ some fields
  pub goes : c ≡ comes_to i (some fields) (rest_of base n i at l)
  pub buffer : spare' ≡ plain fields ++ drop (length (plain fields)) spare
  pub long : k ≡ length (plain fields)
  pub short : length (plain fields) ≤ length spare
  pub on : (first < i) ⊎ (length work < max_tuple)
  pub within : i < n

-- c is what the list came to
abbrev pub TriesUpdate : Tried → Came → Bytes → Bytes → Bytes → Bytes → Bytes → Bytes → List ℕ → ℕ → ℕ → ℕ → Type 0
TriesUpdate (Err NoRoomYet) c l out out' spare spare' work table base n first = (out' ≡ out) × (spare' ≡ spare) × (Lacks table work ⊎ (length spare < max_tuple))
TriesUpdate (Err (Moved k at i)) c l out out' spare spare' work table base n first = (out' ≡ out) × Rebased c l work spare spare' base n first k at i
TriesUpdate (Err (RefusedYet k i)) c l out out' spare spare' work table base n first = (refusing k i out' ≡ delivered (update_by c) out) × (spare' ≡ spare) × (i ≤ max_operations)
TriesUpdate (Ok k) c l out out' spare spare' work table base n first = (written k out' ≡ delivered (update_by c) out) × (spare' ≡ spare)

-- us is what takes it back
abbrev pub TriesUndo : Undone → Came → List Bytes → Bytes → Bytes → Bytes → List ℕ → Type 0
TriesUndo (Err NoRoom) c us out out' work table = (out' ≡ out) × (Lacks table work ⊎ (length work < work_room) ⊎ (undo_by c us ≡ long_by c))
TriesUndo (Err (Refused k i)) c us out out' work table = (refusing k i out' ≡ delivered (undo_by c us) out) × (i ≤ max_operations)
TriesUndo (Ok k) c us out out' work table = written k out' ≡ delivered (undo_by c us) out

abbrev pub TriesPress : Pressed → Came → List Bytes → Bytes → Bytes → Bytes → Bytes → Bytes → List ℕ → Type 0
TriesPress (Err NoRoom) c us out out' un un' work table = (out' ≡ out) × (un' ≡ un) × (Lacks table work ⊎ (length work < work_room) ⊎ (undo_by c us ≡ long_by c))
TriesPress (Err (Refused k i)) c us out out' un un' work table = (declining k i out' un' ≡ pressed (pressing (update_by c) (undo_by c us)) out un) × (i ≤ max_operations)
TriesPress (Ok (n, k)) c us out out' un un' work table = both_written n k out' un' ≡ pressed (pressing (update_by c) (undo_by c us)) out un
