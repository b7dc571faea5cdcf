-- Inner: what a list comes to on a tuple: "In updating: 11, 12, then per operation 13 to 16".
use Rattle.std.specs.Prelude.{ℕ, ◌+◌, ◌-◌, ◌<◌, ◌≤◌, ◌≡◌, ◌&&◌, ◌⊎◌, List, [], leb, ltb, length, drop, Ok, Err, Result}
use Rattle.std.proofs.Math.Option.{Option, none, some}
use Rattle.msgpack_first_bytes.specs.Bytes.{Bytes, pick}
use Rattle.msgpack_values.specs.Value.{value}
use Rattle.msgpack_values.specs.Pieces.{Each}
use Rattle.tuples.specs.Limits.{max_fields, max_tuple, field_depth, max_operations, max_list}
use Rattle.tuples.specs.Tuple.{Fields, plain}
use Rattle.tuples.specs.Operation.{Operation, operations}
use Rattle.tuples.specs.Edit.{plans, Run, refused, done, run, undo_of}
use Rattle.tuples.specs.declared.Refusal.{Refusal}
use Rattle.tuples.specs.declared.Refusal.TheVariants.{BadTuple, BadList}
use Rattle.update_places.specs.Place.{Sources}
use Rattle.update_loading.specs.declared.Unloaded.{Unloaded, TheVariants.Bad}
use Rattle.update_loading.specs.declared.Unloaded.TheVariants as Loading
use Rattle.update_running.specs.declared.Stage.{Stage}
use Rattle.update_running.specs.Course.{Course}
use Rattle.update_running.specs.Held.{fields_now, Held}
use Rattle.update_running.specs.declared.Unfinished.TheVariants.{Full, NoRoom, Refused}
use Rattle.update_running.specs.declared.Unfinished.{Unfinished}

-- the stage after all operations, or why there is none
abbrev pub Ran : Type 0
Ran = Result Stage Unfinished

-- a refusal with the operation's index; or the fields that are made
pub data Came : Type 0 where
  stops : Refusal → ℕ → Came
  makes : Fields → Came

abbrev pub came_by : Run → Came
came_by (refused k i) = stops k i
came_by (done u) = makes u

-- operations from the i-th on
unfoldable pub comes_to : ℕ → Option Fields → Option (List Operation) → Came
comes_to i none os = stops BadTuple 0
comes_to i (some t) none = stops BadList 0
comes_to i (some t) (some os) = came_by (run i (plans os) t)

-- what takes them back
unfoldable pub takes_back : Option Fields → Option (List Operation) → List Bytes
takes_back none os = []
takes_back (some t) none = []
takes_back (some t) (some os) = undo_of (plans os) t

-- the operations from the i-th on, of n that a list has; the i-th stands at a place; none where the list was refused, which a count past the limit says
unfoldable pub rest_of : ℕ → ℕ → ℕ → ℕ → Bytes → Option (List Operation)
rest_of base n i at l = pick (leb n max_operations && leb (length l) max_list) (operations base (n - i) (drop at l)) none

-- the table has room for every tuple and list; a work array is not longer than the numbering of places allows
abbrev pub table_room : ℕ
table_room = max_fields + (max_operations + max_operations)

abbrev pub work_room : ℕ
work_room = max_tuple + max_list

-- of a run on the fields T, by the tuple and the list of which table and work array tell: the operation at `at`, the i-th, has no room in the
-- work array, and all before it are performed
pub record Stalled (T : Option Fields) (t l w : Bytes) (table back : List ℕ) (base n first start i at : ℕ) (z : Stage) : Type 0 where
  pub us : List Bytes
  pub held : Held t l w table back (n - i) z us
  pub sources : Sources t l
  pub goes : comes_to first T (rest_of base n first start l) ≡ comes_to i (some (fields_now t l w table z)) (rest_of base n i at l)
  pub legal : Each (value field_depth) (fields_now t l w table z)
  pub on : (first < i) ⊎ (length w < max_tuple)
  pub within : i < n
  -- all that was computed is a field or stands in the undo list: where the longest work array is full, 17 is due
  pub long : work_room ≤ length w → (u : Fields) → comes_to first T (rest_of base n first start l) ≡ makes u
      → max_list < length (plain (takes_back T (rest_of base n first start l)))

-- the fields that are made are held, and what takes them back
pub record Carried (T : Option Fields) (t l w : Bytes) (table back : List ℕ) (base n first start : ℕ) (z : Stage) : Type 0 where
  pub us : List Bytes
  pub held : Held t l w table back 0 z us
  pub sources : Sources t l
  pub goes : comes_to first T (rest_of base n first start l) ≡ makes (fields_now t l w table z)
  pub undoes : takes_back T (rest_of base n first start l) ≡ us

abbrev pub Carries : Ran → Option Fields → Bytes → Bytes → Bytes → List ℕ → List ℕ → ℕ → ℕ → ℕ → ℕ → Type 0
Carries (Err NoRoom) T t l w table back base n first start = (length table < table_room) ⊎ (work_room < length w)
Carries (Err (Full z at i)) T t l w table back base n first start = Stalled T t l w table back base n first start i at z
Carries (Err (Refused k i)) T t l w table back base n first start = (comes_to first T (rest_of base n first start l) ≡ stops k i) × (i ≤ max_operations)
Carries (Ok z) T t l w table back base n first start = Carried T t l w table back base n first start z

-- where a run begins: the fields of the tuple are held, no operation of the list is laid, and the list is not too long
pub record Begun (t l w : Bytes) (table back : List ℕ) (n first : ℕ) (z : Stage) : Type 0 where
  pub held : Held t l w table back (n - first) z []
  pub sources : Sources t l
  pub few : n ≤ max_operations
  pub short : length l ≤ max_list
  pub work : length w ≤ work_room
  pub legal : Each (value field_depth) (fields_now t l w table z)
  pub used : z.used ≡ 0

-- why a list is not done whose tuple is not loaded
abbrev pub unfinished_by : Unloaded → Unfinished
unfinished_by Bad = Refused BadTuple 0
unfinished_by Loading.NoRoom = NoRoom

-- all operations are read, up to a place: the list ends there, or it is refused
abbrev pub finishes_by : Course → Ran
finishes_by (Ok z) = Ok z
finishes_by (Err (k, i)) = Err (Refused k i)

unfoldable pub finishing : Course → ℕ → Bytes → Ran
finishing c at l = pick (ltb at (length l)) (Err (Refused BadList 0)) (finishes_by c)
