-- Inner: what a call comes to, in arrays of some room.
use mathlib.Core.Logic.{◌⊎◌}
use Rattle.std.specs.Prelude.{ℕ, ◌≤◌, ◌≡◌, Ok, Err, Result}
use Rattle.msgpack_first_bytes.specs.Bytes.{Bytes}
use Rattle.msgpack_values.specs.Spoiled.{no_place}
use Rattle.tuples.specs.Limits.{max_operations}
use Rattle.tuples.specs.Tuple.{fields_of}
use Rattle.tuples.specs.Operation.{operations_of}
use Rattle.tuples.specs.Call.{number_of, Outcome, refusing, delivered, spoiled_in}
use Rattle.tuples.specs.Press.{Pressing, declining, pressed}
use Rattle.tuples.specs.declared.Answer.{Answer}
use Rattle.tuples.specs.declared.PressAnswer.{PressAnswer}
use Rattle.tuples.specs.declared.Refusal.TheVariants.{TooLarge}
use Rattle.update_answers.specs.Seen.{refusal_of, answer_at}
use Rattle.update_running.specs.Carrying.{Came, comes_to, rest_of}
use Rattle.update_delivering.specs.Delivering.{long_by, written, both_written, Pressed}
use Rattle.update_delivering.specs.declared.Failed.TheVariants.{NoRoom, Refused}
use Rattle.update_delivering.specs.declared.Failed.{Failed}

-- the length written, or why nothing is
abbrev pub Call : Type 0
Call = Result ℕ Failed

-- what the front of a list tells: so many operations from a place on are the list's
abbrev pub Fronts : ℕ → Bytes → ℕ → ℕ → Type 0
Fronts base l count start = rest_of base count 0 start l ≡ operations_of base l

-- what a list comes to on a tuple
abbrev pub came_of : Bytes → Bytes → ℕ → Came
came_of t l base = comes_to 0 (fields_of t) (operations_of base l)

-- what is due is told; or nothing is written, and more room is needed
abbrev pub Tells : Call → Outcome → Bytes → Bytes → Type 0
Tells (Err NoRoom) o out left = left ≡ out
Tells (Err (Refused k i)) o out left = (refusing k i left ≡ delivered o out) × (i ≤ max_operations)
Tells (Ok n) o out left = written n left ≡ delivered o out

-- what is due is told, in any case
abbrev pub Told : Call → Outcome → Bytes → Bytes → Type 0
Told (Err NoRoom) o out left = ⊥
Told (Err (Refused k i)) o out left = (refusing k i left ≡ delivered o out) × (i ≤ max_operations)
Told (Ok n) o out left = written n left ≡ delivered o out

-- of an undo list: .. or nothing is written, and 17 is due where nothing is refused before
abbrev pub ToldOrLong : Call → Outcome → Came → Bytes → Bytes → Type 0
ToldOrLong (Err NoRoom) o c out left = (left ≡ out) × (o ≡ long_by c)
ToldOrLong (Err (Refused k i)) o c out left = (refusing k i left ≡ delivered o out) × (i ≤ max_operations)
ToldOrLong (Ok n) o c out left = written n left ≡ delivered o out

-- the same of a press
abbrev pub PressTells : Pressed → Pressing → Bytes → Bytes → Bytes → Bytes → Type 0
PressTells (Err NoRoom) p out left un undone = (left ≡ out) × (undone ≡ un)
PressTells (Err (Refused k i)) p out left un undone = (declining k i left undone ≡ pressed p out un) × (i ≤ max_operations)
PressTells (Ok (n, m)) p out left un undone = both_written n m left undone ≡ pressed p out un

abbrev pub PressToldOrLong : Pressed → Pressing → Outcome → Came → Bytes → Bytes → Bytes → Bytes → Type 0
PressToldOrLong (Err NoRoom) p o c out left un undone = (left ≡ out) × (undone ≡ un) × (o ≡ long_by c)
PressToldOrLong (Err (Refused k i)) p o c out left un undone = (declining k i left undone ≡ pressed p out un) × (i ≤ max_operations)
PressToldOrLong (Ok (n, m)) p o c out left un undone = both_written n m left undone ≡ pressed p out un

-- a refusal, by its number
abbrev pub Refuses : Call → Outcome → Type 0
Refuses (Err NoRoom) o = ⊥
Refuses (Err (Refused k i)) o = ((out : Bytes) → refusing k i out ≡ delivered o out) × (i ≤ max_operations)
Refuses (Ok n) o = ⊥

-- ---- answers

abbrev pub answer_by : Call → Bytes → Bytes → Answer
answer_by (Err NoRoom) t l = refusal_of TooLarge 0
answer_by (Err (Refused k i)) t l = answer_at (spoiled_in (number_of k) t l) (refusal_of k i)
answer_by (Ok n) t l = record { number = 0; operation = 0; length = n; place = no_place }

abbrev pub FewIn : Call → Type 0
FewIn (Err NoRoom) = Unit {0}
FewIn (Err (Refused k i)) = i ≤ max_operations
FewIn (Ok n) = Unit {0}

abbrev pub press_answer_by : Answer → ℕ → PressAnswer
press_answer_by a n = record { number = a.number; operation = a.operation; length = a.length; undo_length = n; place = a.place }

-- ---- tries

-- a call in some arrays
abbrev pub Once : {F A B R : Type 0} → (F → A → B → Result R Failed → A → B → F → Type 0) → F → Result R Failed → F → Type 0
Once {F} {A} {B} {R} step f r f' = (a : A) × (b : B) × (a' : A) × (b' : B) × step f a b r a' b' f'

-- .. and where these have no room, in others
abbrev pub Tries : {F A B R : Type 0} → (F → A → B → Result R Failed → A → B → F → Type 0) → F → Result R Failed → F → Type 0
Tries {F} {A} {B} {R} step f r f' = Once step f r f' ⊎ ((g : F) × Once step f (Err NoRoom) g × Once step g r f')
