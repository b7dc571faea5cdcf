-- What operations do to a tuple's fields, and what takes it back.
use Rattle.std.specs.Prelude.{ℕ, suc, ◌+◌, ◌-◌, ◌^◌, min, Bool, ◌&&◌, List, [], ◌∷◌, ◌++◌, leb, ltb, eqb, ℤ, pos, negsuc, ◌+ℤ◌, ◌-ℤ◌, length, get_or, take, drop}
use Rattle.std.proofs.Math.Option.{Option, none, some}
use Rattle.std.specs.Int.Bits.{bit_and, bit_or, bit_xor}
use Rattle.msgpack_first_bytes.specs.Bytes.{Bytes, pick}
use Rattle.msgpack_scalars.specs.declared.Int.{Int}
use Rattle.msgpack_scalars.specs.declared.Int.TheVariants.{FromZero, BelowZero}
use Rattle.msgpack_writing.specs.Forms.{unsigned_form, negative_form, string_header, string_form, array_header}
use Rattle.tuples.specs.Limits.{max_fields, max_tuple}
use Rattle.tuples.specs.Tuple.{Fields, plain}
use Rattle.tuples.specs.Decoding.{Got, fails, gets, Decoder, any_integer, at_least, string}
use Rattle.tuples.specs.Operation.{Action, plus, minus, and, xor, or, assign, insert, remove, splice, Operation}
use Rattle.tuples.specs.declared.Refusal.{Refusal}
use Rattle.tuples.specs.declared.Refusal.TheVariants.{NoField, Unsuited, OutOfRange, TooLarge}

-- what an operation does to the fields that it meets: it is refused; it puts a field for another, adds one before f, or cuts m from f on
pub data Edit : Type 0 where
  refuse : Refusal → Edit
  put add : ℕ → Bytes → Edit
  cut : ℕ → ℕ → Edit

-- ---- computed and spliced fields: "Numbers computed by `+ - & ^ |` and spliced strings take their shortest form"

unfoldable pub asℤ : Int → ℤ
asℤ (FromZero n) = pos n
asℤ (BelowZero m) = negsuc m

-- "a result out of range is refused": "range -2^63 to 2^64-1"
unfoldable pub ranged : ℤ → Option Bytes
ranged (pos n) = pick (ltb n (2 ^ 64)) (some (unsigned_form n)) none
ranged (negsuc m) = pick (ltb m (2 ^ 63)) (some (negative_form m)) none

-- from p on, c go and a comes in their place: "p past the string's end means its end; a count past the end stops there", as take and drop do
unfoldable pub spliced : {A : Type 0} → ℕ → ℕ → List A → List A → List A
spliced p c a s = take p s ++ (a ++ drop (p + c) s)

-- "15: sum or difference out of range"
unfoldable pub became : ℕ → Option Bytes → Edit
became f none = refuse OutOfRange
became f (some b) = put f b

module _ {A : Type 0} where
  -- "14: the field's type or sign does not suit"
  unfoldable pub suited : ℕ → Got A → (A → Option Bytes) → Edit
  suited f fails change = refuse Unsuited
  suited f (gets a s) change = became f (change a)

  -- field f becomes what `change` makes of it, where it is what `read` reads
  unfoldable pub altered : Decoder A → (A → Option Bytes) → ℕ → Fields → Edit
  altered read change f t = pick (ltb f (length t)) (suited f (read (get_or t f [])) change) (refuse NoField)

-- ---- the nine marks; "f and p are the numbers after the base is taken off, and n the present number of fields"

unfoldable pub edit_at : Action → ℕ → Fields → Edit
-- "field and argument integers, f < n; a result out of range is refused"
edit_at (plus v) f t = altered any_integer (λ z. ranged (asℤ z +ℤ asℤ v)) f t
edit_at (minus v) f t = altered any_integer (λ z. ranged (asℤ z -ℤ asℤ v)) f t
-- "both integers at least 0, f < n"
edit_at (and v) f t = altered (at_least 0) (λ n. some (unsigned_form (bit_and n v))) f t
edit_at (xor v) f t = altered (at_least 0) (λ n. some (unsigned_form (bit_xor n v))) f t
edit_at (or v) f t = altered (at_least 0) (λ n. some (unsigned_form (bit_or n v))) f t
-- "f < n assigns, f = n appends"
edit_at (assign b) f t = pick (ltb f (length t)) (put f b) (pick (eqb f (length t)) (add f b) (refuse NoField))
-- "inserted before f, f at most n"
edit_at (insert b) f t = pick (leb f (length t)) (add f b) (refuse NoField)
-- "f < n; removes that many fields, or all that remain if fewer"
edit_at (remove m) f t = pick (ltb f (length t)) (cut f (min m (length t - f))) (refuse NoField)
-- "string field, f < n ... The bytes there are replaced by the argument."
edit_at (splice p c a) f t = altered string (λ s. some (string_form (spliced p c a s))) f t

-- "13: f below 0 or past what the operation allows"
unfoldable pub field_at : Int → (ℕ → Edit) → Edit
field_at (FromZero f) edit = edit f
field_at (BelowZero m) edit = refuse NoField

-- a plan is what is done to the fields that are met
abbrev pub Plan : Type 0
Plan = Fields → Edit

unfoldable pub plan_of : Operation → Plan
plan_of o t = field_at o.number (λ f. edit_at o.action f t)

unfoldable pub plans : List Operation → List Plan
plans [] = []
plans (o ∷ os) = plan_of o ∷ plans os

-- ---- "Operations run left to right, each on what the one before left."

pub data Step : Type 0 where
  stop : Refusal → Step
  next : Fields → Step

-- "16: more than 64 fields, or more than 16,384 bytes, after an operation"; "sizes for 16 are counted with" the shortest array header
unfoldable pub fits : Fields → Bool
fits t = leb (length t) max_fields && leb (length (plain t)) max_tuple

unfoldable pub limited : Fields → Step
limited t = pick (fits t) (next t) (stop TooLarge)

-- "an assigned, appended or inserted field is the argument's own bytes, and all others keep theirs"
unfoldable pub perform : Edit → Fields → Step
perform (refuse k) t = stop k
perform (put f b) t = limited (spliced f 1 (b ∷ []) t)
perform (add f b) t = limited (spliced f 0 (b ∷ []) t)
perform (cut f m) t = limited (spliced f m [] t)

unfoldable pub step : Plan → Fields → Step
step p t = perform (p t) t

pub data Run : Type 0 where
  refused : Refusal → ℕ → Run
  done : Fields → Run

abbrev pub onward : ℕ → Step → (Fields → Run) → Run
onward i (stop k) go = refused k i
onward i (next t) go = go t

-- plans from the index i on
unfoldable pub run : ℕ → List Plan → Fields → Run
run i [] t = done t
run i (p ∷ ps) t = onward i (step p t) (run (suc i) ps)

-- ---- "Undo list ...: for each operation, from the last to the first"

-- an operation of three: "Numbers from 0, everything shortest except the old fields' own bytes"
unfoldable pub operation_bytes : ℕ → ℕ → Bytes → Bytes
operation_bytes c f argument = array_header 3 ++ (string_header 1 ++ (c ∷ (unsigned_form f ++ argument)))

-- "for m removed fields, m times `! f`, with the last removed field first"
unfoldable pub restored : ℕ → Fields → List Bytes
restored f [] = []
restored f (x ∷ xs) = restored f xs ++ (operation_bytes 0x21 f x ∷ [])

-- "`= f old` for an assigned, computed or spliced field; `# f 1` for an appended or inserted one"; t are the fields "as that operation met them"
unfoldable pub inverse : Edit → Fields → List Bytes
inverse (refuse k) t = []
inverse (put f b) t = operation_bytes 0x3d f (get_or t f []) ∷ []
inverse (add f b) t = operation_bytes 0x23 f (unsigned_form 1) ∷ []
inverse (cut f m) t = restored f (take m (drop f t))

abbrev pub on_step : Step → (Fields → List Bytes) → List Bytes
on_step (stop k) go = []
on_step (next t) go = go t

-- the operations of the undo list
unfoldable pub undo_of : List Plan → Fields → List Bytes
undo_of [] t = []
undo_of (p ∷ ps) t = on_step (step p t) (undo_of ps) ++ inverse (p t) t
