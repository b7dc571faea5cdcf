-- The update call and the undo call: what a caller sees.
use Rattle.std.specs.Prelude.{ℕ, ◌&&◌, List, ◌++◌, leb, eqb, length, drop}
use Rattle.std.proofs.Math.Option.{Option, none, some}
use Rattle.msgpack_first_bytes.specs.Bytes.{Bytes, pick}
use Rattle.msgpack_values.specs.Spoiled.{no_place, spoiled_at}
use Rattle.msgpack_values.specs.declared.OptionalNumber.{OptionalNumber}
use Rattle.tuples.specs.Limits.{tuple_depth, list_depth, max_operations, max_list}
use Rattle.tuples.specs.Tuple.{Fields, plain, fields_of}
use Rattle.tuples.specs.Operation.{Operation, operations_of}
use Rattle.tuples.specs.Edit.{Plan, plans, Run, refused, done, run, undo_of}
use Rattle.tuples.specs.declared.Refusal.{Refusal}
use Rattle.tuples.specs.declared.Refusal.TheVariants.{BadTuple, BadList, NoField, Unsuited, OutOfRange, TooLarge, LongUndo, ShortBuffer}

-- 01's table of refusal numbers
abbrev pub number_of : Refusal → ℕ
number_of BadTuple = 11
number_of BadList = 12
number_of NoField = 13
number_of Unsuited = 14
number_of OutOfRange = 15
number_of TooLarge = 16
number_of LongUndo = 17
number_of ShortBuffer = 18

-- what is to be written, or why not, with the operation's index
pub data Outcome : Type 0 where
  refusal : Refusal → ℕ → Outcome
  bytes : Bytes → Outcome

-- "In updating: 11, 12, then per operation 13 to 16, then 17 (undo only), 18."
unfoldable pub judged : Option Fields → Option (List Operation) → (Fields → List Plan → Outcome) → Outcome
judged none os go = refusal BadTuple 0
judged (some t) none go = refusal BadList 0
judged (some t) (some os) go = go t (plans os)

unfoldable pub on_run : Run → (Fields → Outcome) → Outcome
on_run (refused k i) go = refusal k i
on_run (done t) go = go t

-- "The result has the shortest array header"
unfoldable pub update_of : Fields → List Plan → Outcome
update_of t ps = on_run (run 0 ps t) (λ u. bytes (plain u))

-- "17: undo list above 64 operations or 32,768 bytes"
unfoldable pub limited_list : List Bytes → Outcome
limited_list us = pick (leb (length us) max_operations && leb (length (plain us)) max_list) (bytes (plain us)) (refusal LongUndo 0)

unfoldable pub undo_list_of : Fields → List Plan → Outcome
undo_list_of t ps = on_run (run 0 ps t) (λ u. limited_list (undo_of ps t))

-- of a tuple, a list and an index base
unfoldable pub update : Bytes → Bytes → ℕ → Outcome
update t l b = judged (fields_of t) (operations_of b l) update_of

unfoldable pub undo : Bytes → Bytes → ℕ → Outcome
undo t l b = judged (fields_of t) (operations_of b l) undo_list_of

-- what a caller sees: the answer, and the lent buffer afterwards
pub record Result : Type 0 where
  pub number : ℕ
  pub operation : ℕ
  pub length : ℕ
  pub place : OptionalNumber
  pub buffer : Bytes

-- "A refusal answers its number, with length 0 ...; buffers keep their bytes. 13 to 16 also give the operation's index from 0; all others give 0 there."
unfoldable pub refusing : Refusal → ℕ → Bytes → Result
refusing k i out = record { number = number_of k; operation = i; length = 0; place = no_place; buffer = out }

-- "An accepted call answers 0 with the length written"; "bytes past the written length are unchanged"
unfoldable pub writing : Bytes → Bytes → Result
writing w out = record { number = 0; operation = 0; length = length w; place = no_place; buffer = w ++ drop (length w) out }

-- "18: the lent buffer is too short"
unfoldable pub delivered : Outcome → Bytes → Result
delivered (refusal k i) out = refusing k i out
delivered (bytes w) out = pick (leb (length w) (length out)) (writing w out) (refusing ShortBuffer 0 out)

-- 02, 3/12: "also inside tuples and lists for 11 and 12 where a broken value is the cause; a place is given exactly then, too deep included,
-- whichever other cause stands beside it": by the number that a call answers on the tuple t and the list l
unfoldable pub spoiled_in : ℕ → Bytes → Bytes → OptionalNumber
spoiled_in n t l = pick (eqb n 11) (spoiled_at tuple_depth 0 t) (pick (eqb n 12) (spoiled_at list_depth 0 l) no_place)

unfoldable pub with_place : Bytes → Bytes → Result → Result
with_place t l r =
    record { number = r.number; operation = r.operation; length = r.length; place = spoiled_in r.number t l; buffer = r.buffer }

-- THE TWO CALLS: tuple, list, index base, output buffer
unfoldable pub update_call : Bytes → Bytes → ℕ → Bytes → Result
update_call t l b out = with_place t l (delivered (update t l b) out)

unfoldable pub undo_call : Bytes → Bytes → ℕ → Bytes → Result
undo_call t l b out = with_place t l (delivered (undo t l b) out)
