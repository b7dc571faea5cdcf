-- A list of operations.
use Rattle.std.specs.Prelude.{ℕ, zero, suc, ◌&&◌, List, [], ◌∷◌, leb, eqb, length}
use Rattle.std.proofs.Math.Option.{Option, none, some}
use Rattle.msgpack_first_bytes.specs.Bytes.{Bytes, pick}
use Rattle.msgpack_scalars.specs.declared.Int.{Int}
use Rattle.tuples.specs.Limits.{max_operations, max_list}
use Rattle.tuples.specs.Decoding.{Got, fails, gets, Decoder, then, made, nothing, any_value, any_integer, less, at_least, position, string, count, mark}

-- the nine marks, each with its argument; of a splice the position (from 0), the count and the argument
pub data Action : Type 0 where
  plus minus : Int → Action
  and xor or : ℕ → Action
  assign insert : Bytes → Action
  remove : ℕ → Action
  splice : ℕ → ℕ → Bytes → Action

-- an action on the field of a number, after the base is taken off
pub record Operation : Type 0 where
  pub number : Int
  pub action : Action

-- "an array of three, mark, field number (an integer), argument"
unfoldable pub three : ℕ → Decoder Action
three c =
    pick (eqb c 0x2b) (made plus any_integer)  -- +
    (pick (eqb c 0x2d) (made minus any_integer)  -- -
    (pick (eqb c 0x26) (made and (at_least 0))  -- &
    (pick (eqb c 0x5e) (made xor (at_least 0))  -- ^
    (pick (eqb c 0x7c) (made or (at_least 0))  -- |
    (pick (eqb c 0x3d) (made assign any_value)  -- =
    (pick (eqb c 0x21) (made insert any_value)  -- !
    (pick (eqb c 0x23) (made remove (at_least 1)) nothing)))))))  -- #

-- "`:` has five, mark, field number, position, count, argument"
unfoldable pub five : ℕ → ℕ → Decoder Action
five base c = pick (eqb c 0x3a) (then (position base) (λ p. then (at_least 0) (λ k. made (splice p k) string))) nothing  -- :

unfoldable pub action_of : ℕ → ℕ → ℕ → Decoder Action
action_of base n c = pick (eqb n 3) (three c) (pick (eqb n 5) (five base c) nothing)

unfoldable pub operation : ℕ → Decoder Operation
operation base =
    then count (λ n. then mark (λ c. then any_integer (λ z. made (λ a. record { number = less base z; action = a }) (action_of base n c))))

unfoldable pub before : Operation → Option (List Operation) → Option (List Operation)
before o none = none
before o (some os) = some (o ∷ os)

unfoldable pub and_more : Got Operation → (Bytes → Option (List Operation)) → Option (List Operation)
and_more fails more = none
and_more (gets o s) more = before o (more s)

-- n operations that fill the bytes
unfoldable pub operations : ℕ → ℕ → Bytes → Option (List Operation)
operations base zero [] = some []
operations base zero (b ∷ s) = none
operations base (suc n) s = and_more (operation base s) (operations base n)

unfoldable pub list_by : ℕ → Got ℕ → Option (List Operation)
list_by base fails = none
list_by base (gets n s) = pick (leb n max_operations) (operations base n s) none

-- the operations of a list; none for "12: list outside them: shape, mark, field number's type, argument's type or range, depth,
-- p below 0, index base not 0 or 1"
unfoldable pub operations_of : ℕ → Bytes → Option (List Operation)
operations_of base l = pick (leb base 1 && leb (length l) max_list) (list_by base (count l)) none
