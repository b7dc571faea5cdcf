-- Inner: what the code finds in a list's bytes, as what the definitions get from them.
use Rattle.std.specs.Prelude.{ℕ, ◌-◌, true, false, eqb, length, Some, None, Option}
use Rattle.msgpack_first_bytes.specs.Bytes.{Bytes, pick}
use Rattle.msgpack_scalars.specs.declared.Int.{Int}
use Rattle.msgpack_scalars.specs.declared.Int.TheVariants.{FromZero, BelowZero}
use Rattle.tuples.specs.Decoding.{Got, Decoder, then, made, any_integer, count, mark}
use Rattle.tuples.specs.Operation.{plus, minus, and, xor, or, assign, insert, remove, splice, Operation}
use Rattle.tuples.specs.Operation as Law
use Rattle.update_parts.specs.Part.{part, found}
use Rattle.update_numbers.specs.FieldNumber.{field_by, Field}
use Rattle.update_operations.specs.declared.Opened.{Opened}
use Rattle.update_operations.specs.declared.Bitwise.{Bitwise}
use Rattle.update_operations.specs.declared.Bitwise.TheVariants.{And, Xor, Or}
use Rattle.update_operations.specs.declared.Change.{Change}
use Rattle.update_operations.specs.declared.Change.TheVariants.{Sum, Bits, Splice}
use Rattle.update_operations.specs.declared.Action.{Action}
use Rattle.update_operations.specs.declared.Action.TheVariants.{Alter, Assign, Insert, Remove}

-- ---- an action

-- by the place after its operation, just before which its bytes stand
abbrev pub placed : Law.Action → ℕ → Action
placed (plus v) e = Alter (Sum false v)
placed (minus v) e = Alter (Sum true v)
placed (and v) e = Alter (Bits And v)
placed (xor v) e = Alter (Bits Xor v)
placed (or v) e = Alter (Bits Or v)
placed (assign b) e = Assign (e - length b)
placed (insert b) e = Insert (e - length b)
placed (remove m) e = Remove m
placed (splice p k b) e = Alter (Splice p k (e - length b))

abbrev pub action_by : Bytes → Got Law.Action → Option (Action × ℕ)
action_by = found (λ a e. (placed a e, e))

-- by a mark and its argument, an integer
abbrev pub natural_mark : ℕ → ℕ → ℕ → Option (Action × ℕ)
natural_mark c n e =
    pick (eqb c 0x26) (Some (Alter (Bits And n), e))
    (pick (eqb c 0x5e) (Some (Alter (Bits Xor n), e))
    (pick (eqb c 0x7c) (Some (Alter (Bits Or n), e))
    (pick (eqb c 0x23) (pick (eqb n 0) None (Some (Remove n, e))) None)))

abbrev pub whole_mark : ℕ → Int → ℕ → Option (Action × ℕ)
whole_mark c (FromZero n) e = natural_mark c n e
whole_mark c (BelowZero m) e = None

abbrev pub integer_mark : ℕ → Int → ℕ → Option (Action × ℕ)
integer_mark c z e = pick (eqb c 0x2b) (Some (Alter (Sum false z), e)) (pick (eqb c 0x2d) (Some (Alter (Sum true z), e)) (whole_mark c z e))

-- the action that it is, of an operation that ends at e
abbrev pub bitwise_in : Bitwise → ℕ → Law.Action
bitwise_in And v = and v
bitwise_in Xor v = xor v
bitwise_in Or v = or v

abbrev pub change_in : Bytes → Change → ℕ → Law.Action
change_in l (Sum less v) e = pick less (minus v) (plus v)
change_in l (Bits by v) e = bitwise_in by v
change_in l (Splice p k a) e = splice p k (part a e l)

abbrev pub action_in : Bytes → Action → ℕ → Law.Action
action_in l (Alter x) e = change_in l x e
action_in l (Assign a) e = assign (part a e l)
action_in l (Insert a) e = insert (part a e l)
action_in l (Remove m) e = remove m

-- ---- how an operation begins: the count of its array, its mark, its field number; in the code's record also the place after them

pub record Opening : Type 0 where
  pub count : ℕ
  pub mark : ℕ
  pub number : Int

unfoldable pub opening : Decoder Opening
opening = then count (λ n. then mark (λ c. made (λ z. record { count = n; mark = c; number = z }) any_integer))

abbrev pub opened_by : Bytes → Got Opening → Option Opened
opened_by = found (λ o e. record { count = o.count; mark = o.mark; number = o.number; after = e })

-- ---- an operation

abbrev pub decoded_by : Bytes → Got Operation → Option (Field × Action × ℕ)
decoded_by = found (λ o e. (field_by o.number, placed o.action e, e))
