-- Inner: computed numbers.
use Rattle.std.specs.Prelude.{ℕ, Bool, [], ◌∷◌, ◌≡◌, Ok, Err, Result}
use Rattle.std.specs.Int.Bits.{bit_and, bit_xor, bit_or}
use Rattle.msgpack_first_bytes.specs.Bytes.{Bytes, pick}
use Rattle.msgpack_scalars.specs.declared.Int.{Int}
use Rattle.msgpack_read_back.specs.Claims.{integer_form, InRange}
use Rattle.tuples.specs.declared.Refusal.{Refusal}
use Rattle.tuples.specs.Operation.{plus, minus}
use Rattle.tuples.specs.Edit.{Edit, refuse, put, edit_at}
use Rattle.update_operations.specs.Found.{bitwise_in}
use Rattle.update_operations.specs.declared.Bitwise.{Bitwise}
use Rattle.update_operations.specs.declared.Bitwise.TheVariants.{And, Xor, Or}

-- a number, or why there is none
abbrev pub Computed : Type 0
Computed = Result Int Refusal

abbrev pub bitwise_of : Bitwise → ℕ → ℕ → ℕ
bitwise_of And n v = bit_and n v
bitwise_of Xor n v = bit_xor n v
bitwise_of Or n v = bit_or n v

abbrev pub bits_edit : Bitwise → ℕ → Bytes → Edit
bits_edit by v field = edit_at (bitwise_in by v) 0 (field ∷ [])

abbrev pub sum_edit : Bool → Int → Bytes → Edit
sum_edit less v field = edit_at (pick less (minus v) (plus v)) 0 (field ∷ [])

-- the edit that a computed number is, which is in range
abbrev pub computed_edit : Computed → Edit
computed_edit (Ok z) = put 0 (integer_form z)
computed_edit (Err k) = refuse k

abbrev pub InReach : Computed → Type 0
InReach (Ok z) = InRange z
InReach (Err k) = Unit {0}

abbrev pub Computes : Edit → Computed → Type 0
Computes e r = (e ≡ computed_edit r) × InReach r
