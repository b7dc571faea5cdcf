-- The parts of which an operation is read, each at the front of bytes.
use Rattle.std.specs.Prelude.{ℕ, ◌+◌, ◌-◌, [], ◌∷◌, leb, eqb, length, take, drop, Some, None, Ok, Err}
use Rattle.msgpack_first_bytes.specs.Bytes.{Bytes, pick}
use Rattle.msgpack_values.specs.Value.{value, Read}
use Rattle.msgpack_scalars.specs.Integer.{integer, Integer}
use Rattle.msgpack_scalars.specs.Start.{string_by, array_by}
use Rattle.msgpack_scalars.specs.Header.{header, Header}
use Rattle.msgpack_scalars.specs.declared.Int.{Int}
use Rattle.msgpack_scalars.specs.declared.Int.TheVariants.{FromZero, BelowZero}
use Rattle.tuples.specs.Limits.{field_depth}
use Rattle.msgpack_scalars.specs.declared.NoNumber.TheVariants.{Cut, Other}

-- what was asked for is not there; or what was read, and the bytes after it
pub data Got (A : Type 0) : Type 0 where
  fails : Got A
  gets : A → Bytes → Got A

abbrev pub Decoder : Type 0 → Type 0
Decoder A = Bytes → Got A

module _ {A B : Type 0} where
  unfoldable pub on_got : Got A → (A → Decoder B) → Got B
  on_got fails next = fails
  on_got (gets a s) next = next a s

  -- one part, and then what follows it
  unfoldable pub then : Decoder A → (A → Decoder B) → Decoder B
  then first next s = on_got (first s) next

  unfoldable pub made : (A → B) → Decoder A → Decoder B
  made f first s = on_got (first s) (λ a r. gets (f a) r)

module _ {A : Type 0} where
  unfoldable pub nothing : Decoder A
  nothing s = fails

unfoldable pub value_from : Read → Bytes → Got Bytes
value_from (Ok k) s = gets (take k s) (drop k s)
value_from (Err p) s = fails

-- "any value at most 12 deep", as its own bytes
unfoldable pub any_value : Decoder Bytes
any_value s = value_from (value field_depth s) s

unfoldable pub integer_from : Integer → Bytes → Got Int
integer_from (Ok (z, e)) s = gets z (drop e s)
integer_from (Err Cut) s = fails
integer_from (Err Other) s = fails

unfoldable pub any_integer : Decoder Int
any_integer s = integer_from (integer s) s

-- z less k; BelowZero m is -1 - m
unfoldable pub less : ℕ → Int → Int
less k (FromZero n) = pick (leb k n) (FromZero (n - k)) (BelowZero (k - n - 1))
less k (BelowZero m) = BelowZero (m + k)

unfoldable pub floor : ℕ → Int → Decoder ℕ
floor low (FromZero n) s = pick (leb low n) (gets n s) fails
floor low (BelowZero m) s = fails

-- an integer at least `low`
unfoldable pub at_least : ℕ → Decoder ℕ
at_least low = then any_integer (floor low)

-- "Field number and splice position count from the index base." The position less the base is at least 0
unfoldable pub position : ℕ → Decoder ℕ
position base = then any_integer (λ z. floor 0 (less base z))

unfoldable pub string_from : Header → Bytes → Got Bytes
string_from (Some (n, e)) s = pick (leb (e + n) (length s)) (gets (take n (drop e s)) (drop (e + n) s)) fails
string_from None s = fails

-- a string, as the bytes that it holds
unfoldable pub string : Decoder Bytes
string s = string_from (header string_by s) s

unfoldable pub count_from : Header → Bytes → Got ℕ
count_from (Some (n, e)) s = gets n (drop e s)
count_from None s = fails

-- an array's header of any width, as its count
unfoldable pub count : Decoder ℕ
count s = count_from (header array_by s) s

-- "The mark is a1 and one character."
unfoldable pub mark : Decoder ℕ
mark [] = fails
mark (a ∷ []) = fails
mark (a ∷ c ∷ s) = pick (eqb a 0xa1) (gets c s) fails
