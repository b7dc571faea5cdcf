-- What a key holds, and what it must hold.
use Rattle.std.specs.Prelude.{ℕ, ◌+◌, Bool, true, false, List, [], ◌∷◌, leb, eqb, length, take, drop, Some, None, Ok, Err}
use Rattle.std.specs.List.{list_all}
use Rattle.std.proofs.Math.Option.{Option, none, some}
use Rattle.msgpack_first_bytes.specs.Bytes.{Bytes, pick}
use Rattle.msgpack_scalars.specs.Start.{string_by, array_by}
use Rattle.msgpack_scalars.specs.Integer.{unsigned, Natural}
use Rattle.msgpack_scalars.specs.Header.{header, Header}
use Rattle.msgpack_writing.specs.Forms.{unsigned_form}
use Rattle.msgpack_values.specs.declared.OptionalNumber.{OptionalNumber}
use Rattle.frames.specs.declared.Place.{Place}
use Rattle.frames.specs.declared.Rule.{Rule}
use Rattle.frames.specs.declared.Rule.TheVariants.{AtMost, Array, String, Anything}

-- the library's word, which it knows of chains of iterators
abbrev pub all : {A : Type 0} → (A → Bool) → List A → Bool
all p xs = list_all p xs

-- ---- what a key holds: nothing, a place outside its bytes (the writer may be given one), a number, or a value's encoding

pub data Held : Type 0 where
  absent : Held
  outside : Held
  number : ℕ → Held
  bytes : Bytes → Held

-- "A value's view is the part of the caller's bytes holding exactly its encoding, header byte included."
unfoldable pub view : Bytes → Place → Bytes
view s p = take p.length (drop p.start s)

-- the number that a view is, in any width
unfoldable pub as_number : Natural → Option ℕ
as_number (Ok (n, e)) = some n
as_number (Err e) = none

unfoldable pub number_in : Bytes → Place → Option ℕ
number_in s p = pick p.present (as_number (unsigned (view s p))) none

-- ---- 9: "a known key holds a wrong type or range". One check for the reader and the writer

unfoldable pub is_header : Header → Bool
is_header (Some (n, e)) = true
is_header None = false

unfoldable pub suits : Rule → Held → Bool
suits rule absent = true
suits rule outside = false
suits (AtMost m) (number n) = leb n m
suits (AtMost m) (bytes v) = false
suits Array (number n) = false
suits Array (bytes v) = is_header (header array_by v)
suits String (number n) = false
suits String (bytes v) = is_header (header string_by v)
suits Anything (number n) = false
suits Anything (bytes v) = true

-- ---- as it is read: from a place

unfoldable pub number_or_bytes : Option ℕ → Bytes → Held
number_or_bytes none v = bytes v
number_or_bytes (some n) v = number n

unfoldable pub value_held : Rule → Bytes → Held
value_held (AtMost m) v = number_or_bytes (as_number (unsigned v)) v
value_held Array v = bytes v
value_held String v = bytes v
value_held Anything v = bytes v

unfoldable pub held_at : Rule → Bytes → Place → Held
held_at rule s p = pick p.present (value_held rule (view s p)) absent

-- ---- as it is written: from a record's field, a place being of the bytes s

unfoldable pub number_held : OptionalNumber → Held
number_held n = pick n.present (number n.value) absent

unfoldable pub place_held : Bytes → Place → Held
place_held s p = pick p.present (pick (leb (p.start + p.length) (length s)) (bytes (view s p)) outside) absent

-- "numbers shortest, values copied"
unfoldable pub encoded : Held → Option Bytes
encoded absent = none
encoded outside = none
encoded (number n) = some (unsigned_form n)
encoded (bytes v) = some v

unfoldable pub is_some : {A : Type 0} → Option A → Bool
is_some none = false
is_some (some x) = true

-- ---- a known key, what it must hold, and what it holds

pub record Item : Type 0 where
  pub key : ℕ
  pub rule : Rule
  pub held : Held

abbrev pub item : ℕ → Rule → Held → Item
item k r h = record { key = k; rule = r; held = h }

-- what a key holds among items
unfoldable pub locate : List Item → ℕ → Held
locate [] k = absent
locate (x ∷ xs) k = pick (eqb k x.key) x.held (locate xs k)
