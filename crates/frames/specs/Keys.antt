-- The known keys: document 01's tables, and how a record holds what they list.
use Rattle.std.specs.Prelude.{ℕ, true, false, List, [], ◌∷◌, ◌++◌, ◌≡◌, refl, length}
use Rattle.std.proofs.Math.Option.{Option, none, some}
use Rattle.msgpack_first_bytes.specs.Bytes.{Bytes}
use Rattle.msgpack_values.specs.declared.OptionalNumber.{OptionalNumber}
use Rattle.frames.specs.declared.Place.{Place}
use Rattle.frames.specs.declared.Frame.{Frame}
use Rattle.frames.specs.declared.Line.{Line}
use Rattle.frames.specs.declared.Rule.{Rule}
use Rattle.frames.specs.declared.Rule.TheVariants.{AtMost, Array, String, Anything}
use Rattle.frames.specs.Limits.{max32, max64, max_base, header_keys, known_keys}
use Rattle.frames.specs.Held.{Held, number, number_in, number_held, place_held, Item, item}

abbrev pub line : ℕ → Rule → Line
line k r = record { key = k; rule = r }

-- "Header: 0x00 code, required; 0x01 sync and 0x05 schema version, optional, each unsigned to 2^64-1."
abbrev pub header_table : List Line
header_table =
    line 0x00 (AtMost max64)  -- code
    ∷ line 0x01 (AtMost max64)  -- sync
    ∷ line 0x05 (AtMost max64)  -- schema version
    ∷ []

-- "Body, type-checked in every kind of frame (in a header these keys are unknown)": each key and what it holds, keys rising
abbrev pub body_table : List Line
body_table =
    line 0x10 (AtMost max32)  -- space: "unsigned, at most 4,294,967,295"
    ∷ line 0x11 (AtMost max32)  -- index
    ∷ line 0x12 (AtMost max32)  -- limit
    ∷ line 0x13 (AtMost max32)  -- offset
    ∷ line 0x14 (AtMost max32)  -- iterator
    ∷ line 0x15 (AtMost max_base)  -- index base: "unsigned, 0 or 1; absent counts as 0"
    ∷ line 0x20 Array  -- key
    ∷ line 0x21 Array  -- tuple
    ∷ line 0x22 String  -- function
    ∷ line 0x23 String  -- user
    ∷ line 0x27 String  -- expression
    ∷ line 0x28 Array  -- ops
    ∷ line 0x30 Anything  -- data: "one value"
    ∷ line 0x31 String  -- error
    ∷ []

-- header and then body
abbrev pub all_lines : List Line
all_lines = header_table ++ body_table

counted : (length header_table ≡ header_keys) × (length all_lines ≡ known_keys)
counted = (refl, refl)

-- ---- the fields of a record in the order of the tables: the code by c, numbers by n, places by p

abbrev pub header_fields : {A : Type 0} → (ℕ → A) → (OptionalNumber → A) → Frame → List A
header_fields c n r = c r.code ∷ n r.sync ∷ n r.schema_version ∷ []

abbrev pub body_fields : {A : Type 0} → (OptionalNumber → A) → (Place → A) → Frame → List A
body_fields n p r =
    n r.space
    ∷ n r.index
    ∷ n r.limit
    ∷ n r.offset
    ∷ n r.iterator
    ∷ n r.index_base
    ∷ p r.key
    ∷ p r.tuple
    ∷ p r.function
    ∷ p r.user
    ∷ p r.expression
    ∷ p r.ops
    ∷ p r.«data»
    ∷ p r.error
    ∷ []

-- each line of a table with what a record holds there, its places being of the bytes s
abbrev pub with_held : List Line → List Held → List Item
with_held (x ∷ xs) (h ∷ hs) = item x.key x.rule h ∷ with_held xs hs
with_held (x ∷ xs) [] = []
with_held [] hs = []

unfoldable pub header_items : Frame → List Item
header_items r = with_held header_table (header_fields number number_held r)

unfoldable pub body_items : Frame → Bytes → List Item
body_items r s = with_held body_table (body_fields number_held (place_held s) r)

filled : (r : Frame) (s : Bytes) → (length (header_items r) ≡ header_keys) × (length (header_items r ++ body_items r s) ≡ known_keys)
unfolding header_items body_items
filled r s = (refl, refl)

unfoldable pub optional : Option ℕ → OptionalNumber
optional none = record { present = false; value = 0 }
optional (some n) = record { present = true; value = n }

-- where the code stands, by where each key's value stands in the header
unfoldable pub code_in : Bytes → (ℕ → Place) → Option ℕ
code_in s f = number_in s (f 0x00)

-- "A read record gives the numbers and the place of each value": by where each key's value stands in header and body
unfoldable pub frame_at : ℕ → Bytes → (ℕ → Place) → (ℕ → Place) → Frame
frame_at code s f g =
    record {
      code = code;
      sync = optional (number_in s (f 0x01));
      schema_version = optional (number_in s (f 0x05));
      space = optional (number_in s (g 0x10));
      index = optional (number_in s (g 0x11));
      limit = optional (number_in s (g 0x12));
      offset = optional (number_in s (g 0x13));
      iterator = optional (number_in s (g 0x14));
      index_base = optional (number_in s (g 0x15));
      key = g 0x20;
      tuple = g 0x21;
      function = g 0x22;
      user = g 0x23;
      expression = g 0x27;
      ops = g 0x28;
      «data» = g 0x30;
      error = g 0x31;
    }

-- no key at all
abbrev pub nowhere : Place
nowhere = record { present = false; start = 0; length = 0 }

unfoldable pub empty_frame : Frame
empty_frame = frame_at 0 [] (λ k. nowhere) (λ k. nowhere)
