-- The limits of a tuple and of a list. 01: "A tuple is one array of at most 64 fields, at most 16,384 bytes, each field at most 12 deep.
-- A list is one array of at most 64 operations, at most 32,768 bytes."
use Rattle.std.specs.Prelude.{ℕ}

abbrev pub max_fields : ℕ
max_fields = 64

abbrev pub max_tuple : ℕ
max_tuple = 16384

abbrev pub field_depth : ℕ
field_depth = 12

-- 02, 3/12: "Here a tuple is one value to depth 13, a list to depth 14."
abbrev pub tuple_depth : ℕ
tuple_depth = 13

abbrev pub list_depth : ℕ
list_depth = 14

abbrev pub max_operations : ℕ
max_operations = 64

abbrev pub max_list : ℕ
max_list = 32768
