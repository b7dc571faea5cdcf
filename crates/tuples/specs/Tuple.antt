-- A tuple's bytes and its fields.
use Rattle.std.specs.Prelude.{ℕ, List, ◌++◌, leb, eqb, length, drop, Some, None, Ok, Err}
use Rattle.std.proofs.Math.Option.{Option, none, some}
use Rattle.msgpack_first_bytes.specs.Bytes.{Bytes, pick}
use Rattle.msgpack_values.specs.Value.{value, items, Read}
use Rattle.msgpack_values.specs.Pieces.{pieces, joined}
use Rattle.msgpack_scalars.specs.Start.{array_by}
use Rattle.msgpack_scalars.specs.Header.{header, Header}
use Rattle.msgpack_writing.specs.Forms.{array_header}
use Rattle.tuples.specs.Limits.{max_fields, max_tuple, field_depth}

-- "a tuple's fields are the encodings of the values in its array, in order"
abbrev pub Fields : Type 0
Fields = List Bytes

-- "Its plain form is the shortest array header for their number, then the fields."
unfoldable pub plain : List Bytes → Bytes
plain fs = array_header (length fs) ++ joined fs

-- the pieces, where the values that were read fill all of the bytes
unfoldable pub filling : Read → ℕ → Fields → Option Fields
filling (Ok k) all fs = pick (eqb k all) (some fs) none
filling (Err p) all fs = none

-- n values that fill s
unfoldable pub fields_filling : ℕ → Bytes → Option Fields
fields_filling n s = filling (items (value field_depth) n s) (length s) (pieces (value field_depth) n s)

unfoldable pub fields_by : Header → Bytes → Option Fields
fields_by (Some (n, e)) t = pick (leb n max_fields) (fields_filling n (drop e t)) none
fields_by None t = none

-- the fields of a tuple; none for "11: tuple outside the rules above"
unfoldable pub fields_of : Bytes → Option Fields
fields_of t = pick (leb (length t) max_tuple) (fields_by (header array_by t) t) none
