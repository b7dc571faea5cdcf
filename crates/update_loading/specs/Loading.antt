-- Inner: a tuple judged, and the places of its fields in a table.
use Rattle.std.specs.Prelude.{ℕ, ◌≡◌, List, [], ◌++◌, leb, length, drop, Some, None, Ok, Err, Result, Option as CodeOption}
use Rattle.std.proofs.Math.Option.{Option, none, some}
use Rattle.msgpack_first_bytes.specs.Bytes.{Bytes, pick}
use Rattle.msgpack_values.specs.Value.{shift, value}
use Rattle.msgpack_values.specs.Pieces.{pieces}
use Rattle.msgpack_scalars.specs.Start.{array_by}
use Rattle.msgpack_scalars.specs.Header.{header, Header}
use Rattle.tuples.specs.Limits.{max_fields, max_tuple, field_depth}
use Rattle.tuples.specs.Tuple.{Fields, fields_filling}
use Rattle.update_places.specs.Place.{places_at}
use Rattle.update_loading.specs.declared.Unloaded.TheVariants.{Bad, NoRoom}
use Rattle.update_loading.specs.declared.Unloaded.{Unloaded}

-- so many fields, and the place of the first
abbrev pub Loaded : Type 0
Loaded = Result (ℕ × ℕ) Unloaded

-- so many fields, the first of them at e
abbrev pub count_by : ℕ → Option Fields → Loaded
count_by e none = Err Bad
count_by e (some fs) = Ok (length fs, e)

-- "11: tuple outside the rules above"; a table of fewer entries than the tuple's array counts has no room
unfoldable pub loaded_by : ℕ → Header → Bytes → Loaded
loaded_by room (Some (n, e)) t = pick (leb n max_fields) (pick (leb n room) (count_by e (fields_filling n (drop e t))) (Err NoRoom)) (Err Bad)
loaded_by room None t = Err Bad

unfoldable pub loaded : ℕ → Bytes → Loaded
loaded room t = pick (leb (length t) max_tuple) (loaded_by room (header array_by t) t) (Err Bad)

-- the places of the values of the tuple's array, as far as they are whole: of all of its fields where it has any
unfoldable pub entries_by : ℕ → Header → Bytes → List ℕ
entries_by room (Some (n, e)) t = pick (leb n max_fields) (pick (leb n room) (places_at e (pieces (value field_depth) n (drop e t))) []) []
entries_by room None t = []

unfoldable pub entries : ℕ → Bytes → List ℕ
entries room t = pick (leb (length t) max_tuple) (entries_by room (header array_by t) t) []

-- the table with them at its front
unfoldable pub tabled : List ℕ → List ℕ → List ℕ
tabled ps table = ps ++ drop (length ps) table

-- an end that is told is the place after the value at a place
abbrev pub EndOf : Bytes → ℕ → CodeOption ℕ → Type 0
EndOf s at (Some e) = Ok e ≡ shift at (value field_depth (drop at s))
EndOf s at None = Unit {0}
