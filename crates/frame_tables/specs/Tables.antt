-- Inner: a map's entries laid into a table: where each key's value starts, and its length.
use Rattle.std.specs.Prelude.{ℕ, List, [], ◌∷◌, eqb, get_or, set, replicate, Option as Answer, Some, None, Result, Ok, Err}
use Rattle.std.proofs.Math.Option.{Option, none, some}
use Rattle.msgpack_first_bytes.specs.Bytes.{pick}
use Rattle.frames.specs.declared.Place.{Place}
use Rattle.frames.specs.Keys.{nowhere}
use Rattle.frames.specs.Maps.{Entry, placed}
use Rattle.frame_tables.specs.declared.Value.{Value}
use Rattle.frame_tables.specs.declared.Untabled.{Untabled}
use Rattle.frame_tables.specs.declared.Untabled.TheVariants.{NoMap, Twice}

abbrev pub no_value : Value
no_value = record { start = 0; length = 0 }

abbrev pub value_of : Entry → Value
value_of e = record { start = e.start; length = e.length }

unfoldable pub step_of : Option Entry → Answer (ℕ × Value)
step_of none = None
step_of (some e) = Some (e.key, value_of e)

-- the number of what laying a table answers: 6 where the value is no map or a key no number below 128, 7 where a key stands twice, else 0
abbrev pub number_of : Result (Unit {0}) Untabled → ℕ
number_of (Ok u) = 0
number_of (Err NoMap) = 6
number_of (Err Twice) = 7

-- that number, and where the value of each key starts, with its length: 0 where the key is absent
pub record Table : Type 0 where
  pub number : ℕ
  pub values : List Value

abbrev pub table : ℕ → List Value → Table
table n values = record { number = n; values = values }

unfoldable pub empty_table : ℕ → Table
empty_table n = table n (replicate 128 no_value)

-- one entry more: a key that has a place keeps it, and the number is 7
unfoldable pub laid : Entry → Table → Table
laid e t =
    pick (eqb (get_or t.values e.key no_value).length 0)
    (table t.number (set t.values e.key (value_of e)))
    (table 7 t.values)

unfoldable pub laid_all : List Entry → Table → Table
laid_all [] t = t
laid_all (e ∷ es) t = laid_all es (laid e t)

-- entries laid into a table that is there; it is emptied where they are none
unfoldable pub tabled_on : Table → Option (List Entry) → Table
tabled_on t none = empty_table 6
tabled_on t (some es) = laid_all es t

abbrev pub tabled : Option (List Entry) → Table
tabled es = tabled_on (empty_table 0) es

-- where a table says that a key's value stands; a value has one byte at least, so that length 0 means none
unfoldable pub place_in : List Value → ℕ → Place
place_in values k =
    pick (eqb (get_or values k no_value).length 0) nowhere (placed (get_or values k no_value).start (get_or values k no_value).length)
