-- Inner: what a plan does to the table, and to the entries from which the undo list is written, by numbers alone.
use Rattle.std.specs.Prelude.{ℕ, suc, ◌+◌, ◌-◌, ◌*◌, ◌/◌, ◌%◌, ◌^◌, ◌<◌, ◌≤◌, min, ◌≡◌, Bool, ◌&&◌, List, [], ◌∷◌, map, leb, ltb, length, get_or, set, Some, None, Ok, Err, Result}
use Rattle.msgpack_first_bytes.specs.Bytes.{pick}
use Rattle.msgpack_writing.specs.Forms.{unsigned_form, array_header}
use Rattle.tuples.specs.Limits.{max_fields, max_tuple}
use Rattle.tuples.specs.declared.Refusal.TheVariants.{TooLarge}
use Rattle.update_places.specs.Place.{length_of, sum}
use Rattle.update_table.specs.Table.{window, added, head_added, removed, head_removed}
use Rattle.update_numbers.specs.FieldNumber.{Field}
use Rattle.update_planning.specs.Plan.{Planned}
use Rattle.update_running.specs.declared.Stage.{Stage}
use Rattle.update_altering.specs.declared.Obstacle.TheVariants.{Full, Refused}
use Rattle.update_planning.specs.declared.TableEdit.TheVariants.{Add, Cut, Put}
use Rattle.update_altering.specs.declared.Obstacle.{Obstacle}

-- the stage after an operation, or why there is none
abbrev pub Performed : Type 0
Performed = Result Stage Obstacle

-- ---- an entry of the undo list: 16 bits of mark, 16 bits of field number, a place
unfoldable pub entry_of : ℕ → ℕ → ℕ → ℕ
entry_of mark f p = (mark * 2 ^ 16 + f) * 2 ^ 32 + p

unfoldable pub entry_mark : ℕ → ℕ
entry_mark e = e / 2 ^ 48

unfoldable pub entry_field : ℕ → ℕ
entry_field e = e / 2 ^ 32 % 2 ^ 16

unfoldable pub entry_place : ℕ → ℕ
entry_place e = e % 2 ^ 32

-- entries laid one after the other, from the k-th on, as far as there is room
unfoldable pub laid_from : ℕ → List ℕ → List ℕ → List ℕ
laid_from k [] back = back
laid_from k (e ∷ es) back = laid_from (suc k) es (set back k e)

-- ---- the place of the field of an operation's number; 0 where there is none
abbrev pub old_of : Field → ℕ → ℕ → List ℕ → ℕ
old_of (Some f) head n table = pick (ltb f n) (get_or table (head + f) 0) 0
old_of None head n table = 0

-- ---- a plan performed

-- "16: more than 64 fields, or more than 16,384 bytes, after an operation", of n fields of b bytes together
unfoldable pub fitting : ℕ → ℕ → Bool
fitting n b = leb n max_fields && leb (length (array_header n) + b) max_tuple

-- an operation of the undo list, but for its argument: mark and field number
abbrev pub head_length : ℕ → ℕ
head_length f = 3 + length (unsigned_form f)

abbrev pub gone_place : ℕ → Stage → List ℕ → ℕ
gone_place f z table = get_or table (z.head + f) 0

abbrev pub bytes_put : ℕ → ℕ → Stage → List ℕ → ℕ
bytes_put f p z table = z.bytes - length_of (gone_place f z table) + length_of p

unfoldable pub put_stage : ℕ → ℕ → ℕ → Stage → List ℕ → Stage
put_stage f p u z table =
    record {
      head = z.head;
      fields = z.fields;
      bytes = bytes_put f p z table;
      used = u;
      laid = z.laid + 1;
      back = z.back + (head_length f + length_of (gone_place f z table));
      low = min z.low f;
      tail = min z.tail (z.fields - (f + 1));
    }

unfoldable pub add_stage : ℕ → ℕ → Stage → List ℕ → Stage
add_stage f p z table =
    record {
      head = head_added (length table) z.head z.fields f;
      fields = z.fields + 1;
      bytes = z.bytes + length_of p;
      used = z.used;
      laid = z.laid + 1;
      back = z.back + (head_length f + 1);
      low = min z.low f;
      tail = min z.tail (z.fields - f);
    }

-- the entries that go
abbrev pub gone_places : ℕ → ℕ → Stage → List ℕ → List ℕ
gone_places f m z table = window (z.head + f) m table

abbrev pub gone_bytes : ℕ → ℕ → Stage → List ℕ → ℕ
gone_bytes f m z table = sum (map length_of (gone_places f m z table))

unfoldable pub cut_stage : ℕ → ℕ → Stage → List ℕ → Stage
cut_stage f m z table =
    record {
      head = head_removed (length table) z.head z.fields f m;
      fields = z.fields - m;
      bytes = z.bytes - gone_bytes f m z table;
      used = z.used;
      laid = z.laid + m;
      back = z.back + sum (map (λ (p : ℕ). head_length f + length_of p) (gone_places f m z table));
      low = min z.low f;
      tail = min z.tail (z.fields - (f + m));
    }

abbrev pub performed : Planned → Stage → List ℕ → Performed
performed (Err (Refused k)) z table = Err (Refused k)
performed (Err Full) z table = Err Full
performed (Ok (Put f p u)) z table = pick (fitting z.fields (bytes_put f p z table)) (Ok (put_stage f p u z table)) (Err (Refused TooLarge))
performed (Ok (Add f p)) z table = pick (fitting (z.fields + 1) (z.bytes + length_of p)) (Ok (add_stage f p z table)) (Err (Refused TooLarge))
performed (Ok (Cut f m)) z table = Ok (cut_stage f m z table)

abbrev pub table_after : Planned → Stage → List ℕ → List ℕ
table_after (Err (Refused k)) z table = table
table_after (Err Full) z table = table
table_after (Ok (Put f p u)) z table = pick (fitting z.fields (bytes_put f p z table)) (set table (z.head + f) p) table
table_after (Ok (Add f p)) z table = pick (fitting (z.fields + 1) (z.bytes + length_of p)) (added z.head z.fields f p table) table
table_after (Ok (Cut f m)) z table = removed z.head z.fields f m table

-- "`= f old` ..; `# f 1` ..; for m removed fields, m times `! f`"
abbrev pub back_after : Planned → Stage → List ℕ → List ℕ → List ℕ
back_after (Err (Refused k)) z table back = back
back_after (Err Full) z table back = back
back_after (Ok (Put f p u)) z table back =
    pick (fitting z.fields (bytes_put f p z table)) (set back z.laid (entry_of 0x3d f (gone_place f z table))) back
back_after (Ok (Add f p)) z table back = pick (fitting (z.fields + 1) (z.bytes + length_of p)) (set back z.laid (entry_of 0x23 f 0)) back
back_after (Ok (Cut f m)) z table back = laid_from z.laid (map (entry_of 0x21 f) (gone_places f m z table)) back

-- ---- what performing asks

-- the fields that it speaks of are among n
abbrev pub Among : Planned → ℕ → Type 0
Among (Err (Refused k)) n = Unit {0}
Among (Err Full) n = Unit {0}
Among (Ok (Put f p u)) n = f < n
Among (Ok (Add f p)) n = f ≤ n
Among (Ok (Cut f m)) n = f + m ≤ n

-- the entries in use lie in the table; and no number can wrap
pub record Sound (z : Stage) (table : List ℕ) : Type 0 where
  pub inside : z.head + z.fields ≤ length table
  pub bytes : z.bytes ≡ sum (map length_of (window z.head z.fields table))
  pub few : z.fields ≤ max_fields
  pub short : z.bytes ≤ max_tuple
  pub laid : z.laid < 2 ^ 32
  pub back : z.back < 2 ^ 32
  pub low : z.low ≤ z.fields
  pub tail : z.tail ≤ z.fields
