-- Inner: a field altered: the new one behind the bytes of a work array that are in use.
use Rattle.std.specs.Prelude.{ℕ, ◌+◌, [], ◌∷◌, ◌≡◌, leb, length, Ok, Err, Result}
use Rattle.msgpack_first_bytes.specs.Bytes.{Bytes, pick}
use Rattle.msgpack_writing.specs.Put as Writing
use Rattle.tuples.specs.Limits.{max_tuple}
use Rattle.tuples.specs.Edit.{Edit, refuse, put, add, cut, edit_at}
use Rattle.tuples.specs.declared.Refusal.TheVariants.{TooLarge}
use Rattle.update_operations.specs.Found.{change_in}
use Rattle.update_operations.specs.declared.Change.{Change}
use Rattle.update_altering.specs.declared.Obstacle.TheVariants.{Full, Refused}
use Rattle.update_altering.specs.declared.Obstacle.{Obstacle}

-- where the new field ends in the work array, or why there is none
abbrev pub Altered : Type 0
Altered = Result ℕ Obstacle

-- the edit of a tuple that has this field alone, by a change of an operation that ends at e
unfoldable pub changed : Bytes → Change → ℕ → Bytes → Edit
changed l x e field = edit_at (change_in l x e) 0 (field ∷ [])

-- where the new field ends, behind `used` bytes of the work array: a field above a tuple's limit by itself is refused with 16
abbrev pub altered_by : Edit → ℕ → Bytes → Altered
altered_by (refuse k) used work = Err (Refused k)
altered_by (put f b) used work = pick (leb (length b) max_tuple) (pick (leb (used + length b) (length work)) (Ok (used + length b)) (Err Full)) (Err (Refused TooLarge))
altered_by (add f b) used work = Err Full
altered_by (cut f m) used work = Err Full

-- the work array then: as it was where there is none
abbrev pub work_by : Edit → ℕ → Bytes → Bytes
work_by (refuse k) used work = work
work_by (put f b) used work = pick (leb (length b) max_tuple) (Writing.put used b work) work
work_by (add f b) used work = work
work_by (cut f m) used work = work

abbrev pub Alters : Edit → ℕ → Altered → Bytes → Bytes → Type 0
Alters e used r work left = (r ≡ altered_by e used work) × (left ≡ work_by e used work)
