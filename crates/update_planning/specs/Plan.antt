-- Inner: what an operation plans on a tuple under work of n fields: places and numbers in place of bytes.
use Rattle.std.specs.Prelude.{ℕ, ◌+◌, ◌-◌, min, leb, ltb, eqb, take, Some, None, Ok, Err, Result}
use Rattle.msgpack_first_bytes.specs.Bytes.{Bytes, pick}
use Rattle.tuples.specs.Limits.{max_tuple}
use Rattle.tuples.specs.Edit.{Edit}
use Rattle.tuples.specs.declared.Refusal.TheVariants.{NoField, TooLarge}
use Rattle.update_places.specs.Place.{in_list, in_work, place_of, bytes_at}
use Rattle.update_numbers.specs.FieldNumber.{Field}
use Rattle.update_operations.specs.declared.Action.{Action}
use Rattle.update_operations.specs.declared.Action.TheVariants.{Alter, Assign, Insert, Remove}
use Rattle.update_operations.specs.declared.Change.{Change}
use Rattle.update_altering.specs.Altering.{changed, altered_by, work_by, Altered}
use Rattle.update_altering.specs.declared.Obstacle.TheVariants.{Full, Refused}
use Rattle.update_planning.specs.declared.TableEdit.TheVariants.{Add, Cut, Put}
use Rattle.update_planning.specs.declared.TableEdit.{TableEdit}
use Rattle.update_altering.specs.declared.Obstacle.{Obstacle}

-- what an operation does to the fields that it meets, or why nothing
abbrev pub Planned : Type 0
Planned = Result TableEdit Obstacle

-- a field of the list's bytes from a up to e: one above a tuple's limit by itself is refused with 16
abbrev pub brought : (ℕ → Planned) → ℕ → ℕ → Planned
brought to a e = pick (leb (e - a) max_tuple) (to (place_of (in_list + a) (e - a))) (Err (Refused TooLarge))

-- "f < n assigns, f = n appends"
abbrev pub assigned_by : ℕ → ℕ → ℕ → ℕ → ℕ → Planned
assigned_by f n a e used = pick (ltb f n) (brought (λ p. Ok (Put f p used)) a e) (pick (eqb f n) (brought (λ a. Ok (Add f a)) a e) (Err (Refused NoField)))

-- "inserted before f, f at most n"
abbrev pub inserted_by : ℕ → ℕ → ℕ → ℕ → Planned
inserted_by f n a e = pick (leb f n) (brought (λ a. Ok (Add f a)) a e) (Err (Refused NoField))

-- "f < n; removes that many fields, or all that remain if fewer"
abbrev pub removed_by : ℕ → ℕ → ℕ → Planned
removed_by f n m = pick (ltb f n) (Ok (Cut f (min m (n - f)))) (Err (Refused NoField))

-- a field altered: its new bytes stand in the work array behind `used` of them
abbrev pub changed_by : ℕ → ℕ → Altered → Planned
changed_by f used (Ok e) = Ok (Put f (place_of (in_work + used) (e - used)) e)
changed_by f used (Err (Refused k)) = Err (Refused k)
changed_by f used (Err Full) = Err Full

-- the edit of field f alone, whose place is `old`
abbrev pub alone : Bytes → Bytes → Bytes → ℕ → ℕ → Change → ℕ → Edit
alone t l w used old x e = changed l x e (bytes_at t l (take used w) old)

abbrev pub altering_by : ℕ → ℕ → ℕ → Altered → Planned
altering_by f n used a = pick (ltb f n) (changed_by f used a) (Err (Refused NoField))

unfoldable pub planned_at : Bytes → Bytes → Bytes → ℕ → ℕ → ℕ → ℕ → Action → ℕ → Planned
planned_at t l w used old n f (Alter x) e = altering_by f n used (altered_by (alone t l w used old x e) used w)
planned_at t l w used old n f (Assign a) e = assigned_by f n a e used
planned_at t l w used old n f (Insert a) e = inserted_by f n a e
planned_at t l w used old n f (Remove m) e = removed_by f n m

unfoldable pub work_at : Bytes → Bytes → Bytes → ℕ → ℕ → ℕ → ℕ → Action → ℕ → Bytes
work_at t l w used old n f (Alter x) e = pick (ltb f n) (work_by (alone t l w used old x e) used w) w
work_at t l w used old n f (Assign a) e = w
work_at t l w used old n f (Insert a) e = w
work_at t l w used old n f (Remove m) e = w

-- "13: f below 0 or past what the operation allows"; `old` is the place of the field of the operation's number, where there is one
abbrev pub planned : Bytes → Bytes → Bytes → ℕ → ℕ → ℕ → Field → Action → ℕ → Planned
planned t l w used old n (Some f) x e = planned_at t l w used old n f x e
planned t l w used old n None x e = Err (Refused NoField)

abbrev pub work_after : Bytes → Bytes → Bytes → ℕ → ℕ → ℕ → Field → Action → ℕ → Bytes
work_after t l w used old n (Some f) x e = work_at t l w used old n f x e
work_after t l w used old n None x e = w
