-- What the code answers on each way, as the definitions have it. Assumes nothing.
use Rattle.std.specs.Prelude.{Some, None, Ok, Err, Result}
use Rattle.std.specs.Option.{ok_or}
use mathlib.Core.Path.{◌≡◌, refl, ap}
use mathlib.Core.Bool.{Bool, true, false}
use Prim.Native.Nat.{ℕ, ◌+◌, ◌-◌, ◌%◌, ◌<◌, ◌≤◌, min}
use native.Mathlib.Omega.{arith}
use borrow.Author.Tests.{lt-ltb, le-ltb, le-leb, lt-leb, eq-eqb, ne_eqb}
use lib.Dec.{leb}
use Rattle.msgpack_first_bytes.specs.Bytes.{Bytes, pick}
use Rattle.tuples.specs.Limits.{max_tuple}
use Rattle.tuples.specs.declared.Refusal.{Refusal, TheVariants.NoField, TheVariants.TooLarge}
use Rattle.update_numbers.specs.FieldNumber.{Field}
use Rattle.update_operations.specs.declared.Change.{Change}
use Rattle.update_operations.specs.declared.Action.{Action, TheVariants.Alter, TheVariants.Assign, TheVariants.Insert, TheVariants.Remove}
use Rattle.update_places.specs.Place.{in_list, in_work, place_of}
use Rattle.update_altering.specs.Altering.{altered_by, work_by, Altered}
use Rattle.update_altering.specs.declared.Obstacle.{Obstacle, TheVariants.Full, TheVariants.Refused}
use Rattle.update_planning.specs.Plan.{brought, changed_by, alone, planned_at, work_at, planned, work_after, Planned}
use Rattle.update_planning.specs.declared.TableEdit.TheVariants.{Add, Cut, Put}

-- a start that is taken round has the same place
pub round : (from start n : ℕ) → place_of (from + start % 131072) n ≡ place_of (from + start) n
unfolding place_of
round from start n = omega arith

-- ---- a field that the list brings, from a up to e

abbrev pub Brought : ℕ → ℕ → Result ℕ Refusal → Type 0
Brought a e r = r ≡ pick (leb (e - a) max_tuple) (Ok (place_of (in_list + a) (e - a))) (Err TooLarge)

module _ (to : ℕ → Planned) (a e : ℕ) where
  abbrev place : ℕ
  place = place_of (in_list + a) (e - a)

  pub brought_to : {p : ℕ} → Brought a e (Ok p) → to p ≡ brought to a e
  brought_to {p} = go (leb (e - a) max_tuple)
    where
      go : (b : Bool) → Ok p ≡ pick b (Ok place) (Err TooLarge) → to p ≡ pick b (to place) (Err (Refused TooLarge))
      go true q = let i : p ≡ place = cc in ap to i
      go false q = cc

  pub brought_not : {k : Refusal} → Brought a e (Err k) → Err (Refused k) ≡ brought to a e
  brought_not {k} = go (leb (e - a) max_tuple)
    where
      go : (b : Bool) → Err k ≡ pick b (Ok place) (Err TooLarge) → Err (Refused k) ≡ pick b (to place) (Err (Refused TooLarge))
      go true q = cc
      go false q = let i : k ≡ TooLarge = cc in rw i

-- ---- by the field and the action

changed-not : (f used : ℕ) (o : Obstacle) → Err o ≡ changed_by f used (Err o)
changed-not f used (Refused k) = refl
changed-not f used Full = refl

module _ (t l w : Bytes) (used old n e : ℕ) where
  -- the answer, and the work array afterwards
  abbrev At-field : ℕ → Action → Planned → Bytes → Type 0
  At-field f x p v = (p ≡ planned_at t l w used old n f x e) × (v ≡ work_at t l w used old n f x e)

  abbrev Plans : Field → Action → Planned → Bytes → Type 0
  Plans fd x p v = (p ≡ planned t l w used old n fd x e) × (v ≡ work_after t l w used old n fd x e)

  pub below_zero : (x : Action) {fd : Field} → fd ≡ None → Plans fd x (Err (Refused NoField)) w
  below_zero x q = rw q (refl, refl)

  module _ (fd : Field) {f : ℕ} (x : Action) (i : Ok f ≡ ok_or fd NoField) where
    at_field : {y : Action} {p : Planned} {v : Bytes} → x ≡ y → At-field f y p v → Plans fd x p v
    at_field j h = let k : fd ≡ Some f = grind arith in rw (k, j) h

    -- a field altered
    module _ {c : Change} (j : x ≡ Alter c) where
      pub altered_past : n ≤ f → Plans fd x (Err (Refused NoField)) w
      unfolding planned_at work_at
      altered_past h = at_field j (rw (le-ltb f n h) (refl, refl))

      module _ (h : f < n) where
        as_altered : {r : Altered} {v : Bytes} → (r ≡ altered_by (alone t l w used old c e) used w) × (v ≡ work_by (alone t l w used old c e) used w)
            → At-field f (Alter c) (changed_by f used r) v
        unfolding planned_at work_at
        as_altered q = rw (lt-ltb f n h) (ap (changed_by f used) q.0, q.1)

        pub altered_not : {o : Obstacle} {v : Bytes} → (Err o ≡ altered_by (alone t l w used old c e) used w) × (v ≡ work_by (alone t l w used old c e) used w) → Plans fd x (Err o) v
        altered_not {o} q = rw (changed-not f used o) (at_field j (as_altered q))

        pub altered_put : {to p : ℕ} {v : Bytes} → (Ok to ≡ altered_by (alone t l w used old c e) used w) × (v ≡ work_by (alone t l w used old c e) used w)
            → p ≡ place_of (in_work + used % 131072) (to - used) → Plans fd x (Ok (Put f p to)) v
        altered_put {to} q k = rw (k, round in_work used (to - used)) (at_field j (as_altered q))

    -- a field brought
    module _ {a : ℕ} (j : x ≡ Assign a) where
      pub assigned_put : f < n → {p : ℕ} → Brought a e (Ok p) → Plans fd x (Ok (Put f p used)) w
      unfolding planned_at work_at
      assigned_put h q = at_field j (rw (lt-ltb f n h) (brought_to (λ p. Ok (Put f p used)) a e q), refl)

      pub assigned_not : f < n → {k : Refusal} → Brought a e (Err k) → Plans fd x (Err (Refused k)) w
      unfolding planned_at work_at
      assigned_not h q = at_field j (rw (lt-ltb f n h) (brought_not (λ p. Ok (Put f p used)) a e q), refl)

      pub assigned_add : f ≡ n → {p : ℕ} → Brought a e (Ok p) → Plans fd x (Ok (Add f p)) w
      unfolding planned_at work_at
      assigned_add h q = at_field j (rw (le-ltb f n (omega arith), eq-eqb f n h) (brought_to (λ p. Ok (Add f p)) a e q), refl)

      pub assigned_full : f ≡ n → {k : Refusal} → Brought a e (Err k) → Plans fd x (Err (Refused k)) w
      unfolding planned_at work_at
      assigned_full h q = at_field j (rw (le-ltb f n (omega arith), eq-eqb f n h) (brought_not (λ p. Ok (Add f p)) a e q), refl)

      pub assigned_past : n < f → Plans fd x (Err (Refused NoField)) w
      unfolding planned_at work_at
      assigned_past h = at_field j (rw (le-ltb f n (omega arith), ne_eqb f n (λ z. omega arith)) refl, refl)

    module _ {a : ℕ} (j : x ≡ Insert a) where
      pub inserted_add : f ≤ n → {p : ℕ} → Brought a e (Ok p) → Plans fd x (Ok (Add f p)) w
      unfolding planned_at work_at
      inserted_add h q = at_field j (rw (le-leb f n h) (brought_to (λ p. Ok (Add f p)) a e q), refl)

      pub inserted_not : f ≤ n → {k : Refusal} → Brought a e (Err k) → Plans fd x (Err (Refused k)) w
      unfolding planned_at work_at
      inserted_not h q = at_field j (rw (le-leb f n h) (brought_not (λ p. Ok (Add f p)) a e q), refl)

      pub inserted_past : n < f → Plans fd x (Err (Refused NoField)) w
      unfolding planned_at work_at
      inserted_past h = at_field j (rw (lt-leb f n h) refl, refl)

    module _ {m : ℕ} (j : x ≡ Remove m) where
      pub removed_some : f < n → {k : ℕ} → k ≡ min m (n - f) → Plans fd x (Ok (Cut f k)) w
      unfolding planned_at work_at
      removed_some h q = at_field j (rw (q, lt-ltb f n h) refl, refl)

      pub removed_past : n ≤ f → Plans fd x (Err (Refused NoField)) w
      unfolding planned_at work_at
      removed_past h = at_field j (rw (le-ltb f n h) refl, refl)
