-- A plan speaks of fields that are there. Assumes nothing.
use Rattle.std.specs.Prelude.{Some, None, Ok, Err}
use mathlib.Core.Path.{◌≡◌}
use Prim.Native.Nat.{ℕ, ◌-◌, ◌<◌}
use native.Mathlib.Omega.{arith}
use lib.Dec.{eqb}
use borrow.Author.Tests.{eqb-true}
use mathlib.Core.Bool.{Bool, true, false}
use Rattle.msgpack_first_bytes.specs.Bytes.{Bytes, pick}
use Rattle.msgpack_first_bytes.proofs.Logic.{by_leb, by_ltb}
use Rattle.tuples.specs.Limits.{max_tuple}
use Rattle.tuples.specs.declared.Refusal.TheVariants.{NoField}
use Rattle.update_numbers.specs.FieldNumber.{Field}
use Rattle.update_operations.specs.declared.Action.{Action, TheVariants.Alter, TheVariants.Assign, TheVariants.Insert, TheVariants.Remove}
use Rattle.update_altering.specs.Altering.{altered_by, Altered}
use Rattle.update_planning.specs.Plan.{brought, changed_by, alone, planned_at, planned, Planned}
use Rattle.update_running.specs.Steps.{Among}
use Rattle.update_altering.specs.declared.Obstacle.TheVariants.{Full, Refused}
use Rattle.update_planning.specs.declared.TableEdit.TheVariants.{Add, Put}

brought-among : (made : ℕ → Planned) (n a e : ℕ) → ((p : ℕ) → Among (made p) n) → Among (brought made a e) n
brought-among made n a e h = by_leb (λ (r : Planned). Among r n) (e - a) max_tuple (λ _. h _) (λ _. tt)

changed-among : (f n u : ℕ) → f < n → (a : Altered) → Among (changed_by f u a) n
changed-among f n u h (Ok e) = h
changed-among f n u h (Err (Refused k)) = tt
changed-among f n u h (Err Full) = tt

appended_among : (f n a e : ℕ) → Among (pick (eqb f n) (brought (λ a. Ok (Add f a)) a e) (Err (Refused NoField))) n
appended_among f n a e = go (eqb f n) (eqb-true f n)
  where
    go : (b : Bool) → (b ≡ true → f ≡ n) → Among (pick b (brought (λ a. Ok (Add f a)) a e) (Err (Refused NoField))) n
    go true h = brought-among (λ a. Ok (Add f a)) n a e (λ _. let i : f ≡ n = h (mathlib.Core.Path.refl) in omega arith)
    go false h = tt

at-among : (t l w : Bytes) (u old n f : ℕ) (x : Action) (e : ℕ) → Among (planned_at t l w u old n f x e) n
unfolding planned_at
at-among t l w u old n f (Alter x) e = by_ltb (λ (r : Planned). Among r n) f n (λ h. changed-among f n u h (altered_by (alone t l w u old x e) u w)) (λ _. tt)
at-among t l w u old n f (Assign a) e = by_ltb (λ (r : Planned). Among r n) f n (λ h. brought-among (λ p. Ok (Put f p u)) n a e (λ _. h)) (λ _. appended_among f n a e)
at-among t l w u old n f (Insert a) e = by_leb (λ (r : Planned). Among r n) f n (λ h. brought-among (λ a. Ok (Add f a)) n a e (λ _. h)) (λ _. tt)
at-among t l w u old n f (Remove m) e = by_ltb (λ (r : Planned). Among r n) f n (λ h. omega arith) (λ _. tt)

pub planned-among : (t l w : Bytes) (u old n : ℕ) (fd : Field) (x : Action) (e : ℕ) → Among (planned t l w u old n fd x e) n
planned-among t l w u old n (Some f) x e = at-among t l w u old n f x e
planned-among t l w u old n None x e = tt
