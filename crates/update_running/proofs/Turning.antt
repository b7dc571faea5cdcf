-- A turn of a run: what `step` leaves is the course of the run after the operation. Assumes nothing.
use Rattle.std.specs.Prelude.{Some, Ok, Err}
use mathlib.Core.Path.{◌≡◌, refl, sym, ap, ◌∙◌, subst}
use mathlib.Core.Bool.{Bool, true, false}
use mathlib.Core.Logic.{inr}
use mathlib.Core.List.{List, [], map, append-nil}
use mathlib.Core.Option.{Option, none, some}
use Prim.Native.Nat.{ℕ, suc, ◌+◌, ◌-◌, ◌<◌, ◌≤◌}
use native.Mathlib.Omega.{arith}
use borrow.Author.Tests.{lt-ltb}
use lib.ListN.{length, take, get_or}
use Rattle.msgpack_first_bytes.specs.Bytes.{Bytes, pick}
use Rattle.msgpack_first_bytes.proofs.Logic.{impossible, by_ltb}
use Rattle.tuples.specs.Limits.{max_operations, max_list}
use Rattle.tuples.specs.Tuple.{Fields}
use Rattle.tuples.specs.Operation.{Operation}
use Rattle.tuples.specs.Edit.{plan_of, plans, undo_of}
use Rattle.tuples.specs.declared.Refusal.{TheVariants.TooLarge}
use Rattle.tuples.proofs.Legal.{limited-next}
use Rattle.update_places.specs.Place.{length_of, bytes_at, Sources, sum}
use Rattle.update_numbers.specs.FieldNumber.{Field}
use Rattle.update_operations.specs.declared.Action.{Action}
use Rattle.update_operations.proofs.Opening.{IsOperation}
use Rattle.update_planning.specs.Plan.{planned, work_after, Planned}
use Rattle.update_planning.proofs.Plans.{Planning, plan_means}
use Rattle.update_running.specs.declared.Stage.{Stage}
use Rattle.update_running.specs.Steps.{Performed, old_of, fitting, bytes_put, put_stage, add_stage, performed, table_after, back_after, Sound}
use Rattle.update_running.specs.Course.{Course, Stepped, plan_in, on_performed, CourseSound}
use Rattle.update_running.specs.Carrying.{Ran, rest_of, takes_back, work_room, Stalled, Begun, Carries, finishing}
use Rattle.update_running.specs.Held.{places_now, fields_now, Held}
use Rattle.update_running.proofs.Sums.{length-joined}
use Rattle.update_running.proofs.Performing.{fields-length, within, gone_bytes_lem, next_fits, Performs, performs}
use Rattle.update_running.proofs.Stepping.{Steps}
use Rattle.update_running.proofs.Turns.{later_back, Sofar, InCourse, course_passed, course_stops, course_goes, course_full, course_over, course_ends}
use Rattle.update_altering.specs.declared.Obstacle.TheVariants.{Full, Refused}
use Rattle.update_planning.specs.declared.TableEdit.TheVariants.{Add, Cut, Put}

-- ---- what is held is sound

held-sound : {t l w : Bytes} {table back : List ℕ} {left : ℕ} {z : Stage} {us : List Bytes} → Held t l w table back left z us → Sound z table
held-sound {t} {l} {w} {table} {back} {left} {z} H =
    let b = within H in
    let e : z.bytes ≡ sum (map length_of (places_now table z)) = H.bytes ∙ length-joined (fields_now t l w table z) ∙ ap sum H.whole in
    record {
      inside = let a = H.above in omega arith;
      bytes = e;
      few = b.0;
      short = let a = b.1 in omega arith;
      laid = let a = H.few_laid in omega arith;
      back = let a = H.short_back in omega arith;
      low = H.low;
      tail = H.tail;
    }

-- a plan that finds no room in the work array
full_plan : (p : Planned) (z : Stage) (table : List ℕ) → performed p z table ≡ Err Full → p ≡ Err Full
full_plan (Err (Refused k)) z table e = impossible (cc)
full_plan (Err Full) z table e = refl
full_plan (Ok (Put f q u)) z table e = go (put_stage f q u z table) (fitting z.fields (bytes_put f q z table)) e
  where
    go : (y : Stage) (b : Bool) → pick b (Ok y) (Err (Refused TooLarge)) ≡ Err Full → Ok (Put f q u) ≡ Err Full
    go y true e = impossible (cc)
    go y false e = impossible (cc)
full_plan (Ok (Add f q)) z table e = go (add_stage f q z table) (fitting (z.fields + 1) (z.bytes + length_of q)) e
  where
    go : (y : Stage) (b : Bool) → pick b (Ok y) (Err (Refused TooLarge)) ≡ Err Full → Ok (Add f q) ≡ Err Full
    go y true e = impossible (cc)
    go y false e = impossible (cc)
full_plan (Ok (Cut f m)) z table e = impossible (cc)

-- the fields at the start of a run
abbrev pub fields_at : Bytes → Bytes → Bytes → List ℕ → Course → Fields
fields_at t l w table (Ok z) = fields_now t l w table z
fields_at t l w table (Err (k, j)) = []

module _ (base n first start : ℕ) (t₀ : Fields) (t l w : Bytes) (table back : List ℕ) (i at : ℕ) where
  pub course_sound : (c : Course) → InCourse base n first start t₀ t l w table back c i at → CourseSound c table
  course_sound (Ok z) s = held-sound s.held
  course_sound (Err (k, j)) s = tt

  module _ (few : n ≤ max_operations) (short : length l ≤ max_list) (h : i < n) (room : length w ≤ work_room) {fd : Field} {x : Action} {e : ℕ} (o : IsOperation base l at fd x e) where
    module _ (z : Stage) (s : Sofar base n first start t₀ t l w table back z i at) where
      planning : Planning t l w (work_after t l w z.used (old_of fd z.head z.fields table) z.fields fd x e) z.used (fields_now t l w table z)
          (plan_in t l w table fd x e z) (plan_of o.o (fields_now t l w table z))
      planning =
          let f = fields-length s.held in
          plan_means t l w z.used (fields_now t l w table z) short s.held.used room o (old_of fd z.head z.fields table) old
          (ap (λ (k : ℕ). planned t l w z.used (old_of fd z.head z.fields table) k fd x e) (sym f)) (ap (λ (k : ℕ). work_after t l w z.used (old_of fd z.head z.fields table) k fd x e) (sym f))
        where
          old : (f : ℕ) → fd ≡ Some f → f < length (fields_now t l w table z) → bytes_at t l (take z.used w) (old_of fd z.head z.fields table) ≡ get_or (fields_now t l w table z) f []
          old f q k =
              let j : f < z.fields = let a = fields-length s.held in omega arith in
              rw (q, lt-ltb f z.fields j) (gone_bytes_lem s.held f j)

      one_left : Held t l w table back (suc (n - (i + 1))) z s.us
      one_left = let e : n - i ≡ suc (n - (i + 1)) = omega arith in rw e at s.held

      stepping : (d : Performed) → performed (plan_in t l w table fd x e z) z table ≡ d
          → Performs t l (work_after t l w z.used (old_of fd z.head z.fields table) z.fields fd x e) (table_after (plan_in t l w table fd x e z) z table)
          (back_after (plan_in t l w table fd x e z) z table back) (n - (i + 1)) s.us (fields_now t l w table z) (plan_of o.o (fields_now t l w table z)) d
      stepping d y =
          subst (Performs t l (work_after t l w z.used (old_of fd z.head z.fields table) z.fields fd x e) (table_after (plan_in t l w table fd x e z) z table)
          (back_after (plan_in t l w table fd x e z) z table back) (n - (i + 1)) s.us (fields_now t l w table z) (plan_of o.o (fields_now t l w table z))) y
          (performs one_left _ (plan_of o.o (fields_now t l w table z)) (plan_in t l w table fd x e z) planning)

    -- the course after the operation
    pub turn_next : (c c' : Course) (r : Stepped) (v : Bytes) (table' back' : List ℕ) → InCourse base n first start t₀ t l w table back c i at
        → Steps c t l w table back fd x e i r v table' back' → r ≡ Ok c' → (InCourse base n first start t₀ t l v table' back' c' (i + 1) e) × (length v ≡ length w)
    turn_next (Err (k, j)) c' r v table' back' s m q =
        let d : c' ≡ Err (k, j) = let y = m.0 in cc in
        (subst (λ (y : Course). InCourse base n first start t₀ t l v table' back' y (i + 1) e) (sym d) (course_passed base n first start t₀ t l w table back i at few short h o.o e o.got s), ap length m.1)
    turn_next (Ok z) c' r v table' back' s m q =
        (go (performed (plan_in t l w table fd x e z) z table) refl (sym q ∙ m.0), ap length m.1 ∙ (planning z s).long)
      where
        go : (d : Performed) → performed (plan_in t l w table fd x e z) z table ≡ d → Ok c' ≡ on_performed d z i → InCourse base n first start t₀ t l v table' back' c' (i + 1) e
        go (Err (Refused k)) y u =
            let P = stepping z s (Err (Refused k)) y in
            let d : c' ≡ Err (k, i) = cc in
            subst (λ (y : Course). InCourse base n first start t₀ t l v table' back' y (i + 1) e) (sym d) (course_stops base n first start t₀ t l w table back i at few short h o.o e o.got z s P)
        go (Err Full) y u = impossible (cc)
        go (Ok z') y u =
            let P = stepping z s (Ok z') y in
            let d : c' ≡ Ok z' = cc in
            rw (d, m.1, m.2, m.3) (course_goes base n first start t₀ t l w table back i at few short h o.o e o.got z s
            (work_after t l w z.used (old_of fd z.head z.fields table) z.fields fd x e) (table_after (plan_in t l w table fd x e z) z table) (back_after (plan_in t l w table fd x e z) z table back) z' P.0 P.1)

    -- the operation has no room in the work array
    pub turn_full : Sources t l → (c : Course) (z' : Stage) (r : Stepped) (v : Bytes) (table' back' : List ℕ) → InCourse base n first start t₀ t l w table back c i at
        → Steps c t l w table back fd x e i r v table' back' → r ≡ Err z' → Stalled (some t₀) t l v table' back' base n first start i at z'
    turn_full S (Err (k, j)) z' r v table' back' s m q = impossible (let y = m.0 in cc)
    turn_full S (Ok z) z' r v table' back' s m q = go (performed (plan_in t l w table fd x e z) z table) refl (sym q ∙ m.0)
      where
        go : (d : Performed) → performed (plan_in t l w table fd x e z) z table ≡ d → Err z' ≡ on_performed d z i → Stalled (some t₀) t l v table' back' base n first start i at z'
        go (Err (Refused k)) y u = impossible (cc)
        go (Ok z'') y u = impossible (cc)
        go (Err Full) y u =
            let p = full_plan (plan_in t l w table fd x e z) z table y in
            let F = rw p at (planning z s).means in
            let a : v ≡ w = m.1 ∙ F.same in
            let b : table' ≡ table = m.2 ∙ ap (λ (y : Planned). table_after y z table) p in
            let d : back' ≡ back = m.3 ∙ ap (λ (y : Planned). back_after y z table back) p in
            let g : z' ≡ z = cc in
            rw (a, b, d, g) (course_full base n first start t₀ t l w table back i at few short h o.o e o.got z s S _ F.same F)

-- ---- a run begins

pub course_begins : {base n first start : ℕ} {t l w : Bytes} {table back : List ℕ} {z : Stage} → Begun t l w table back n first z
    → Sofar base n first start (fields_now t l w table z) t l w table back z first start
course_begins {base} {n} {first} {start} {t} {l} {w} {table} {back} {z} B =
    record {
      us = [];
      held = B.held;
      legal = record { fit = (limited-next _ _ (next_fits (fields_now t l w table z) B.held.fit)).1; whole = B.legal };
      goes = refl;
      undoes = go (rest_of base n first start l);
      since = omega arith;
      fresh = inr B.used;
    }
  where
    go : (r : Option (List Operation)) → takes_back (some (fields_now t l w table z)) r ≡ later_back [] (fields_now t l w table z) r
    go none = unfold takes_back in refl
    go (some os) = unfold takes_back in sym (append-nil (undo_of (plans os) (fields_now t l w table z)))

-- ---- and ends

pub course_finished : (base n first start : ℕ) (t₀ : Fields) (t l w : Bytes) (table back : List ℕ) (i at : ℕ) (c : Course) (r : Ran) → n ≤ max_operations → length l ≤ max_list → n ≤ i → Sources t l
    → InCourse base n first start t₀ t l w table back c i at → r ≡ finishing c at l → Carries r (some t₀) t l w table back base n first start
unfolding finishing
course_finished base n first start t₀ t l w table back i at c r few short h S s e =
    rw e (by_ltb (λ (y : Ran). Carries y (some t₀) t l w table back base n first start) at (length l)
    (λ k. (course_over base n first start t₀ t l w table back i at few short h c s k, omega arith))
    (λ k. course_ends base n first start t₀ t l w table back i at few short h c s S k))
