-- What is planned is the definition's edit of the fields that are held. Assumes nothing.
use Rattle.std.specs.Prelude.{Some, Ok, Err}
use mathlib.Core.Path.{◌≡◌, refl, sym, ap, ◌∙◌}
use mathlib.Core.Bool.{Bool, true, false, ◌&&◌}
use mathlib.Core.List.{[], ◌∷◌, ◌++◌}
use mathlib.Core.Logic.{⊎_elim}
use mathlib.Core.Option.{Option, none, some}
use Prim.Native.Nat.{ℕ, ◌+◌, ◌-◌, ◌<◌, ◌≤◌, ◌^◌}
use native.Mathlib.Nat.{min-le_right}
use native.Mathlib.Omega.{arith}
use borrow.Author.Tests.{lt-ltb, le-ltb, le-leb, lt-leb, eq-eqb, ne_eqb}
use lib.Dec.{leb}
use lib.IntN.{◌+ℤ◌, ◌-ℤ◌}
use lib.Bits.{bit_and, bit_or, bit_xor}
use lib.ListN.{length, get_or, take, drop, length-take, length-drop}
use lib.Seq.{length-take-le, take-length, take_at, drop_at}
use Rattle.msgpack_first_bytes.specs.Bytes.{Bytes, pick}
use Rattle.msgpack_first_bytes.proofs.Logic.{by_leb, either}
use Rattle.msgpack_scalars.specs.declared.Int.{Int, TheVariants.FromZero, TheVariants.BelowZero}
use Rattle.msgpack_writing.specs.Forms.{unsigned_form, string_form}
use Rattle.msgpack_writing.specs.Put as Writing
use Rattle.msgpack_writing.proofs.Put.{wrote, refused, through}
use Rattle.tuples.specs.Limits.{max_fields, max_tuple, max_list}
use Rattle.tuples.specs.Tuple.{Fields, plain}
use Rattle.tuples.specs.Decoding.{Got, fails, gets, Decoder, any_integer, at_least, string}
use Rattle.tuples.specs.Operation.{assign, insert, remove}
use Rattle.tuples.specs.Operation as Law
use Rattle.tuples.specs.Edit.{Edit, refuse, put, add, cut, asℤ, ranged, spliced, became, suited, altered, edit_at, field_at, plan_of, stop, next, fits, limited, perform}
use Rattle.tuples.specs.declared.Refusal.{Refusal, TheVariants.NoField, TheVariants.TooLarge}
use Rattle.tuples.proofs.Legal.{plain-length, field-length}
use Rattle.update_parts.specs.Part.{part}
use Rattle.update_numbers.specs.FieldNumber.{field_by, Field}
use Rattle.update_operations.specs.Found.{change_in, action_in}
use Rattle.update_operations.specs.Found as Found
use Rattle.update_operations.specs.declared.Bitwise.TheVariants.{And, Xor, Or}
use Rattle.update_operations.specs.declared.Change.{Change, TheVariants.Sum, TheVariants.Bits, TheVariants.Splice}
use Rattle.update_operations.specs.declared.Action.{Action, TheVariants.Alter, TheVariants.Assign, TheVariants.Insert, TheVariants.Remove}
use Rattle.update_operations.proofs.Actions.{bytes_of}
use Rattle.update_operations.proofs.Opening.{IsOperation}
use Rattle.update_places.specs.Place.{in_list, in_work, place_of, length_of, bytes_at}
use Rattle.update_places.proofs.Places.{place-small, start-place, length-place}
use Rattle.update_places.proofs.Runs.{from_list, from-work}
use Rattle.update_altering.specs.Altering.{changed, altered_by, work_by}
use Rattle.update_planning.specs.Plan.{brought, assigned_by, inserted_by, removed_by, changed_by, planned_at, work_at, planned, work_after, Planned}
use Rattle.update_altering.specs.declared.Obstacle.TheVariants.{Full, Refused}
use Rattle.update_planning.specs.declared.TableEdit.TheVariants.{Add, Cut, Put}

-- ---- what a plan says of the definition's edit of the fields fs; w is the work array, of which u bytes are in use, and v the one that the plan leaves

pub record Puts (t l v : Bytes) (u : ℕ) (fs : Fields) (f q used : ℕ) (ed : Edit) : Type 0 where
  pub edit : ed ≡ put f (bytes_at t l (take used v) q)
  pub among : f < length fs
  pub small : q < 2 ^ 32
  pub long : length (bytes_at t l (take used v) q) ≡ length_of q
  pub short : length_of q ≤ max_tuple
  pub more : u ≤ used
  pub most : used ≤ u + length_of q
  pub within : used ≤ length v

pub record Adds (t l v : Bytes) (u : ℕ) (fs : Fields) (f q : ℕ) (ed : Edit) : Type 0 where
  pub edit : ed ≡ add f (bytes_at t l (take u v) q)
  pub among : f ≤ length fs
  pub small : q < 2 ^ 32
  pub long : length (bytes_at t l (take u v) q) ≡ length_of q
  pub short : length_of q ≤ max_tuple

pub record Cuts (fs : Fields) (f m : ℕ) (ed : Edit) : Type 0 where
  pub edit : ed ≡ cut f m
  pub among : f + m ≤ length fs

-- the work array has no room for the new field
pub record Fills (w v : Bytes) (u : ℕ) (fs : Fields) (ed : Edit) : Type 0 where
  pub f : ℕ
  pub bytes : Bytes
  pub edit : ed ≡ put f bytes
  pub among : f < length fs
  pub short : length bytes ≤ max_tuple
  pub full : length w < u + length bytes
  pub same : v ≡ w

abbrev pub Means : Bytes → Bytes → Bytes → Bytes → ℕ → Fields → Planned → Edit → Type 0
Means t l w v u fs (Err (Refused k)) ed = perform ed fs ≡ stop k
Means t l w v u fs (Err Full) ed = Fills w v u fs ed
Means t l w v u fs (Ok (Put f q used)) ed = Puts t l v u fs f q used ed
Means t l w v u fs (Ok (Add f q)) ed = Adds t l v u fs f q ed
Means t l w v u fs (Ok (Cut f m)) ed = Cuts fs f m ed

pub record Planning (t l w v : Bytes) (u : ℕ) (fs : Fields) (p : Planned) (ed : Edit) : Type 0 where
  pub means : Means t l w v u fs p ed
  pub kept : take u v ≡ take u w
  pub long : length v ≡ length w

-- ---- refusals

refused_so : (fs : Fields) {ed : Edit} (k : Refusal) → ed ≡ refuse k → perform ed fs ≡ stop k
unfolding perform
refused_so fs k q = rw q

-- 16 for a field that is above a tuple's limit by itself
above : (fs : Fields) → max_tuple < length (plain fs) → limited fs ≡ stop TooLarge
unfolding limited fits
above fs h = rw (lt-leb _ _ h) (go (leb (length fs) max_fields))
  where
    go : (b : Bool) → pick (b && false) (next fs) (stop TooLarge) ≡ stop TooLarge
    go true = refl
    go false = refl

too_long : (fs : Fields) (f c : ℕ) (b : Bytes) → max_tuple < length b → limited (spliced f c (b ∷ []) fs) ≡ stop TooLarge
unfolding spliced
too_long fs f c b h =
    let p = plain-length (take f fs ++ b ∷ drop (f + c) fs) in
    let q = field-length (take f fs) b (drop (f + c) fs) in
    above (take f fs ++ b ∷ drop (f + c) fs) (omega arith)

-- ---- actions that alter a field: what they do to it is what they do to it alone

abbrev Alone : ℕ → Edit → Edit → Type 0
Alone f (refuse k) ed = ed ≡ refuse k
Alone f (put g b) ed = ed ≡ put f b
Alone f (add g b) ed = ⊥
Alone f (cut g m) ed = ⊥

module _ {A : Type 0} (read : Decoder A) (change : A → Option Bytes) (f : ℕ) (fs : Fields) where
  alone-altered : f < length fs → Alone f (altered read change 0 (get_or fs f [] ∷ [])) (altered read change f fs)
  unfolding altered suited became
  alone-altered h = rw (lt-ltb f (length fs) h) (by_read (read (get_or fs f [])))
    where
      by_change : (o : Option Bytes) → Alone f (became 0 o) (became f o)
      by_change none = refl
      by_change (some b) = refl

      by_read : (g : Got A) → Alone f (suited 0 g change) (suited f g change)
      by_read fails = refl
      by_read (gets a s) = by_change (change a)

  past_altered : length fs ≤ f → altered read change f fs ≡ refuse NoField
  unfolding altered
  past_altered h = rw (le-ltb f (length fs) h)

by_change : (P : (ℕ → Fields → Edit) → Type 0) → ((A : Type 0) (read : Decoder A) (change : A → Option Bytes) → P (altered read change)) → (l : Bytes) (x : Change) (e : ℕ) → P (edit_at (change_in l x e))
unfolding edit_at
by_change P h l (Sum true v) e = h Int any_integer (λ z. ranged (asℤ z -ℤ asℤ v))
by_change P h l (Sum false v) e = h Int any_integer (λ z. ranged (asℤ z +ℤ asℤ v))
by_change P h l (Bits And v) e = h ℕ (at_least 0) (λ n. some (unsigned_form (bit_and n v)))
by_change P h l (Bits Xor v) e = h ℕ (at_least 0) (λ n. some (unsigned_form (bit_xor n v)))
by_change P h l (Bits Or v) e = h ℕ (at_least 0) (λ n. some (unsigned_form (bit_or n v)))
by_change P h l (Splice p k a) e = h Bytes string (λ s. some (string_form (spliced p k (part a e l) s)))

-- ---- each action

-- the list's bytes that an action brings begin before they end
abbrev Starts : Action → ℕ → Type 0
Starts (Assign a) e = a ≤ e
Starts (Insert a) e = a ≤ e
Starts (Alter x) e = Unit {0}
Starts (Remove m) e = Unit {0}

module _ (t l w : Bytes) (u : ℕ) (fs : Fields) (lim : length l ≤ max_list) (used : u ≤ length w) (room : length w ≤ 49152) where
  -- a plan that leaves the work array as it is
  still : {p : Planned} {ed : Edit} → Means t l w w u fs p ed → Planning t l w w u fs p ed
  still m = record { means = m; kept = refl; long = refl }

  module _ (a e : ℕ) (h : a ≤ e) (k : e ≤ length l) where
    part-long : length (part a e l) ≡ e - a
    part-long = simp (length-take, length-drop) (omega arith)

    module _ (s : e - a ≤ max_tuple) where
      in_list_lem : bytes_at t l (take u w) (place_of (in_list + a) (e - a)) ≡ part a e l
      unfolding bytes_at
      in_list_lem =
          let i : in_list + a - in_list ≡ a = omega arith in
          rw (
            start-place (in_list + a) (e - a) (omega arith) (omega arith),
            length-place (in_list + a) (e - a) (omega arith) (omega arith),
            from_list t l (take u w) (in_list + a) (e - a) (omega arith) (omega arith),
            i,
          )

      place-long : length_of (place_of (in_list + a) (e - a)) ≡ e - a
      place-long = length-place (in_list + a) (e - a) (omega arith) (omega arith)

      put_means : (f : ℕ) → f < length fs → Puts t l w u fs f (place_of (in_list + a) (e - a)) u (put f (part a e l))
      put_means f g =
          let q = place-long in
          record {
            edit = ap (put f) (sym in_list_lem);
            among = g;
            small = place-small (in_list + a) (e - a);
            long = ap length in_list_lem ∙ part-long ∙ sym q;
            short = omega arith;
            more = omega arith;
            most = omega arith;
            within = used;
          }

      add_means : (f : ℕ) → f ≤ length fs → Adds t l w u fs f (place_of (in_list + a) (e - a)) (add f (part a e l))
      add_means f g =
          let q = place-long in
          record { edit = ap (add f) (sym in_list_lem); among = g; small = place-small (in_list + a) (e - a); long = ap length in_list_lem ∙ part-long ∙ sym q; short = omega arith }

    module _ (f : ℕ) where
      brought-put : f < length fs → Means t l w w u fs (brought (λ p. Ok (Put f p u)) a e) (put f (part a e l))
      unfolding perform
      brought-put g =
          by_leb (λ r. Means t l w w u fs r (put f (part a e l))) (e - a) max_tuple (λ s. put_means s f g)
          (λ s. too_long fs f 1 (part a e l) (let i = part-long in omega arith))

      brought-add : f ≤ length fs → Means t l w w u fs (brought (λ a. Ok (Add f a)) a e) (add f (part a e l))
      unfolding perform
      brought-add g =
          by_leb (λ r. Means t l w w u fs r (add f (part a e l))) (e - a) max_tuple (λ s. add_means s f g)
          (λ s. too_long fs f 0 (part a e l) (let i = part-long in omega arith))

      assign_means : Means t l w w u fs (assigned_by f (length fs) a e u) (edit_at (assign (part a e l)) f fs)
      unfolding edit_at
      assign_means =
          ⊎_elim
          (λ (g : length fs ≤ f).
          rw (le-ltb f (length fs) g)
          (⊎_elim (λ (i : f ≤ length fs). rw (eq-eqb f (length fs) (omega arith)) (brought-add i))
          (λ (i : length fs < f). rw (ne_eqb f (length fs) (λ z. omega arith)) (refused_so fs NoField refl)) (either f (length fs))))
          (λ (g : f < length fs). rw (lt-ltb f (length fs) g) (brought-put g))
          (either (length fs) f)

      insert_means : Means t l w w u fs (inserted_by f (length fs) a e) (edit_at (insert (part a e l)) f fs)
      unfolding edit_at
      insert_means =
          ⊎_elim (λ (g : f ≤ length fs). rw (le-leb f (length fs) g) (brought-add g))
          (λ (g : length fs < f). rw (lt-leb f (length fs) g) (refused_so fs NoField refl))
          (either f (length fs))

  module _ (f : ℕ) where
    remove_means : (m : ℕ) → Means t l w w u fs (removed_by f (length fs) m) (edit_at (remove m) f fs)
    unfolding edit_at
    remove_means m =
        ⊎_elim (λ (g : length fs ≤ f). rw (le-ltb f (length fs) g) (refused_so fs NoField refl))
        (λ (g : f < length fs). rw (lt-ltb f (length fs) g) (record { edit = refl; among = let k = min-le_right m (length fs - f) in omega arith }))
        (either (length fs) f)

    -- new bytes behind those in use
    module _ (g : f < length fs) (b : Bytes) (s : length b ≤ max_tuple) where
      abbrev behind : ℕ
      behind = place_of (in_work + u) (u + length b - u)

      behind-long : length_of behind ≡ length b
      behind-long = length-place (in_work + u) (u + length b - u) (omega arith) (omega arith) ∙ omega arith

      behind-is : (v : Bytes) → take (u + length b) v ≡ take u w ++ b → bytes_at t l (take (u + length b) v) behind ≡ b
      unfolding bytes_at
      behind-is v q =
          let i : in_work + u - in_work ≡ u = omega arith in
          let j : u + length b - u ≡ length b = omega arith in
          rw (
            start-place (in_work + u) (u + length b - u) (omega arith) (omega arith),
            behind-long,
            from-work t l (take (u + length b) v) (in_work + u) (length b) (omega arith),
            i,
            q,
            drop_at (take u w) b u (length-take-le u w used),
            take-length,
          )

      written : u + length b ≤ length w → Planning t l w (Writing.put u b w) u fs (Ok (Put f behind (u + length b))) (put f b)
      written h =
          let r = wrote w u b (refl, refl) h in
          let i = behind-is (Writing.put u b w) (rw r.end at (through r)) in
          let q = behind-long in
          let k = r.long in
          record {
            means = record {
              edit = ap (put f) (sym i);
              among = g;
              small = place-small (in_work + u) (u + length b - u);
              long = ap length i ∙ sym q;
              short = omega arith;
              more = omega arith;
              most = omega arith;
              within = omega arith;
            };
            kept = ap (take u) r.is ∙ take_at (take u w) (b ++ drop (u + length b) w) u (length-take-le u w used);
            long = k;
          }

    -- what alters field f, by what it does to the field alone
    by_edit : f < length fs → (x ed : Edit) → Alone f x ed → Planning t l w (work_by x u w) u fs (changed_by f u (altered_by x u w)) ed
    unfolding perform
    by_edit g (refuse k) ed q = still (refused_so fs k q)
    by_edit g (add j b) ed q = absurd q
    by_edit g (cut j m) ed q = absurd q
    by_edit g (put j b) ed q = rw q (⊎_elim short long (either (length b) max_tuple))
      where
        room_or_not : length b ≤ max_tuple → Planning t l w (Writing.put u b w) u fs (changed_by f u (pick (leb (u + length b) (length w)) (Ok (u + length b)) (Err Full))) (put f b)
        room_or_not s =
            ⊎_elim (λ (h : u + length b ≤ length w). rw (le-leb _ _ h) (written g b s h))
            (λ (h : length w < u + length b). rw (lt-leb _ _ h, ← (refused w u b h).1)
            (still (record { f = f; bytes = b; edit = refl; among = g; short = s; full = h; same = refl })))
            (either (u + length b) (length w))

        short : length b ≤ max_tuple → Planning t l w (work_by (put j b) u w) u fs (changed_by f u (altered_by (put j b) u w)) (put f b)
        short s = rw (le-leb (length b) max_tuple s) (room_or_not s)

        long : max_tuple < length b → Planning t l w (work_by (put j b) u w) u fs (changed_by f u (altered_by (put j b) u w)) (put f b)
        long s = rw (lt-leb (length b) max_tuple s) (still (too_long fs f 1 b s))

    alter_means : (x : Change) (e old : ℕ) → (f < length fs → bytes_at t l (take u w) old ≡ get_or fs f [])
        → Planning t l w (work_at t l w u old (length fs) f (Alter x) e) u fs (planned_at t l w u old (length fs) f (Alter x) e) (edit_at (change_in l x e) f fs)
    unfolding planned_at work_at changed
    alter_means x e old o =
        ⊎_elim
        (λ (g : length fs ≤ f). rw (le-ltb f (length fs) g)
        (still (refused_so fs NoField (by_change (λ d. d f fs ≡ refuse NoField) (λ A read change. past_altered read change f fs g) l x e))))
        (λ (g : f < length fs). rw (lt-ltb f (length fs) g, o g)
        (by_edit g (edit_at (change_in l x e) 0 (get_or fs f [] ∷ [])) (edit_at (change_in l x e) f fs)
        (by_change (λ d. Alone f (d 0 (get_or fs f [] ∷ [])) (d f fs)) (λ A read change. alone-altered read change f fs g) l x e)))
        (either (length fs) f)

    at_means : (x : Action) (e old : ℕ) → Starts x e → e ≤ length l → (f < length fs → bytes_at t l (take u w) old ≡ get_or fs f [])
        → Planning t l w (work_at t l w u old (length fs) f x e) u fs (planned_at t l w u old (length fs) f x e) (edit_at (action_in l x e) f fs)
    unfolding planned_at work_at
    at_means (Alter x) e old h k o = alter_means x e old o
    at_means (Assign a) e old h k o = still (assign_means a e h k f)
    at_means (Insert a) e old h k o = still (insert_means a e h k f)
    at_means (Remove m) e old h k o = still (remove_means m)

  -- THE LAW of a plan: what is planned is the definition's own edit of the fields
  pub plan_means : {base at e : ℕ} {fd : Field} {x : Action} (i : IsOperation base l at fd x e) (old : ℕ)
      → ((f : ℕ) → fd ≡ Some f → f < length fs → bytes_at t l (take u w) old ≡ get_or fs f [])
      → {p : Planned} {v : Bytes} → p ≡ planned t l w u old (length fs) fd x e → v ≡ work_after t l w u old (length fs) fd x e → Planning t l w v u fs p (plan_of i.o fs)
  unfolding plan_of field_at
  plan_means {base} {at} {e} {fd} {x} i old o {p} {v} q r = rw (q, r, ← i.action, i.field) (go i.o.number (λ f y. o f (i.field ∙ y)))
    where
      starts : (a : Law.Action) → length (bytes_of a) ≤ e → Starts (Found.placed a e) e
      starts (Law.plus z) h = tt
      starts (Law.minus z) h = tt
      starts (Law.and z) h = tt
      starts (Law.xor z) h = tt
      starts (Law.or z) h = tt
      starts (assign b) h = omega arith
      starts (insert b) h = omega arith
      starts (remove m) h = tt
      starts (Law.splice y z b) h = tt

      go : (z : Int) → ((f : ℕ) → field_by z ≡ Some f → f < length fs → bytes_at t l (take u w) old ≡ get_or fs f [])
          → Planning t l w (work_after t l w u old (length fs) (field_by z) x e) u fs (planned t l w u old (length fs) (field_by z) x e) (field_at z (λ f. edit_at (action_in l x e) f fs))
      go (FromZero f) y = at_means f x e old (rw i.placed (starts i.o.action i.within)) i.end (y f refl)
      go (BelowZero m) y = still (refused_so fs NoField refl)
