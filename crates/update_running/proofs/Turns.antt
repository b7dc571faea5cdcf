-- A run goes from one operation to the next. Assumes nothing.
use Rattle.std.specs.Prelude.{Ok, Err}
use mathlib.Core.Path.{◌≡◌, refl, sym, ap, ◌∙◌, subst}
use mathlib.Core.Logic.{◌⊎◌, inl, inr, ⊎_elim}
use mathlib.Core.List.{List, [], ◌∷◌, ◌++◌, append_assoc}
use mathlib.Core.Option.{Option, none, some}
use Prim.Native.Nat.{ℕ, suc, ◌+◌, ◌-◌, ◌<◌, ◌≤◌}
use native.Mathlib.Omega.{arith}
use native.Mathlib.Numerals.{add-one}
use borrow.Author.Tests.{le-leb}
use lib.ListN.{length, drop, get_or, length-append}
use Rattle.msgpack_first_bytes.specs.Bytes.{Bytes}
use Rattle.msgpack_first_bytes.proofs.Logic.{impossible}
use Rattle.msgpack_values.specs.Pieces.{joined}
use Rattle.tuples.specs.Limits.{max_tuple, max_operations, max_list}
use Rattle.tuples.specs.Tuple.{Fields, plain}
use Rattle.tuples.specs.Decoding.{fails, gets}
use Rattle.tuples.specs.Operation.{Operation, operation, before, operations}
use Rattle.tuples.specs.Edit.{Edit, plan_of, plans, step, Step, stop, next, perform, limited, spliced, run, onward, inverse, operation_bytes, undo_of}
use Rattle.tuples.specs.declared.Refusal.{Refusal, TheVariants.BadList}
use Rattle.tuples.proofs.Legal.{Legal, limited-next, plain-length}
use Rattle.tuples.proofs.Taking.{got_legal}
use Rattle.update_places.specs.Place.{Sources}
use Rattle.update_operations.proofs.Listing.{operations_end, operations_over, operations-fails, operations-more}
use Rattle.update_planning.proofs.Plans.{Fills}
use Rattle.update_running.specs.declared.Stage.{Stage}
use Rattle.update_running.specs.Course.{Course}
use Rattle.update_running.specs.Held.{fields_now, Held}
use Rattle.update_running.specs.Carrying.{Came, stops, makes, came_by, comes_to, takes_back, rest_of, work_room, Stalled, Carries, finishes_by}
use Rattle.update_running.proofs.Holding.{joined-append, edited_bytes}
use Rattle.update_running.proofs.Undoing.{operation-length}
use Rattle.update_running.proofs.Performing.{one_field, one-joined}

-- ---- the operations that are left

module _ (base n : ℕ) (l : Bytes) (few : n ≤ max_operations) (short : length l ≤ max_list) where
  rest-is : (i at : ℕ) → rest_of base n i at l ≡ operations base (n - i) (drop at l)
  unfolding rest_of
  rest-is i at = rw (le-leb n max_operations few, le-leb (length l) max_list short)

  module _ (i at : ℕ) (h : i < n) where
    one_less : n - i ≡ suc (n - (i + 1))
    one_less = omega arith

    pub rest_bad : operation base (drop at l) ≡ fails → rest_of base n i at l ≡ none
    rest_bad e = rest-is i at ∙ rw one_less (operations-fails base (n - (i + 1)) (drop at l) e)

    pub rest_more : (o : Operation) (e : ℕ) → operation base (drop at l) ≡ gets o (drop e l) → rest_of base n i at l ≡ before o (rest_of base n (i + 1) e l)
    rest_more o e g = rest-is i at ∙ rw one_less (operations-more base (n - (i + 1)) (drop at l) g) ∙ ap (before o) (sym (rest-is (i + 1) e))

  module _ (i at : ℕ) (h : n ≤ i) where
    none-less : n - i ≡ 0
    none-less = omega arith

    pub rest_over : at < length l → rest_of base n i at l ≡ none
    rest_over k = rest-is i at ∙ rw none-less (operations_over base l at k)

    pub rest_end : length l ≤ at → rest_of base n i at l ≡ some []
    rest_end k = rest-is i at ∙ rw none-less (operations_end base l at k)

-- ---- what one operation makes of the rest

-- the undo list with what was laid before
abbrev pub later_back : List Bytes → Fields → Option (List Operation) → List Bytes
later_back us t none = []
later_back us t (some os) = undo_of (plans os) t ++ us

-- a refusal stands, if the rest of the list is not refused
abbrev pub held_up : Refusal → ℕ → Option (List Operation) → Came
held_up k j none = stops BadList 0
held_up k j (some os) = stops k j

module _ (o : Operation) (i : ℕ) (t : Fields) where
  pub came-stops : {k : Refusal} → perform (plan_of o t) t ≡ stop k → (r : Option (List Operation)) → comes_to i (some t) (before o r) ≡ held_up k i r
  unfolding comes_to before run plans step
  came-stops e none = refl
  came-stops e (some os) = rw e

  pub came-goes : {u : Fields} → perform (plan_of o t) t ≡ next u → (r : Option (List Operation)) → comes_to i (some t) (before o r) ≡ comes_to (i + 1) (some u) r
  unfolding comes_to before run plans step
  came-goes e none = refl
  came-goes e (some os) = rw (e, add-one)

  pub back-goes : {u : Fields} → perform (plan_of o t) t ≡ next u → (us : List Bytes) (r : Option (List Operation))
      → later_back us t (before o r) ≡ later_back (inverse (plan_of o t) t ++ us) u r
  unfolding before undo_of plans step
  back-goes e us none = refl
  back-goes {u} e us (some os) = rw e (append_assoc (undo_of (plans os) u) (inverse (plan_of o t) t) us)

pub held_up_lem : (o : Operation) (k : Refusal) (j : ℕ) (r : Option (List Operation)) → held_up k j (before o r) ≡ held_up k j r
unfolding before
held_up_lem o k j none = refl
held_up_lem o k j (some os) = refl

-- ---- i operations of n are performed

pub record Sofar (base n first start : ℕ) (t₀ : Fields) (t l w : Bytes) (table back : List ℕ) (z : Stage) (i at : ℕ) : Type 0 where
  pub us : List Bytes
  pub held : Held t l w table back (n - i) z us
  pub legal : Legal (fields_now t l w table z)
  pub goes : comes_to first (some t₀) (rest_of base n first start l) ≡ comes_to i (some (fields_now t l w table z)) (rest_of base n i at l)
  pub undoes : takes_back (some t₀) (rest_of base n first start l) ≡ later_back us (fields_now t l w table z) (rest_of base n i at l)
  pub since : first ≤ i
  pub fresh : (first < i) ⊎ (z.used ≡ 0)

pub record HeldUp (base n first start : ℕ) (t₀ : Fields) (l : Bytes) (k : Refusal) (j i at : ℕ) : Type 0 where
  pub goes : comes_to first (some t₀) (rest_of base n first start l) ≡ held_up k j (rest_of base n i at l)
  pub few : j ≤ max_operations

abbrev pub InCourse : ℕ → ℕ → ℕ → ℕ → Fields → Bytes → Bytes → Bytes → List ℕ → List ℕ → Course → ℕ → ℕ → Type 0
InCourse base n first start t₀ t l w table back (Ok z) i at = Sofar base n first start t₀ t l w table back z i at
InCourse base n first start t₀ t l w table back (Err (k, j)) i at = HeldUp base n first start t₀ l k j i at

-- ---- the work array is full

module _ (o : Operation) (t₁ : Fields) (us : List Bytes) (w v : Bytes) (used bytes back : ℕ) (F : Fills w v used t₁ (plan_of o t₁))
    (log : used ≤ bytes + back) (eb : bytes ≡ length (joined t₁)) (ek : back ≡ length (joined us)) (h : work_room ≤ length w) where
  -- all that was computed is a field or stands in the undo list
  long-back : (os : List Operation) (t₂ : Fields) → perform (plan_of o t₁) t₁ ≡ next t₂ → max_list < length (plain (later_back us t₁ (some (o ∷ os))))
  unfolding undo_of plans step perform inverse
  long-back os t₂ p =
      let f = F.f in
      let b = F.bytes in
      let P : limited (spliced f 1 (b ∷ []) t₁) ≡ next t₂ = ap (λ (e : Edit). perform e t₁) (sym F.edit) ∙ p in
      let (e, g) = limited-next (spliced f 1 (b ∷ []) t₁) t₂ P in
      let G : length (plain (spliced f 1 (b ∷ []) t₁)) ≤ max_tuple = subst (λ (x : Fields). length (plain x) ≤ max_tuple) (sym e) g.short in
      let Q = plain-length (spliced f 1 (b ∷ []) t₁) in
      let a = edited_bytes f 1 (b ∷ []) t₁ in
      let c = one_field t₁ f F.among in
      let d = one-joined b in
      let op = operation_bytes 0x3d f (get_or t₁ f []) in
      let L = operation-length 0x3d f (get_or t₁ f []) in
      let X = undo_of (plans os) t₂ in
      let N : undo_of (plans (o ∷ os)) t₁ ≡ X ++ (op ∷ []) = rw (p, F.edit) in
      let J : length (joined ((X ++ (op ∷ [])) ++ us)) ≡ length (joined X) + length op + length (joined us)
      = ap length (joined-append (X ++ (op ∷ [])) us) ∙ length-append (joined (X ++ (op ∷ []))) (joined us)
      ∙ ap (λ (x : ℕ). x + length (joined us)) (ap length (joined-append X (op ∷ [])) ∙ length-append (joined X) (joined (op ∷ [])) ∙ ap (λ (x : ℕ). length (joined X) + x) (one-joined op)) in
      let M = plain-length ((X ++ (op ∷ [])) ++ us) in
      let U = F.full in
      rw N (omega arith)

  long-undo : (i : ℕ) (r : Option (List Operation)) (u : Fields) → comes_to i (some t₁) (before o r) ≡ makes u → max_list < length (plain (later_back us t₁ (before o r)))
  unfolding before comes_to run plans step
  long-undo i none u e = impossible (cc)
  long-undo i (some os) u e = go (perform (plan_of o t₁) t₁) refl e
    where
      go : (s : Step) → perform (plan_of o t₁) t₁ ≡ s → came_by (onward i s (run (suc i) (plans os))) ≡ makes u → max_list < length (plain (later_back us t₁ (some (o ∷ os))))
      go (stop k) p e = impossible (cc)
      go (next t₂) p e = long-back os t₂ p

-- ---- a turn, and the end

module _ (base n first start : ℕ) (t₀ : Fields) (t l w : Bytes) (table back : List ℕ) (i at : ℕ) (few : n ≤ max_operations) (short : length l ≤ max_list) (h : i < n) where
  -- what stands there is no operation
  pub course_bad : (c : Course) → InCourse base n first start t₀ t l w table back c i at → operation base (drop at l) ≡ fails
      → comes_to first (some t₀) (rest_of base n first start l) ≡ stops BadList 0
  unfolding comes_to
  course_bad (Ok z) s e = s.goes ∙ ap (comes_to i (some (fields_now t l w table z))) (rest_bad base n l few short i at h e)
  course_bad (Err (k, j)) s e = s.goes ∙ ap (held_up k j) (rest_bad base n l few short i at h e)

  module _ (o : Operation) (e : ℕ) (g : operation base (drop at l) ≡ gets o (drop e l)) where
    pub course_passed : {k : Refusal} {j : ℕ} → HeldUp base n first start t₀ l k j i at → HeldUp base n first start t₀ l k j (i + 1) e
    course_passed {k} {j} s =
        record { goes = s.goes ∙ ap (held_up k j) (rest_more base n l few short i at h o e g) ∙ held_up_lem o k j (rest_of base n (i + 1) e l); few = s.few }

    module _ (z : Stage) (s : Sofar base n first start t₀ t l w table back z i at) where
      abbrev t₁ : Fields
      t₁ = fields_now t l w table z

      here : comes_to first (some t₀) (rest_of base n first start l) ≡ comes_to i (some t₁) (before o (rest_of base n (i + 1) e l))
      here = s.goes ∙ ap (comes_to i (some t₁)) (rest_more base n l few short i at h o e g)

      pub course_stops : {k : Refusal} → perform (plan_of o t₁) t₁ ≡ stop k → HeldUp base n first start t₀ l k i (i + 1) e
      course_stops p = record { goes = here ∙ came-stops o i t₁ p (rest_of base n (i + 1) e l); few = omega arith }

      pub course_goes : (v : Bytes) (table' back' : List ℕ) (z' : Stage) → perform (plan_of o t₁) t₁ ≡ next (fields_now t l v table' z')
          → Held t l v table' back' (n - (i + 1)) z' (inverse (plan_of o t₁) t₁ ++ s.us) → Sofar base n first start t₀ t l v table' back' z' (i + 1) e
      course_goes v table' back' z' p H =
          record {
            us = inverse (plan_of o t₁) t₁ ++ s.us;
            held = H;
            legal = got_legal base (drop at l) g t₁ (fields_now t l v table' z') s.legal p;
            goes = here ∙ came-goes o i t₁ p (rest_of base n (i + 1) e l);
            undoes = s.undoes ∙ ap (later_back s.us t₁) (rest_more base n l few short i at h o e g) ∙ back-goes o i t₁ p s.us (rest_of base n (i + 1) e l);
            since = let a = s.since in omega arith;
            fresh = inl (let a = s.since in omega arith);
          }

      pub course_full : Sources t l → (v : Bytes) → v ≡ w → Fills w v z.used t₁ (plan_of o t₁) → Stalled (some t₀) t l w table back base n first start i at z
      course_full S v q F =
          record {
            us = s.us;
            held = s.held;
            sources = S;
            goes = s.goes;
            legal = s.legal.whole;
            on = ⊎_elim inl (λ x. inr (let a = F.full in let b = F.short in omega arith)) s.fresh;
            within = h;
            long = λ r u c.
                let R = rest_more base n l few short i at h o e g in
                rw (s.undoes, R) (long-undo o t₁ s.us w v z.used z.bytes z.back F s.held.log s.held.bytes s.held.back_bytes r i (rest_of base n (i + 1) e l) u (sym here ∙ c));
          }

module _ (base n first start : ℕ) (t₀ : Fields) (t l w : Bytes) (table back : List ℕ) (i at : ℕ) (few : n ≤ max_operations) (short : length l ≤ max_list) (h : n ≤ i) where
  pub course_over : (c : Course) → InCourse base n first start t₀ t l w table back c i at → at < length l → comes_to first (some t₀) (rest_of base n first start l) ≡ stops BadList 0
  unfolding comes_to
  course_over (Ok z) s k = s.goes ∙ ap (comes_to i (some (fields_now t l w table z))) (rest_over base n l few short i at h k)
  course_over (Err (k, j)) s x = s.goes ∙ ap (held_up k j) (rest_over base n l few short i at h x)

  pub course_ends : (c : Course) → InCourse base n first start t₀ t l w table back c i at → Sources t l → length l ≤ at
      → Carries (finishes_by c) (some t₀) t l w table back base n first start
  unfolding comes_to run plans undo_of
  course_ends (Ok z) s S k =
      let e = rest_end base n l few short i at h k in
      let m : n - i ≡ 0 = omega arith in
      record {
        us = s.us;
        held = rw m at s.held;
        sources = S;
        goes = s.goes ∙ ap (comes_to i (some (fields_now t l w table z))) e;
        undoes = s.undoes ∙ ap (later_back s.us (fields_now t l w table z)) e;
      }
  course_ends (Err (k, j)) s S x = (s.goes ∙ ap (held_up k j) (rest_end base n l few short i at h x), s.few)
