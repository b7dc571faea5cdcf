-- An undo list takes the fields back, over any plans. Assumes nothing.
use mathlib.Core.Path.{◌≡◌, refl, sym, ap, ap₂, ◌∙◌, subst}
use mathlib.Core.List.{List, [], ◌∷◌, ◌++◌}
use Prim.Native.Nat.{ℕ, suc, ◌+◌, ◌-◌, ◌^◌, min, ◌<◌, ◌≤◌}
use native.Mathlib.Nat.{add-zero}
use native.Mathlib.Numerals.{add-one}
use native.Mathlib.Omega.{arith}
use borrow.Author.Tests.{lt-ltb, le-leb}
use lib.ListN.{length, get_or, take, drop, length-append, take-append-drop}
use lib.Seq.{split_at, length-take-le, take-append_seam, drop-append-add, drop-drop}
use Rattle.msgpack_first_bytes.specs.Bytes.{Bytes}
use Rattle.msgpack_values.specs.Value.{value}
use Rattle.msgpack_values.specs.Pieces.{Single, Each, more}
use Rattle.msgpack_writing.specs.Forms.{unsigned_form}
use Rattle.tuples.specs.Limits.{field_depth}
use Rattle.tuples.specs.Tuple.{Fields}
use Rattle.tuples.specs.Decoding.{gets}
use Rattle.tuples.specs.Operation.{assign, insert, remove, Operation, operation}
use Rattle.tuples.specs.Edit.{Edit, refuse, put, add, cut, spliced, edit_at, field_at, Plan, plan_of, plans, Step, stop, next, perform, step, Run, done, onward, run, operation_bytes, restored, inverse, undo_of}
use Rattle.msgpack_first_bytes.proofs.Logic.{impossible}
use Rattle.tuples.proofs.Whole.{each_append, each_take, each-drop, each_at}
use Rattle.tuples.proofs.Legal.{Fits, Legal, limited-fits, limited-next, plain-length, field-length, fits-less}
use Rattle.tuples.proofs.Decode.{got_fine, ReadAs, at, assign_back, insert_back, remove-back, Written, none_left, one_more, written-append}
use Rattle.tuples.proofs.Sound.{Brief, Sound, plan_sound, AllSound, none_left as no-plan, one_more as one-plan}

-- ---- running

went_on : (i : ℕ) (s : Step) (go : Fields → Run) (v : Fields) → onward i s go ≡ done v → (u : Fields) × (s ≡ next u) × (go u ≡ done v)
went_on i (stop k) go v h = impossible (cc)
went_on i (next u) go v h = (u, refl, h)

run-append : (ps qs : List Plan) (i : ℕ) (t u : Fields) → run i ps t ≡ done u → run i (ps ++ qs) t ≡ run (i + length ps) qs u
unfolding run
run-append [] qs i t u h = let p : t ≡ u = cc in ap₂ (λ (n : ℕ) (w : Fields). run n qs w) (omega arith) p
run-append (p ∷ ps) qs i t u h =
    let (v, e, g) = went_on i (step p t) (run (suc i) ps) u h in
    rw e (run-append ps qs (suc i) v u g ∙ ap (λ (n : ℕ). run n qs u) (omega arith))

plans-append : (os ps : List Operation) → plans (os ++ ps) ≡ plans os ++ plans ps
unfolding plans
plans-append [] ps = refl
plans-append (o ∷ os) ps = ap (◌∷◌ (plan_of o)) (plans-append os ps)

-- ---- a list whose operations take the fields u to t

pub record Takes (us : List Bytes) (u t : Fields) : Type 0 where
  pub os : List Operation
  pub written : Written us os
  pub runs : (i : ℕ) → run i (plans os) u ≡ done t

takes_none : (t : Fields) → Takes [] t t
unfolding run plans
takes_none t = record { os = []; written = none_left; runs = λ i. refl }

takes_one : {b : Bytes} {o : Operation} {u t : Fields} → ReadAs (operation 0) b o → step (plan_of o) u ≡ next t → Takes (b ∷ []) u t
unfolding run plans
takes_one {o = o} r e = record { os = o ∷ []; written = one_more r none_left; runs = λ i. rw e }

takes_then : {us vs : List Bytes} {u v t : Fields} → Takes us u v → Takes vs v t → Takes (us ++ vs) u t
takes_then {u = u} {v = v} x y =
    record {
      os = x.os ++ y.os;
      written = written-append x.written y.written;
      runs = λ i. rw (plans-append x.os y.os) (run-append (plans x.os) (plans y.os) i u v (x.runs i) ∙ y.runs _);
    }

-- ---- one operation of an undo list, at a known place

module _ (p q : Fields) where
  assign_step : (x y : Bytes) → Fits (p ++ y ∷ q) → step (plan_of (at (length p) (assign y))) (p ++ x ∷ q) ≡ next (p ++ y ∷ q)
  unfolding step plan_of field_at edit_at perform spliced
  assign_step x y h =
      let l : length p < length (p ++ x ∷ q) = rw length-append (omega arith) in
      rw (lt-ltb _ _ l) (rw (take-append_seam p (x ∷ q), drop-append-add p (x ∷ q) 1) (limited-fits (p ++ y ∷ q) h))

  insert_step : (y : Bytes) → Fits (p ++ y ∷ q) → step (plan_of (at (length p) (insert y))) (p ++ q) ≡ next (p ++ y ∷ q)
  unfolding step plan_of field_at edit_at perform spliced
  insert_step y h =
      let l : length p ≤ length (p ++ q) = rw length-append (omega arith) in
      rw (le-leb _ _ l) (rw (take-append_seam p q, drop-append-add p q 0) (limited-fits (p ++ y ∷ q) h))

  remove-step : (x : Bytes) → Fits (p ++ q) → step (plan_of (at (length p) (remove 1))) (p ++ x ∷ q) ≡ next (p ++ q)
  unfolding step plan_of field_at edit_at perform spliced
  remove-step x h =
      let n : length (p ++ x ∷ q) ≡ length p + suc (length q) = length-append p (x ∷ q) in
      let l : length p < length (p ++ x ∷ q) = omega arith in
      let m : min 1 (length (p ++ x ∷ q) - length p) ≡ 1 = omega arith in
      rw (lt-ltb _ _ l) (rw (m, take-append_seam p (x ∷ q), drop-append-add p (x ∷ q) 1) (limited-fits (p ++ q) h))

-- removed fields come back in their order
restored_takes : (xs p q : Fields) → length p < 2 ^ 64 → Each (value field_depth) xs → Fits (p ++ (xs ++ q)) → Takes (restored (length p) xs) (p ++ q) (p ++ (xs ++ q))
unfolding restored
restored_takes [] p q l w h = takes_none (p ++ q)
restored_takes (x ∷ xs) p q l (more e es) h =
    takes_then (restored_takes xs p q l es (fits-less p x (xs ++ q) h)) (takes_one (insert_back (length p) l x e) (insert_step p (xs ++ q) x h))

-- ---- an edit leaves legal fields, and its inverse takes them back

-- fields u after an edit of t, with what takes it back
pub record Undone (us : List Bytes) (u t : Fields) : Type 0 where
  pub legal : Legal u
  pub takes : Takes us u t

-- the same by other names
undone_as : {us vs : List Bytes} {u v t w : Fields} → us ≡ vs → u ≡ v → t ≡ w → Undone us u t → Undone vs v w
undone_as {us} {vs} {u} {v} {t} {w} a b c x =
    subst (λ (l : List Bytes). Undone l v w) a (subst (λ (k : Fields). Undone us k w) b (subst (λ (k : Fields). Undone us u k) c x))

module _ (p q : Fields) (l : length p < 2 ^ 64) where
  -- a field that is short enough to stay is one whole value
  stays : (b : Bytes) → Brief b → Fits (p ++ b ∷ q) → Each (value field_depth) p → Each (value field_depth) q → Legal (p ++ b ∷ q)
  stays b k h v w =
      let n = plain-length (p ++ b ∷ q) in
      let j = field-length p b q in
      record { fit = h; whole = each_append (value field_depth) v (more (k (omega arith)) w) }

  put_undone : (x b : Bytes) → Legal (p ++ x ∷ q) → Legal (p ++ b ∷ q) → Single (value field_depth) x
      → Undone (operation_bytes 0x3d (length p) x ∷ []) (p ++ b ∷ q) (p ++ x ∷ q)
  put_undone x b g k e = record { legal = k; takes = takes_one (assign_back (length p) l x e) (assign_step p q b x g.fit) }

  add_undone : (b : Bytes) → Legal (p ++ q) → Legal (p ++ b ∷ q) → Undone (operation_bytes 0x23 (length p) (unsigned_form 1) ∷ []) (p ++ b ∷ q) (p ++ q)
  add_undone b g k = record { legal = k; takes = takes_one (remove-back (length p) l) (remove-step p q b g.fit) }

  cut_undone : (xs : Fields) → Legal (p ++ (xs ++ q)) → Legal (p ++ q) → Each (value field_depth) xs → Undone (restored (length p) xs) (p ++ q) (p ++ (xs ++ q))
  cut_undone xs g k w = record { legal = k; takes = restored_takes xs p q l w g.fit }

module _ (t u : Fields) (g : Legal t) where
  front : (n : ℕ) → Each (value field_depth) (take n t)
  front n = each_take (value field_depth) n g.whole

  rest : (n : ℕ) → Each (value field_depth) (drop n t)
  rest n = each-drop (value field_depth) n g.whole

  edit_undone : (e : Edit) → Sound e t → perform e t ≡ next u → Undone (inverse e t) u t
  unfolding perform inverse spliced
  edit_undone (refuse k) s h = impossible (cc)
  edit_undone (put f b) s h =
      let p = take f t in
      let x = get_or t f [] in
      let q = drop (f + 1) t in
      let lp : length (take f t) ≡ f = length-take-le f t (omega arith) in
      let eq : t ≡ take f t ++ get_or t f [] ∷ drop (f + 1) t = rw add-one (split_at t f [] s.0) in
      let few = g.fit.few in
      let (ue, uf) = limited-next _ u h in
      undone_as (ap (λ (n : ℕ). operation_bytes 0x3d n x ∷ []) lp) ue (sym eq)
      (put_undone p q (omega arith) x b (subst Legal eq g) (stays p q (omega arith) b s.1 (subst Fits (sym ue) uf) (front f) (rest (f + 1))) (each_at (value field_depth) f s.0 g.whole))
  edit_undone (add f b) s h =
      let p = take f t in
      let q = drop (f + 0) t in
      let lp : length (take f t) ≡ f = length-take-le f t s.0 in
      let eq : take f t ++ drop (f + 0) t ≡ t = rw add-zero (take-append-drop f t) in
      let few = g.fit.few in
      let (ue, uf) = limited-next _ u h in
      undone_as (ap (λ (n : ℕ). operation_bytes 0x23 n (unsigned_form 1) ∷ []) lp) ue eq
      (add_undone p q (omega arith) b (subst Legal (sym eq) g) (stays p q (omega arith) b s.1 (subst Fits (sym ue) uf) (front f) (rest (f + 0))))
  edit_undone (cut f m) s h =
      let p = take f t in
      let q = drop (f + m) t in
      let xs = take m (drop f t) in
      let lp : length (take f t) ≡ f = length-take-le f t (omega arith) in
      let eq : take f t ++ (take m (drop f t) ++ drop (f + m) t) ≡ t = rw (← drop-drop m f t, take-append-drop m (drop f t)) (take-append-drop f t) in
      let few = g.fit.few in
      let (ue, uf) = limited-next _ u h in
      undone_as (ap (λ (n : ℕ). restored n xs) lp) ue eq
      (cut_undone p q (omega arith) xs (subst Legal (sym eq) g) (record { fit = subst Fits (sym ue) uf; whole = each_append (value field_depth) (front f) (rest (f + m)) }) (each_take (value field_depth) m (rest f)))

-- THE LAW: what ran over legal fields left legal fields, and its undo list takes them back
pub run_undone : (ps : List Plan) (t u : Fields) (i : ℕ) → AllSound ps → Legal t → run i ps t ≡ done u → Undone (undo_of ps t) u t
unfolding run undo_of
run_undone [] t u i no-plan g h = let e : t ≡ u = cc in undone_as refl e refl (record { legal = g; takes = takes_none t })
run_undone (p ∷ ps) t u i (one-plan k ks) g h =
    let (v, e, q) = went_on i (step p t) (run (suc i) ps) u h in
    let x : Undone (inverse (p t) t) v t = unfold step in edit_undone t v g (p t) (k t) e in
    let y = run_undone ps v u (suc i) ks x.legal q in
    rw e (record { legal = y.legal; takes = takes_then y.takes x.takes })

-- one operation leaves legal fields
pub got_legal : (base : ℕ) (s : Bytes) {o : Operation} {r : Bytes} → operation base s ≡ gets o r → (t u : Fields) → Legal t → perform (plan_of o t) t ≡ next u → Legal u
unfolding run step
got_legal base s {o} e t u g h = (run_undone (plan_of o ∷ []) t u 0 (one-plan (plan_sound o (got_fine base s e)) no-plan) g (rw h)).legal
