-- What is answered. Assumes nothing.
use Rattle.std.specs.Prelude.{Ok, Err, Result}
use mathlib.Core.Path.{◌≡◌, refl, sym, ap, ◌∙◌}
use mathlib.Core.Bool.{Bool, true, false, ◌&&◌}
use mathlib.Core.List.{List, [], ◌∷◌, ◌++◌}
use Prim.Native.Nat.{ℕ, ◌+◌, ◌<◌, ◌≤◌}
use native.Mathlib.Omega.{arith}
use borrow.Author.Tests.{le-leb, lt-leb, leb-true}
use lib.Dec.{leb}
use lib.ListN.{length, take, drop, length-append}
use lib.Seq.{length-take-le}
use Rattle.msgpack_first_bytes.specs.Bytes.{Bytes, pick}
use Rattle.msgpack_first_bytes.proofs.Logic.{impossible}
use Rattle.msgpack_values.specs.Pieces.{joined}
use Rattle.msgpack_writing.specs.Forms.{array_header}
use Rattle.msgpack_writing.specs.Put.{put, next}
use Rattle.msgpack_writing.proofs.Put.{Wrote, wrote, join}
use Rattle.tuples.specs.Limits.{max_operations, max_list}
use Rattle.tuples.specs.Tuple.{plain}
use Rattle.tuples.specs.Call.{Outcome, refusal, bytes, refusing, writing, delivered}
use Rattle.tuples.specs.Press.{pressing, declining, writing_both, pressed}
use Rattle.tuples.specs.declared.Refusal.{Refusal}
use Rattle.tuples.specs.declared.Refusal.TheVariants.{LongUndo, ShortBuffer}
use Rattle.tuples.proofs.Cases.{both_hold}
use Rattle.tuples.proofs.Legal.{plain-length}
use Rattle.update_running.specs.declared.Stage.{Stage}
use Rattle.update_running.specs.Held.{undo_in}
use Rattle.update_delivering.specs.Delivering.{written, both_written}
use Rattle.update_delivering.specs.Gathering.{in_limits, undo_shown, undo_outcome, Entries, Undoes}

-- ---- 17

abbrev limited_length : ℕ → ℕ → Result ℕ Refusal
limited_length n b = pick (in_limits n b) (Ok (length (array_header n) + b)) (Err LongUndo)

module _ (n b : ℕ) where
  pub many : max_operations < n → Err LongUndo ≡ limited_length n b
  many h = simp (lt-leb _ _ h)

  pub long : max_list < length (array_header n) + b → Err LongUndo ≡ limited_length n b
  long h = go (leb n max_operations) (lt-leb _ _ h)
    where
      go : (x : Bool) {y : Bool} → y ≡ false → Err LongUndo ≡ pick (x && y) (Ok (length (array_header n) + b)) (Err LongUndo)
      go true e = rw e
      go false e = refl

  pub within : n ≤ max_operations → length (array_header n) + b ≤ max_list → limited_length n b ≡ Ok (length (array_header n) + b)
  within h k = simp (le-leb _ _ h, le-leb _ _ k)

-- ---- a header, then the values

module _ (us : List Bytes) (n : ℕ) (out : Bytes) {u : Bytes} {i : ℕ} (e : n ≡ length us) (h : length (plain us) ≤ length out)
    (a : (i ≡ next 0 (array_header n) out) × (u ≡ put 0 (array_header n) out)) where
  header-written : Wrote out 0 (array_header n) u i
  header-written = wrote out 0 (array_header n) a (let l = plain-length us in let q = ap (λ (m : ℕ). length (array_header m)) e in omega arith)

  pub values-room : i + length (joined us) ≤ length u
  values-room =
      let v = header-written in
      let l = plain-length us in
      let q = ap (λ (m : ℕ). length (array_header m)) e in
      omega (arith, v.end, v.long)

  pub plain-written : {x : Bytes} {k : ℕ} → (k ≡ next i (joined us) u) × (x ≡ put i (joined us) u) → x ≡ plain us ++ drop (length (plain us)) out
  unfolding plain
  plain-written b =
      let p = array_header n ++ joined us in
      let z : 0 + length p ≡ length p = omega arith in
      rw (← e) ((join header-written (wrote u i (joined us) b values-room)).is ∙ ap (λ (k : ℕ). p ++ drop k out) z)

-- ---- one buffer

module _ (b out : Bytes) where
  pub too_short_lem : length out < length b → refusing ShortBuffer 0 out ≡ delivered (bytes b) out
  unfolding delivered
  too_short_lem h = rw (lt-leb _ _ h)

  pub all-written : {k : ℕ} {out' : Bytes} → k ≡ length b → length b ≤ length out → out' ≡ b ++ drop (length b) out → written k out' ≡ delivered (bytes b) out
  unfolding delivered writing
  all-written e h q = rw (le-leb _ _ h, e, q)

-- ---- the undo list

undo-count : (t l w : Bytes) (es : List ℕ) → length (undo_in t l w es) ≡ length es
unfolding undo_in
undo-count t l w [] = refl
undo-count t l w (e ∷ es) = length-append (undo_in t l w es) _ ∙ (let i = undo-count t l w es in omega arith)

module _ {t l w : Bytes} {back : List ℕ} {z : Stage} (U : Undoes t l w back z) where
  pub record Limited (r : ℕ) : Type 0 where
    pub few : z.laid ≤ max_operations
    pub counted : z.laid ≡ length (undo_shown t l w back z)
    pub long : r ≡ length (plain (undo_shown t l w back z))
    pub is : undo_outcome t l w back z ≡ bytes (plain (undo_shown t l w back z))

  module _ (r : Result ℕ Refusal) (e : r ≡ limited_length z.laid z.back) where
    pub undo-refused : {k : Refusal} → r ≡ Err k → (k ≡ LongUndo) × (undo_outcome t l w back z ≡ refusal k 0)
    unfolding undo_outcome
    undo-refused {k} f = go (in_limits z.laid z.back) (sym e ∙ f)
      where
        go : (x : Bool) → pick x (Ok (length (array_header z.laid) + z.back)) (Err LongUndo) ≡ Err k
            → (k ≡ LongUndo) × (pick x (bytes (plain (undo_shown t l w back z))) (refusal LongUndo 0) ≡ refusal k 0)
        go true p = impossible (cc)
        go false p = let q : k ≡ LongUndo = cc in (q, rw q refl)

    pub undo-limited : {n : ℕ} → r ≡ Ok n → Limited n
    undo-limited {n} f = go (in_limits z.laid z.back) refl (sym e ∙ f)
      where
        go : (x : Bool) → in_limits z.laid z.back ≡ x → pick x (Ok (length (array_header z.laid) + z.back)) (Err LongUndo) ≡ Ok n → Limited n
        go true p q =
            let (m, o) = both_hold _ _ p in
            let h : z.laid ≤ max_operations = leb-true _ _ m in
            let c : z.laid ≡ length (undo_shown t l w back z) = sym (undo-count t l w (take z.laid back) ∙ length-take-le z.laid back (U.entries h).inside) in
            let g = plain-length (undo_shown t l w back z) in
            let k = U.bytes h in
            let a = ap (λ (n : ℕ). length (array_header n)) c in
            let i : length (array_header z.laid) + z.back ≡ n = cc in
            record { few = h; counted = c; long = omega (arith, i, a, k, g); is = unfold undo_outcome in rw p }
        go false p q = impossible (cc)

pub long-delivered : (k : Refusal) (out : Bytes) {o : Outcome} → o ≡ refusal k 0 → refusing k 0 out ≡ delivered o out
unfolding delivered
long-delivered k out e = rw e

-- ---- the list written

module _ (t l w out : Bytes) {back : List ℕ} {laid : ℕ} (E : Entries back laid) where
  abbrev us : List Bytes
  us = undo_in t l w (take laid back)

  laid-count : laid ≡ length us
  laid-count = sym (undo-count t l w (take laid back) ∙ length-take-le laid back E.inside)

  module _ (h : length (plain us) ≤ length out) {u : Bytes} {i : ℕ} (a : (i ≡ next 0 (array_header laid) out) × (u ≡ put 0 (array_header laid) out)) where
    pub undo-room : i + length (joined us) ≤ length u
    undo-room = values-room us laid out laid-count h a

    pub undo-written : {x : Bytes} {k : ℕ} → (k ≡ next i (joined us) u) × (x ≡ put i (joined us) u) → x ≡ plain us ++ drop (length (plain us)) out
    undo-written d = plain-written us laid out laid-count h a d

-- ---- both buffers

pub press-is : (b out un : Bytes) {o q : Outcome} → o ≡ q → pressed (pressing (bytes b) q) out un ≡ pressed (pressing (bytes b) o) out un
press-is b out un e = ap (λ (x : Outcome). pressed (pressing (bytes b) x) out un) (sym e)

pub long-declined : (k : Refusal) (b out un : Bytes) {o : Outcome} → o ≡ refusal k 0 → declining k 0 out un ≡ pressed (pressing (bytes b) o) out un
unfolding pressed pressing
long-declined k b out un e = rw e

module _ (b d out un : Bytes) where
  pub out-short : length out < length b → declining ShortBuffer 0 out un ≡ pressed (pressing (bytes b) (bytes d)) out un
  unfolding pressed pressing
  out-short h = rw (lt-leb _ _ h)

  pub undo-short : length un < length d → length b ≤ length out → declining ShortBuffer 0 out un ≡ pressed (pressing (bytes b) (bytes d)) out un
  unfolding pressed pressing
  undo-short h k = rw (le-leb _ _ k, lt-leb _ _ h)

  pub both-written : {n k : ℕ} {out' un' : Bytes} → n ≡ length b → k ≡ length d → length b ≤ length out → length d ≤ length un
      → out' ≡ b ++ drop (length b) out → un' ≡ d ++ drop (length d) un → both_written n k out' un' ≡ pressed (pressing (bytes b) (bytes d)) out un
  unfolding pressed pressing writing_both
  both-written e f h k q s = rw (le-leb _ _ h, le-leb _ _ k, e, f, q, s)
