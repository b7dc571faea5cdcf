-- What a run holds is what writing asks. Assumes nothing.
use mathlib.Core.Path.{◌≡◌, refl, sym, ap, ◌∙◌, subst}
use mathlib.Core.Bool.{Bool, true, false, ◌&&◌}
use mathlib.Core.List.{List, [], ◌∷◌, ◌++◌, map}
use mathlib.Core.Option.{Option, none, some}
use Prim.Native.Nat.{ℕ, zero, suc, ◌+◌, ◌^◌, ◌<◌, ◌≤◌}
use native.Mathlib.Omega.{arith}
use borrow.Author.Tests.{leb-true}
use lib.Dec.{leb}
use lib.ListN.{length, take, drop, get_or}
use lib.Seq.{get_or-take, length-take-le}
use Rattle.msgpack_first_bytes.specs.Bytes.{Bytes, pick}
use Rattle.msgpack_values.specs.Pieces.{joined}
use Rattle.msgpack_writing.specs.Forms.{array_header, string_header}
use Rattle.tuples.specs.Limits.{max_operations, max_list}
use Rattle.tuples.specs.Tuple.{Fields, plain}
use Rattle.tuples.specs.Operation.{Operation}
use Rattle.tuples.specs.Edit.{Plan, Edit, refuse, put, add, cut, plans, Step, stop, next, step, on_step, operation_bytes, restored, inverse, undo_of}
use Rattle.tuples.specs.Call.{refusal, bytes, limited_list}
use Rattle.tuples.specs.declared.Refusal.TheVariants.{LongUndo}
use Rattle.tuples.proofs.Legal.{plain-length}
use Rattle.update_places.specs.Place.{Sources}
use Rattle.update_places.proofs.Kept.{kept, kept-one}
use Rattle.update_running.specs.declared.Stage.{Stage}
use Rattle.update_running.specs.Steps.{entry_mark, entry_field, entry_place}
use Rattle.update_running.specs.Held.{places_now, fields_now, entry_bytes, undo_in, Held}
use Rattle.update_running.specs.Carrying.{takes_back}
use Rattle.update_running.proofs.Holding.{WholeIn}
use Rattle.update_running.proofs.Performing.{win-length, fields-length, within}
use Rattle.update_delivering.specs.Gathering.{shown, Stands, undo_shown, undo_outcome, Undoes}

-- ---- the operations of an undo list have marks of one byte

unfoldable Marked : List Bytes → Type 0
Marked [] = Unit {0}
Marked (u ∷ us) = (get_or u 2 0 < 2 ^ 8) × Marked us

marked_append : (us vs : List Bytes) → Marked us → Marked vs → Marked (us ++ vs)
unfolding Marked
marked_append [] vs a b = b
marked_append (u ∷ us) vs a b = (a.0, marked_append us vs a.1 b)

marked_parts : (us vs : List Bytes) → Marked (us ++ vs) → Marked us × Marked vs
unfolding Marked
marked_parts [] vs m = (tt, m)
marked_parts (u ∷ us) vs m = let (a, b) = marked_parts us vs m.1 in ((m.0, a), b)

operation-mark : (c f : ℕ) (x : Bytes) → get_or (operation_bytes c f x) 2 0 ≡ c
unfolding operation_bytes array_header string_header
operation-mark c f x = refl

one_marked : (c f : ℕ) (x : Bytes) → c < 2 ^ 8 → Marked (operation_bytes c f x ∷ [])
unfolding Marked
one_marked c f x h = (rw (operation-mark c f x) h, tt)

restored_marked : (f : ℕ) (xs : Fields) → Marked (restored f xs)
unfolding Marked restored
restored_marked f [] = tt
restored_marked f (x ∷ xs) = marked_append (restored f xs) _ (restored_marked f xs) (one_marked 0x21 f x (omega arith))

inverse_marked : (e : Edit) (t : Fields) → Marked (inverse e t)
unfolding Marked inverse
inverse_marked (refuse k) t = tt
inverse_marked (put f b) t = one_marked 0x3d f (get_or t f []) (omega arith)
inverse_marked (add f b) t = one_marked 0x23 f _ (omega arith)
inverse_marked (cut f m) t = restored_marked f (take m (drop f t))

undo_marked : (ps : List Plan) (t : Fields) → Marked (undo_of ps t)
unfolding Marked undo_of
undo_marked [] t = tt
undo_marked (p ∷ ps) t = marked_append (on_step (step p t) (undo_of ps)) (inverse (p t) t) (go (step p t) (undo_marked ps)) (inverse_marked (p t) t)
  where
    go : (s : Step) → ((u : Fields) → Marked (undo_of ps u)) → Marked (on_step s (undo_of ps))
    go (stop k) f = tt
    go (next u) f = f u

takes_marked : (T : Option Fields) (os : Option (List Operation)) → Marked (takes_back T os)
unfolding Marked takes_back
takes_marked none os = tt
takes_marked (some t) none = tt
takes_marked (some t) (some os) = undo_marked (plans os) t

entries_marked : (t l w : Bytes) (es : List ℕ) → Marked (undo_in t l w es) → (i : ℕ) → i < length es → entry_mark (get_or es i 0) < 2 ^ 8
unfolding Marked undo_in entry_bytes
entries_marked t l w [] m i h = absurd (omega arith)
entries_marked t l w (e ∷ es) m zero h =
    let r = (marked_parts (undo_in t l w es) (entry_bytes t l w e ∷ []) m).1.0 in
    rw (operation-mark (entry_mark e) (entry_field e) _) at r
entries_marked t l w (e ∷ es) m (suc i) h = entries_marked t l w es (marked_parts (undo_in t l w es) (entry_bytes t l w e ∷ []) m).0 i (omega arith)

-- ---- all of the work array shows what its used bytes show

undo-same : (t l w : Bytes) (u : ℕ) (es : List ℕ) → WholeIn t l (take u w) es → undo_in t l w es ≡ undo_in t l (take u w) es
unfolding undo_in entry_bytes
undo-same t l w u [] m = refl
undo-same t l w u (e ∷ es) m =
    rw (kept-one t l w w u refl (entry_place e) (ap (λ (x : List ℕ). get_or x 0 0) m), undo-same t l w u es (ap (drop 1) m))

module _ {t l w : Bytes} {table back : List ℕ} {left : ℕ} {z : Stage} {us : List Bytes} (H : Held t l w table back left z us) where
  pub same-fields : shown t l w table z ≡ fields_now t l w table z
  same-fields = kept t l w w z.used refl (places_now table z) H.whole

  pub stands : Sources t l → Stands t l w table z
  stands S =
      let F = fields_now t l w table z in
      let long : length (array_header z.fields) + z.bytes ≡ length (plain F)
      = sym (plain-length F ∙ ap (λ (n : ℕ). length (array_header n) + length (joined F)) (fields-length H) ∙ ap (λ (n : ℕ). length (array_header z.fields) + n) (sym H.bytes)) in
      let w = within H in
      let n = win-length H in
      record {
        sources = S;
        inside = omega (arith, H.above);
        few = w.0;
        whole = ap (λ (x : Fields). map length x) same-fields ∙ H.whole;
        long = long ∙ ap (λ (x : Fields). length (plain x)) (sym same-fields);
        short = rw same-fields (omega (arith, long, w.1));
        sides = record {
          low_fits = omega (arith, H.low, n);
          tail_fits = omega (arith, H.tail, n);
          front = record { start = H.front_at; chain = H.front };
          rear = record { start = H.rear_at; chain = rw n H.rear };
        };
      }

  module _ (n : length back ≡ max_operations) where
    shown-undo : z.laid ≤ max_operations → undo_shown t l w back z ≡ us
    shown-undo h =
        let k : z.laid ≤ length back = omega arith in
        undo-same t l w z.used (take z.laid back) (H.olds_whole k) ∙ H.olds k

    pub undoes-held : (T : Option Fields) (os : Option (List Operation)) → takes_back T os ≡ us → Undoes t l w back z
    undoes-held T os e =
        record {
          short = omega (arith, H.short_back);
          entries = λ h. record {
            inside = omega (arith, h);
            few = h;
            marks = λ i k.
                let m : Marked (undo_shown t l w back z) = subst Marked (e ∙ sym (shown-undo h)) (takes_marked T os) in
                let q = length-take-le z.laid back (omega (arith, h)) in
                subst (λ (x : ℕ). entry_mark x < 2 ^ 8) (get_or-take z.laid back i 0 k) (entries_marked t l w (take z.laid back) m i (omega arith));
          };
          bytes = λ h. H.back_bytes ∙ ap (λ (x : List Bytes). length (joined x)) (sym (shown-undo h));
        }

    pub outcome : undo_outcome t l w back z ≡ limited_list us
    unfolding undo_outcome limited_list
    outcome =
        let p : length (plain us) ≡ length (array_header z.laid) + z.back
        = plain-length us ∙ ap (λ (k : ℕ). length (array_header k) + length (joined us)) (sym H.laid) ∙ ap (λ (k : ℕ). length (array_header z.laid) + k) (sym H.back_bytes) in
        rw (p, ← H.laid) (go (leb z.laid max_operations) refl)
      where
        go : (x : Bool) → leb z.laid max_operations ≡ x
            → pick (x && leb (length (array_header z.laid) + z.back) max_list) (bytes (plain (undo_shown t l w back z))) (refusal LongUndo 0)
            ≡ pick (x && leb (length (array_header z.laid) + z.back) max_list) (bytes (plain us)) (refusal LongUndo 0)
        go true e = rw (shown-undo (leb-true _ _ e))
        go false e = refl
