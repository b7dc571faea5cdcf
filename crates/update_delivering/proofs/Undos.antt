-- The operations of an undo list, written from its entries. Assumes nothing.
use mathlib.Core.Path.{◌≡◌, refl, sym, ap, ◌∙◌, subst}
use mathlib.Core.List.{List, [], ◌∷◌, ◌++◌, append-nil, append_assoc}
use Prim.Native.Nat.{ℕ, ◌+◌, ◌^◌, ◌<◌, ◌≤◌}
use native.Mathlib.Omega.{arith}
use borrow.Author.Tests.{eq-eqb, ne_eqb}
use lib.ListN.{length, take, get_or, length-append}
use lib.Seq.{get_or-take, get_or-append_seam, length-take-le}
use Rattle.msgpack_first_bytes.specs.Bytes.{Bytes}
use Rattle.msgpack_values.specs.Pieces.{joined}
use Rattle.msgpack_writing.specs.Forms.{array_header, string_header, unsigned_form}
use Rattle.msgpack_writing.specs.Put.{put, next}
use Rattle.msgpack_writing.proofs.Put.{Wrote, wrote, written, nothing, join as join-writes, step}
use Rattle.tuples.specs.Edit.{operation_bytes}
use Rattle.update_places.specs.Place.{start_of, length_of, bytes_from, bytes_at}
use Rattle.update_running.specs.Steps.{entry_mark, entry_field, entry_place}
use Rattle.update_running.specs.Held.{entry_bytes, undo_in}
use Rattle.update_running.proofs.Holding.{joined-append, undo-append}
use Rattle.update_delivering.specs.Gathering.{Entries}

-- what a contract says of a write
abbrev Puts : ℕ → Bytes → Bytes → Bytes → ℕ → Type 0
Puts at p old cur a = (a ≡ next at p old) × (cur ≡ put at p old)

operation-written : (c f : ℕ) (x old : Bytes) (at : ℕ) {u v w : Bytes} {i j k : ℕ} → at + length (operation_bytes c f x) ≤ length old
    → Puts at (0x93 ∷ 0xa1 ∷ c ∷ []) old u i → Puts i (unsigned_form f) u v j → Puts j x v w k → Puts at (operation_bytes c f x) old w k
unfolding operation_bytes array_header string_header
operation-written c f x old at {u} {v} {w} {i} {j} h a b d =
    written (step old at (0x93 ∷ 0xa1 ∷ c ∷ []) a h (λ m. step u i (unsigned_form f) b m (λ n. wrote v j x d n)))

module _ (t l w old : Bytes) (e m f at : ℕ) (p : m ≡ entry_mark e) (q : f ≡ entry_field e) where
  removes : m ≡ 0x23 → entry_bytes t l w e ≡ operation_bytes m f (unsigned_form 1)
  unfolding entry_bytes
  removes s = rw (← p, ← q, eq-eqb m 0x23 s)

  copies : (m ≡ 0x23 → ⊥) → entry_bytes t l w e ≡ operation_bytes m f (bytes_at t l w (entry_place e))
  unfolding entry_bytes
  copies s = rw (← p, ← q, ne_eqb m 0x23 s)

  module _ {u v x : Bytes} {i j k : ℕ} where
    pub entry-removed : m ≡ 0x23 → at + length (entry_bytes t l w e) ≤ length old
        → Puts at (0x93 ∷ 0xa1 ∷ m ∷ []) old u i → Puts i (unsigned_form f) u v j → Puts j (unsigned_form 1) v x k → Puts at (entry_bytes t l w e) old x k
    entry-removed s h a b d = rw (removes s) (operation-written m f (unsigned_form 1) old at (rw (removes s) at h) a b d)

    pub entry_copied : {r n : ℕ} → (m ≡ 0x23 → ⊥) → at + length (entry_bytes t l w e) ≤ length old
        → Puts at (0x93 ∷ 0xa1 ∷ m ∷ []) old u i → Puts i (unsigned_form f) u v j → r ≡ start_of (entry_place e) → n ≡ length_of (entry_place e)
        → Puts j (bytes_from t l w r n) v x k → Puts at (entry_bytes t l w e) old x k
    unfolding bytes_at
    entry_copied {r} {n} s h a b g o d = rw (copies s) (operation-written m f (bytes_at t l w (entry_place e)) old at (rw (copies s) at h) a b (rw (g, o) at d))

-- ---- the loop: from the last entry to the first

-- there are marks for the entries that are laid, and so for these alone
pub entries-taken : {back : List ℕ} {laid : ℕ} → Entries back laid → Entries (take laid back) (length (take laid back))
entries-taken {back} {laid} E =
    let n = length-take-le laid back E.inside in
    record {
      inside = omega arith;
      few = omega (arith, E.few);
      marks = λ i h. subst (λ (x : ℕ). entry_mark x < 2 ^ 8) (sym (get_or-take laid back i 0 (omega arith))) (E.marks i (omega arith));
    }

-- the operations of the entries after those that are left are written
pub record Written (t l w : Bytes) (es : List ℕ) (out : Bytes) (at : ℕ) (left : List ℕ) (cur : Bytes) (to : ℕ) : Type 0 where
  pub behind : List ℕ
  pub is : es ≡ left ++ behind
  pub wrote : Wrote out at (joined (undo_in t l w behind)) cur to

module _ (t l w out : Bytes) (at : ℕ) {es : List ℕ} (E : Entries es (length es)) (R : at + length (joined (undo_in t l w es)) ≤ length out) where
  pub written-begun : Written t l w es out at es out at
  unfolding undo_in joined
  written-begun = record { behind = []; is = sym (append-nil es); wrote = wrote out at [] (nothing out at [] refl) (omega (arith, R)) }

  pub written-ended : {left : List ℕ} {cur : Bytes} {to : ℕ} → Written t l w es out at left cur to → length left ≡ 0 → Wrote out at (joined (undo_in t l w es)) cur to
  written-ended {left = []} {cur} {to} g e = subst (λ (x : List ℕ). Wrote out at (joined (undo_in t l w x)) cur to) (sym g.is) g.wrote
  written-ended {left = x ∷ left} g e = absurd (omega arith)

  module _ {left : List ℕ} {cur : Bytes} {to : ℕ} (fewer : List ℕ) (e : ℕ) (g : Written t l w es out at left cur to) (d : left ≡ fewer ++ e ∷ []) where
    split : es ≡ fewer ++ e ∷ g.behind
    split = g.is ∙ ap (λ (x : List ℕ). x ++ g.behind) d ∙ append_assoc fewer (e ∷ []) g.behind

    grown : joined (undo_in t l w (e ∷ g.behind)) ≡ joined (undo_in t l w g.behind) ++ entry_bytes t l w e
    unfolding undo_in joined
    grown = joined-append (undo_in t l w g.behind) (entry_bytes t l w e ∷ []) ∙ ap (λ (x : Bytes). joined (undo_in t l w g.behind) ++ x) (append-nil (entry_bytes t l w e))

    sizes : length (joined (undo_in t l w g.behind)) + length (entry_bytes t l w e) ≤ length (joined (undo_in t l w es))
    sizes =
        let a = ap (λ (x : List ℕ). length (joined (undo_in t l w x))) split ∙ ap (λ (x : List Bytes). length (joined x)) (undo-append t l w fewer (e ∷ g.behind))
        ∙ ap length (joined-append (undo_in t l w (e ∷ g.behind)) (undo_in t l w fewer)) ∙ length-append (joined (undo_in t l w (e ∷ g.behind))) (joined (undo_in t l w fewer)) in
        let b = ap length grown ∙ length-append (joined (undo_in t l w g.behind)) (entry_bytes t l w e) in
        omega (arith, a, b)

    pub entry-room : (entry_mark e < 2 ^ 8) × (to + length (entry_bytes t l w e) ≤ length cur)
    entry-room =
        let n = ap length split ∙ length-append fewer (e ∷ g.behind) in (
          subst (λ (x : ℕ). entry_mark x < 2 ^ 8) (ap (λ (x : List ℕ). get_or x (length fewer) 0) split ∙ get_or-append_seam fewer e g.behind 0) (E.marks (length fewer) (omega arith)),
          omega (arith, sizes, R, g.wrote.end, g.wrote.long),
        )

    pub rear-written : {new : Bytes} {k : ℕ} → Puts to (entry_bytes t l w e) cur new k → Written t l w es out at fewer new k
    rear-written {new} {k} a =
        record {
          behind = e ∷ g.behind;
          is = split;
          wrote = subst (λ (x : Bytes). Wrote out at x new k) (sym grown) (join-writes g.wrote (wrote cur to (entry_bytes t l w e) a entry-room.1));
        }
