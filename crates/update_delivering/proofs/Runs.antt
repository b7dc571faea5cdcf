-- Entries gathered in sides, each of places that lie one behind the other. Assumes nothing.
use Rattle.std.specs.List.{AllAdjacentBelow}
use mathlib.Core.Path.{◌≡◌, refl, sym, ap, ◌∙◌, subst}
use mathlib.Core.Bool.{true}
use mathlib.Core.List.{List, [], ◌∷◌, ◌++◌, map, map-append, append_assoc, append-nil}
use Prim.Native.Nat.{ℕ, suc, ◌+◌}
use native.Mathlib.Omega.{arith}
use borrow.Author.Tests.{eqb-true}
use lib.Dec.{eqb}
use lib.ListN.{length, take, drop, get_or, length-append, take-append-drop}
use lib.Seq.{take-add, drop-append_seam, take-append_seam}
use Rattle.msgpack_first_bytes.specs.Bytes.{Bytes}
use Rattle.msgpack_values.specs.Pieces.{joined}
use Rattle.msgpack_writing.specs.Put.{put, next}
use Rattle.msgpack_writing.proofs.Put.{Wrote, wrote, join as join-writes, nothing as write-nothing}
use Rattle.update_places.specs.Place.{start_of, length_of, bytes_at, fields_in, Chain}
use Rattle.update_places.proofs.Places.{map-take, map-drop}
use Rattle.update_running.proofs.Holding.{joined-append}
use Rattle.update_delivering.specs.Gathering.{Gathers, Side}

-- the fields of the first i entries, back to back
abbrev pub Front : Bytes → Bytes → Bytes → List ℕ → ℕ → Bytes
Front t l w es i = joined (fields_in t l w (take i es))

pub front_split : (t l w : Bytes) (es : List ℕ) (i k : ℕ) → Front t l w es (i + k) ≡ Front t l w es i ++ joined (fields_in t l w (take k (drop i es)))
unfolding fields_in
front_split t l w es i k = rw (take-add i k es, map-append, joined-append)

pub fields_split : (t l w : Bytes) (es : List ℕ) (i : ℕ) → joined (fields_in t l w es) ≡ Front t l w es i ++ joined (fields_in t l w (drop i es))
unfolding fields_in
fields_split t l w es i = ap (λ (x : List ℕ). joined (map (bytes_at t l w) x)) (sym (take-append-drop i es)) ∙ rw (map-append, joined-append)

pub whole_drop : (t l w : Bytes) (es : List ℕ) (i : ℕ) → map length (fields_in t l w es) ≡ map length_of es
    → map length (fields_in t l w (drop i es)) ≡ map length_of (drop i es)
unfolding fields_in
whole_drop t l w es i m = rw (map-drop, map-drop, map-drop) (ap (drop i) m)

pub whole_take : (t l w : Bytes) (es : List ℕ) (i : ℕ) → map length (fields_in t l w es) ≡ map length_of es
    → map length (fields_in t l w (take i es)) ≡ map length_of (take i es)
unfolding fields_in
whole_take t l w es i m = rw (map-take, map-take, map-take) (ap (take i) m)

fields-append : (t l w : Bytes) (es fs : List ℕ) → joined (fields_in t l w (es ++ fs)) ≡ joined (fields_in t l w es) ++ joined (fields_in t l w fs)
unfolding fields_in
fields-append t l w es fs = rw (map-append, joined-append)

-- ---- the loop that gathers

-- the first places of some, each of which ends where the next one begins; and the rest
pub record Beside (es side left : List ℕ) : Type 0 where
  pub is : es ≡ side ++ left
  pub adjacent : AllAdjacentBelow (λ p q. eqb (start_of p + length_of p) (start_of q) ≡ true) es (length side)

chained : (side left : List ℕ) → AllAdjacentBelow (λ p q. eqb (start_of p + length_of p) (start_of q) ≡ true) (side ++ left) (length side)
    → (a : ℕ) → start_of (get_or side 0 0) ≡ a → Chain a side
unfolding Chain
chained [] left h a e = tt
chained (p ∷ []) left h a e = (e, tt)
chained (p ∷ (q ∷ side)) left h a e =
    (e, chained (q ∷ side) left (λ k d m. let n : suc k + 1 ≡ suc (k + 1) = omega arith in rw n at (h (suc k) d (omega arith))) (a + length_of p) (sym (rw e at (eqb-true _ _ (h 0 0 (omega arith))))))

-- the entries before those that are left are gathered
pub record Gathered (t l w : Bytes) (es : List ℕ) (out : Bytes) (at : ℕ) (left : List ℕ) (cur : Bytes) (to : ℕ) : Type 0 where
  pub before : List ℕ
  pub is : es ≡ before ++ left
  pub wrote : Wrote out at (joined (fields_in t l w before)) cur to

module _ {t l w : Bytes} {es : List ℕ} {out : Bytes} {at : ℕ} (G : Gathers t l w es out at) where
  pub begun : Gathered t l w es out at es out at
  unfolding fields_in joined
  begun = record { before = []; is = refl; wrote = wrote out at [] (write-nothing out at [] refl) (omega (arith, G.room)) }

  pub ended : {left : List ℕ} {cur : Bytes} {to : ℕ} → Gathered t l w es out at left cur to → length left ≡ 0 → Wrote out at (joined (fields_in t l w es)) cur to
  ended {left = []} {cur} {to} g e = subst (λ (x : List ℕ). Wrote out at (joined (fields_in t l w x)) cur to) (sym (g.is ∙ append-nil g.before)) g.wrote
  ended {left = x ∷ left} g e = absurd (omega arith)

  module _ {left : List ℕ} {cur : Bytes} {to : ℕ} (g : Gathered t l w es out at left cur to) {side more : List ℕ} (b : Beside left side more) where
    sizes : length (joined (fields_in t l w es)) ≡ length (joined (fields_in t l w g.before)) + (length (joined (fields_in t l w side)) + length (joined (fields_in t l w more)))
    sizes =
        let F = λ (x : List ℕ). joined (fields_in t l w x) in
        ap (λ (x : List ℕ). length (F x)) (g.is ∙ ap (λ (x : List ℕ). g.before ++ x) b.is) ∙ ap length (fields-append t l w g.before (side ++ more)) ∙ length-append (F g.before) (F (side ++ more))
        ∙ ap (λ (n : ℕ). length (F g.before) + n) (ap length (fields-append t l w side more) ∙ length-append (F side) (F more))

    pub side_gathers : Gathers t l w side cur to × Side side
    side_gathers = (
      record {
        sources = G.sources;
        few = let e = ap length g.is ∙ length-append g.before left in let f = ap length b.is ∙ length-append side more in omega (arith, G.few);
        whole =
            let W = λ (x : List ℕ). map length (fields_in t l w x) ≡ map length_of x in
            let m : W left = subst W (ap (drop (length g.before)) g.is ∙ drop-append_seam g.before left) (whole_drop t l w es (length g.before) G.whole) in
            subst W (ap (take (length side)) b.is ∙ take-append_seam side more) (whole_take t l w left (length side) m);
        room = omega (arith, sizes, G.room, g.wrote.end, g.wrote.long);
      },
      record { start = start_of (get_or side 0 0); chain = chained side more (subst (λ (x : List ℕ). AllAdjacentBelow (λ p q. eqb (start_of p + length_of p) (start_of q) ≡ true) x (length side)) b.is b.adjacent) (start_of (get_or side 0 0)) refl },
    )

    pub side_gathered : {new : Bytes} {k : ℕ} → (k ≡ next to (joined (fields_in t l w side)) cur) × (new ≡ put to (joined (fields_in t l w side)) cur)
        → Gathered t l w es out at more new k
    side_gathered {new} {k} d =
        record {
          before = g.before ++ side;
          is = g.is ∙ ap (λ (x : List ℕ). g.before ++ x) b.is ∙ sym (append_assoc g.before side more);
          wrote = subst (λ (x : Bytes). Wrote out at x new k) (sym (fields-append t l w g.before side)) (join-writes g.wrote (wrote cur to (joined (fields_in t l w side)) d side_gathers.0.room));
        }
