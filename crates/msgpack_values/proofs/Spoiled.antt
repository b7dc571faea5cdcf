-- Reading goes from left to right: cut before the byte that decides, a value ends where more were due; and what follows that byte is not
-- looked at. Assumes nothing.
use Rattle.std.specs.Prelude.{Ok, Err}
use mathlib.Core.Path.{◌≡◌, refl, sym, ap, ◌∙◌}
use mathlib.Core.List.{[], ◌∷◌, ◌++◌, append_assoc}
use mathlib.Core.Bool.{Bool, true, false}
use mathlib.Core.Logic.{⊎_elim}
use Prim.Native.Nat.{ℕ, zero, suc, ◌+◌, ◌-◌, ◌*◌, ◌<◌, ◌≤◌}
use native.Mathlib.Omega.{arith}
use borrow.Author.Tests.{leb-true, leb-false, le-leb, lt-leb}
use lib.Dec.{leb}
use lib.ListN.{length, take, drop, replicate, length-drop, length-append, length-replicate}
use lib.Seq.{take-add, take_at, drop_at, take-length, drop-append_seam, length-take-le}
use Rattle.msgpack_first_bytes.specs.Bytes.{Bytes}
use Rattle.msgpack_first_bytes.specs.FirstByte.{form_of}
use Rattle.msgpack_first_bytes.specs.declared.Form.{Form}
use Rattle.msgpack_first_bytes.specs.declared.Form.TheVariants.{Unused, Scalar, Array, Map}
use Rattle.msgpack_first_bytes.proofs.Logic.{either}
use Rattle.msgpack_numbers.specs.Number.{number}
use Rattle.msgpack_values.specs.Value.{shift, payload, sized, and_then, items, by_form, one, too_deep, container, value, inside, Read}
use Rattle.msgpack_values.specs.Spoiled.{no_place, at_place, spoiled_at}
use Rattle.msgpack_values.proofs.Laws.{value-one}
use Rattle.msgpack_values.proofs.Local.{Good, parts, value_good}

-- how many bytes decide: a value's own, or those up to the one that spoils it, with that one
abbrev pub reach : Read → ℕ
reach (Ok n) = n
reach (Err p) = suc p

-- x begins one whole value
abbrev pub Open : (Bytes → Read) → Bytes → Type 0
Open v x = (t : Bytes) × (v (x ++ t) ≡ Ok (length (x ++ t)))

-- the place is within the bytes, or their end; what stands before it can still become whole, and with the byte there it can not
pub record Spoils (v : Bytes → Read) (s : Bytes) (p : ℕ) : Type 0 where
  pub within : p ≤ length s
  pub begins : Open v (take p s)
  pub byte : p < length s → (t : Bytes) → v (take (suc p) s ++ t) ≡ Err p

abbrev pub Settled : (Bytes → Read) → Bytes → Read → Type 0
Settled v s (Ok n) = Unit {0}
Settled v s (Err p) = Spoils v s p

-- r is what v says of s
pub record Leftmost (v : Bytes → Read) (s : Bytes) (r : Read) : Type 0 where
  pub cut : (q : ℕ) → q < reach r → v (take q s) ≡ Err q
  pub settled : Settled v s r

abbrev pub Ordered : (Bytes → Read) → Type 0
Ordered v = (s : Bytes) → Leftmost v s (v s)

abbrev zeros : ℕ → Bytes
zeros n = replicate {A = ℕ} n 0

zeros-long : (n : ℕ) → length (zeros n) ≡ n
zeros-long n = length-replicate {A = ℕ} n 0

-- ---- the end of the bytes

-- where no more are due than so many, any fewer end it
ends : (v : Bytes → Read) (n : ℕ) (s : Bytes) → ((t : Bytes) → length t < n → v t ≡ Err (length t)) → (q : ℕ) → q < n → q ≤ length s → v (take q s) ≡ Err q
ends v n s h q l k = let e = length-take-le q s k in h (take q s) (omega arith) ∙ ap Err e

-- .. and s is one of these
ended : (v : Bytes → Read) (n : ℕ) (s : Bytes) → ((t : Bytes) → length t < n → v t ≡ Err (length t)) → length s < n → Open v s → Leftmost v s (Err (length s))
ended v n s h l o =
    record {
      cut = λ q k. ends v n s h q (omega arith) (omega arith);
      settled = record { within = omega arith; begins = rw (take-length s) o; byte = λ k. absurd (omega arith) };
    }

-- ---- a part of w bytes, and what follows it as u reads that

module _ (v u : Bytes → Read) (w : ℕ) (s : Bytes) (long : w ≤ length s) (first : (y : Bytes) → v (take w s ++ y) ≡ shift w (u y))
    (early : (q : ℕ) → q < w → v (take q s) ≡ Err q) where
  then-cut : (r : Read) → ((q : ℕ) → q < reach r → u (take q (drop w s)) ≡ Err q) → (q : ℕ) → q < w + reach r → v (take q s) ≡ Err q
  then-cut r h q l =
      ⊎_elim (λ k.
      let e : q ≡ w + (q - w) = omega arith in
      ap (λ (i : ℕ). v (take i s)) e ∙ ap v (take-add w (q - w) s) ∙ first (take (q - w) (drop w s)) ∙ rw (h (q - w) (omega arith)) (ap Err (sym e)))
      (early q) (either w q)

  then_open : (x y : Bytes) → ((t : Bytes) → x ++ t ≡ take w s ++ (y ++ t)) → Open u y → Open v x
  then_open x y split (t, e) =
      let l = length-take-le w s long in
      let m = length-append (take w s) (y ++ t) in
      (t, ap v (split t) ∙ first (y ++ t) ∙ rw e (ap Ok (rw (split t) (omega arith))))

  then : (r : Read) → Leftmost u (drop w s) r → Leftmost v s (shift w r)
  then (Ok n) h = record { cut = then-cut (Ok n) h.cut; settled = tt }
  then (Err p) h =
      let l = length-drop w s in
      let k = h.settled.within in
      let e : suc (w + p) ≡ w + suc p = omega arith in
      record {
        cut = λ q m. then-cut (Err p) h.cut q (omega arith);
        settled =
            record {
              within = omega arith;
              begins = then_open (take (w + p) s) (take p (drop w s)) (parts w p s) h.settled.begins;
              byte = λ m t. ap (λ (i : ℕ). v (take i s ++ t)) e ∙ ap v (parts w (suc p) s t) ∙ first (take (suc p) (drop w s) ++ t) ∙ rw (h.settled.byte (omega arith) t);
            };
      }

-- ---- the parts of a value

payload-short : (n : ℕ) (t : Bytes) → length t < n → payload n t ≡ Err (length t)
unfolding payload
payload-short n t h = rw (lt-leb n (length t) h)

payload-filled : (n : ℕ) (t : Bytes) → length t ≡ n → payload n t ≡ Ok (length t)
unfolding payload
payload-filled n t h = rw (le-leb n (length t) (omega arith)) (ap Ok (sym h))

-- zeros in place of what is missing
payload_open : (n : ℕ) (s : Bytes) → length s ≤ n → Open (payload n) s
payload_open n s h =
    let l = length-append s (zeros (n - length s)) in
    let m = zeros-long (n - length s) in
    (zeros (n - length s), payload-filled n _ (omega arith))

payload_ordered : (n : ℕ) → Ordered (payload n)
unfolding payload
payload_ordered n s = go (leb n (length s)) refl
  where
    go : (b : Bool) → leb n (length s) ≡ b → Leftmost (payload n) s (payload n s)
    go true e = let l = leb-true n (length s) e in rw e (record { cut = λ q k. ends (payload n) n s (payload-short n) q k (omega arith); settled = tt })
    go false e = rw e (let l = leb-false n (length s) e in ended (payload n) n s (payload-short n) l (payload_open n s (omega arith)))

module _ (w : ℕ) (next : ℕ → Bytes → Read) where
  sized-short : (t : Bytes) → length t < w → sized w next t ≡ Err (length t)
  unfolding sized
  sized-short t h = rw (lt-leb w (length t) h)

  sized-first : (s : Bytes) → w ≤ length s → (y : Bytes) → sized w next (take w s ++ y) ≡ shift w (next (number (take w s)) y)
  unfolding sized
  sized-first s l y =
      let f = length-take-le w s l in
      let i : w ≤ length (take w s ++ y) = simp (length-append, f) (omega arith) in
      rw (le-leb w _ i, take_at (take w s) y w f, drop_at (take w s) y w f)

  sized-whole : (y u : Bytes) → length y ≡ w → next (number y) u ≡ Ok (length u) → sized w next (y ++ u) ≡ Ok (length (y ++ u))
  sized-whole y u h e =
      let t : take w y ≡ y = ap (λ (i : ℕ). take i y) (sym h) ∙ take-length y in
      let f = rw t at (sized-first y (omega arith) u) in
      let l = length-append y u in
      f ∙ rw e (ap Ok (omega arith))

  -- zeros for the missing bytes of the number, and then what it asks for
  sized_open : ((x : ℕ) → Open (next x) []) → (s : Bytes) → length s ≤ w → Open (sized w next) s
  sized_open o s h =
      let z = zeros (w - length s) in
      let l = length-append s z in
      let m = zeros-long (w - length s) in
      let (u, e) = o (number (s ++ z)) in
      (z ++ u, rw (← append_assoc s z u) (sized-whole (s ++ z) u (omega arith) e))

  sized_ordered : ((x : ℕ) → Open (next x) []) → ((x : ℕ) → Ordered (next x)) → Ordered (sized w next)
  unfolding sized
  sized_ordered fill h s = go (leb w (length s)) refl
    where
      go : (b : Bool) → leb w (length s) ≡ b → Leftmost (sized w next) s (sized w next s)
      go true e =
          let l = leb-true w (length s) e in
          rw e (then (sized w next) (next (number (take w s))) w s l (sized-first s l) (λ q k. ends (sized w next) w s sized-short q k (omega arith)) _ (h (number (take w s)) (drop w s)))
      go false e = rw e (let l = leb-false w (length s) e in ended (sized w next) w s sized-short l (sized_open fill s (omega arith)))

module _ (v : Bytes → Read) (good : Good v) (zero-whole : (s : Bytes) → v (0 ∷ s) ≡ Ok 1) (o : Ordered v) where
  items-zeros : (k : ℕ) → items v k (zeros k) ≡ Ok k
  unfolding items
  items-zeros zero = refl
  items-zeros (suc k) = rw (zero-whole (zeros k), items-zeros k) (ap Ok (omega arith))

  items_open : (k : ℕ) → Open (items v k) []
  items_open k = (zeros k, items-zeros k ∙ ap Ok (sym (zeros-long k)))

  -- a value that is begun, and then zeros
  items-begun : (k : ℕ) (x : Bytes) → Open v x → Open (items v (suc k)) x
  unfolding items
  items-begun k x (t, e) =
      let f : v ((x ++ t) ++ zeros k) ≡ Ok (length (x ++ t)) = rw take-length at ((good (x ++ t) (length (x ++ t)) e).1 (zeros k)) in
      let l = length-append (x ++ t) (zeros k) in
      let m = zeros-long k in
      (t ++ zeros k, rw (← append_assoc x t (zeros k), f, drop-append_seam (x ++ t) (zeros k), items-zeros k) (ap Ok (omega arith)))

  items_ordered : (k : ℕ) → Ordered (items v k)
  unfolding items
  items_ordered zero s = record { cut = λ q h. absurd (omega arith); settled = tt }
  items_ordered (suc k) s = go (items_ordered k) (v s) refl (o s)
    where
      go : Ordered (items v k) → (r : Read) → v s ≡ r → Leftmost v s r → Leftmost (items v (suc k)) s (and_then r (λ j. items v k (drop j s)))
      go ih (Err p) e h =
          record {
            cut = λ q l. rw (h.cut q l);
            settled = record { within = h.settled.within; begins = items-begun k (take p s) h.settled.begins; byte = λ l t. rw (h.settled.byte l t) };
          }
      go ih (Ok j) e h =
          let g = good s j e in
          then (items v (suc k)) (items v k) j s g.0 (λ y. rw (g.1 y, drop_at (take j s) y j (length-take-le j s g.0))) (λ q l. rw (h.cut q l)) _ (ih (drop j s))

-- ---- by the first byte

module _ (a : ℕ → ℕ → ℕ → Bytes → Read) where
  one_zero : (s : Bytes) → one a (0 ∷ s) ≡ Ok 1
  unfolding one by_form form_of sized payload number
  one_zero s = rw (le-leb 0 (length s) (omega arith))

  none : (q : ℕ) → q < 1 → (s : Bytes) → one a (take q s) ≡ Err q
  unfolding one
  none zero h s = refl
  none (suc q) h s = absurd (omega arith)

  -- it spoils the value itself
  spoils : (x : ℕ) (s : Bytes) → ((y : Bytes) → one a (x ∷ y) ≡ Err 0) → Leftmost (one a) (x ∷ s) (one a (x ∷ s))
  spoils x s h = rw (h s) (record { cut = λ q l. none q l (x ∷ s); settled = record { within = omega arith; begins = (0 ∷ [], one_zero []); byte = λ l t. h t } })

  -- or what follows is read by v
  leads : (x : ℕ) (s : Bytes) (v : Bytes → Read) → ((y : Bytes) → one a (x ∷ y) ≡ shift 1 (v y)) → Ordered v → Leftmost (one a) (x ∷ s) (one a (x ∷ s))
  leads x s v h o = rw (h s) (then (one a) v 1 (x ∷ s) (omega arith) h (λ q l. none q l (x ∷ s)) (v s) (o s))

  -- of a container the first byte spoils it, or its values are read
  module _ (inside : (x w f p : ℕ) (s : Bytes) → ((y : Bytes) → one a (x ∷ y) ≡ a w f p y) → Leftmost (one a) (x ∷ s) (one a (x ∷ s))) where
    by_form_lem : (x : ℕ) (s : Bytes) (h : Form) → form_of x ≡ h → Leftmost (one a) (x ∷ s) (one a (x ∷ s))
    by_form_lem x s Unused e = spoils x s (λ y. unfold one by_form in rw e)
    by_form_lem x s (Scalar k w f) e =
        leads x s (sized w (λ n t. payload (n + f) t)) (λ y. unfold one by_form in rw e) (sized_ordered w (λ n t. payload (n + f) t) (λ n. payload_open (n + f) [] (omega arith)) (λ n. payload_ordered (n + f)))
    by_form_lem x s (Array w f) e = inside x w f 1 s (λ y. unfold one by_form in rw e)
    by_form_lem x s (Map w f) e = inside x w f 2 s (λ y. unfold one by_form in rw e)

    one_ordered : Ordered (one a)
    one_ordered [] = unfold one in record { cut = λ q h. none q h []; settled = record { within = omega arith; begins = (0 ∷ [], one_zero []); byte = λ h. absurd (omega arith) } }
    one_ordered (x ∷ s) = by_form_lem x s (form_of x) refl

value_zero : (d : ℕ) (s : Bytes) → value d (0 ∷ s) ≡ Ok 1
value_zero d s = value-one d (0 ∷ s) ∙ one_zero (inside d) s

pub value_ordered : (d : ℕ) → Ordered (value d)
unfolding value
value_ordered zero = one_ordered too_deep (λ x w f p s h. spoils too_deep x s (λ y. unfold too_deep in h y))
value_ordered (suc d) =
    one_ordered (container (value d)) (λ x w f p s h.
    leads (container (value d)) x s (sized w (λ n t. items (value d) (n * p + f) t)) (λ y. unfold container in h y)
    (sized_ordered w (λ n t. items (value d) (n * p + f) t) (λ n. items_open (value d) (value_good d) (value_zero d) (value_ordered d) (n * p + f))
    (λ n. items_ordered (value d) (value_good d) (value_zero d) (value_ordered d) (n * p + f))))

-- ---- the place

pub spoiled-whole : (d : ℕ) (s : Bytes) {n : ℕ} → value d s ≡ Ok n → spoiled_at d 0 s ≡ no_place
unfolding spoiled_at
spoiled-whole d s e = rw e

pub spoiled-broken : (d at : ℕ) (s : Bytes) {p : ℕ} → value d (drop at s) ≡ Err p → spoiled_at d at s ≡ at_place (at + p)
unfolding spoiled_at
spoiled-broken d at s e = rw e

-- it is within the bytes, or their end
pub broken-inside : (d at : ℕ) (s : Bytes) {p : ℕ} → at ≤ length s → value d (drop at s) ≡ Err p → at + p ≤ length s
broken-inside d at s {p} h e =
    let x : Leftmost (value d) (drop at s) (Err p) = rw e at (value_ordered d (drop at s)) in
    let l = length-drop at s in
    let i = x.settled.within in
    omega arith
