-- A loop over the known keys: the first of those left, and the rest. Assumes nothing.
use mathlib.Core.Path.{◌≡◌, refl, sym, ap, ◌∙◌}
use mathlib.Core.List.{List, [], ◌∷◌, ◌++◌}
use mathlib.Core.Option.{Option, none, some}
use Prim.Native.Nat.{ℕ, suc, ◌+◌, ◌<◌, ◌≤◌}
use native.Mathlib.Omega.{arith}
use native.Mathlib.Numerals.{add-one}
use borrow.Author.Tests.{eq-eqb, ne_eqb}
use lib.ListN.{length}
use lib.Seq.{slice, slice_empty, slice-cons}
use Rattle.msgpack_first_bytes.specs.Bytes.{Bytes, pick}
use Rattle.msgpack_values.specs.Pieces.{joined}
use Rattle.frames.specs.declared.Frame.{Frame}
use Rattle.frames.specs.Limits.{header_keys, known_keys}
use Rattle.frames.specs.Held.{encoded, is_some, Item, locate}
use Rattle.frames.specs.Keys.{header_items, body_items}
use Rattle.frames.specs.Writing.{Pair, onto, pairs, flat}
use Rattle.frame_items.specs.Content.{held_of, item_of, all_items, blank, known_key_at, is_written, pair_length}
use Rattle.frame_items.specs.declared.Content.{Content}
use Rattle.frame_items.specs.declared.Content.TheVariants.{Absent, Outside, Number, View}
use Rattle.frame_items.specs.declared.KnownKey.{KnownKey}
use Rattle.frame_items.proofs.Laws.{known_item}
use Rattle.frame_judging.specs.Parts.{keys_of, items_of, items_between, pair_of, pair_bytes}
use Rattle.frame_judging.specs.declared.Part.{Part}
use Rattle.frame_judging.specs.declared.Part.TheVariants.{Header, Body}

module _ (r : Frame) (s : Bytes) where
  pub header-run : items_between 0 header_keys r s ≡ header_items r
  unfolding items_between all_items header_items body_items
  header-run = refl

  pub body_run : items_between header_keys known_keys r s ≡ body_items r s
  unfolding items_between all_items header_items body_items
  body_run = refl

  pub part-run : (p : Part) {f t : ℕ} → (f, t) ≡ keys_of p → items_between f t r s ≡ items_of p r s
  part-run Header e = rw (ap (λ (k : ℕ × ℕ). k.0) e, ap (λ (k : ℕ × ℕ). k.1) e) header-run
  part-run Body e = rw (ap (λ (k : ℕ × ℕ). k.0) e, ap (λ (k : ℕ × ℕ). k.1) e) body_run

  pub no_run : (i to : ℕ) → i ≤ to → to ≤ i → items_between i to r s ≡ []
  unfolding items_between
  no_run i to h k = let e : i ≡ to = omega arith in rw e (slice_empty to (all_items r s))

  pub run : (i to : ℕ) {k : KnownKey} → k ≡ known_key_at r s i → i < to → to ≤ known_keys
      → items_between i to r s ≡ item_of s k ∷ items_between (i + 1) to r s
  unfolding items_between
  run i to e h l =
      slice-cons i to (all_items r s) blank h (unfold all_items header_items body_items in l)
      ∙ ap (λ (x : Item). x ∷ slice (suc i) to (all_items r s)) (sym (ap (item_of s) e ∙ known_item r s i))
      ∙ rw add-one

pub part-within : (p : Part) {f t : ℕ} → (f, t) ≡ keys_of p → (f ≤ t) × (t ≤ known_keys)
part-within Header e = let i = ap (λ (k : ℕ × ℕ). k.0) e in let j = ap (λ (k : ℕ × ℕ). k.1) e in (omega arith, omega arith)
part-within Body e = let i = ap (λ (k : ℕ × ℕ). k.0) e in let j = ap (λ (k : ℕ × ℕ). k.1) e in (omega arith, omega arith)

-- ---- 10

module _ (k : ℕ) {xs rest : List Item} {x : Item} (e : xs ≡ x ∷ rest) where
  pub locate_here : k ≡ x.key → x.held ≡ locate xs k
  unfolding locate
  locate_here h = rw (e, eq-eqb k x.key h)

  pub locate-on : (k ≡ x.key → ⊥) → locate rest k ≡ locate xs k
  unfolding locate
  locate-on h = rw (e, ne_eqb k x.key h)

pub is_present : (s : Bytes) (c : Content) → is_written c ≡ is_some (encoded (held_of s c))
unfolding is_written is_some encoded held_of
is_present s Absent = refl
is_present s Outside = refl
is_present s (Number n) = refl
is_present s (View p) = refl

-- ---- pairs

onto-count : (k : ℕ) (o : Option Bytes) (ps : List Pair) → length (onto k o ps) ≡ pick (is_some o) 1 0 + length ps
unfolding onto is_some
onto-count k none ps = omega arith
onto-count k (some v) ps = omega arith

onto-bytes : (k : ℕ) (o : Option Bytes) (ps : List Pair) → joined (flat (onto k o ps)) ≡ pair_of k o ++ joined (flat ps)
unfolding onto pair_of flat joined
onto-bytes k none ps = refl
onto-bytes k (some v) ps = refl

pub pair-long : (k : ℕ) (o : Option Bytes) → length (pair_of k o) ≡ pair_length o
unfolding pair_of pair_length
pair-long k none = refl
pair-long k (some v) = omega arith

module _ (s : Bytes) (k : KnownKey) {xs rest : List Item} (e : xs ≡ item_of s k ∷ rest) where
  pub pair-more : length (pairs xs) ≡ pick (is_written k.content) 1 0 + length (pairs rest)
  unfolding pairs item_of
  pair-more = rw (e, is_present s k.content) (onto-count k.key (encoded (held_of s k.content)) (pairs rest))

  pub pair-first : pair_bytes xs ≡ pair_of k.key (encoded (held_of s k.content)) ++ pair_bytes rest
  unfolding pair_bytes pairs item_of
  pair-first = rw e (onto-bytes k.key (encoded (held_of s k.content)) (pairs rest))
