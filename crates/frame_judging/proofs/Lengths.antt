-- Lengths counted up to the first that no frame has. Assumes nothing.
use mathlib.Core.Path.{◌≡◌, sym, ap, ◌∙◌}
use mathlib.Core.List.{List, [], ◌∷◌}
use mathlib.Core.Logic.{⊎_elim}
use Prim.Native.Nat.{ℕ, ◌+◌, ◌<◌, ◌≤◌, min}
use native.Mathlib.Omega.{arith}
use borrow.Author.Tests.{lt-ltb}
use lib.ListN.{length, length-append}
use Rattle.msgpack_first_bytes.specs.Bytes.{Bytes}
use Rattle.msgpack_values.specs.Pieces.{joined}
use Rattle.msgpack_writing.specs.Forms.{map_header}
use Rattle.msgpack_first_bytes.proofs.Logic.{either}
use Rattle.frames.specs.declared.Frame.{Frame}
use Rattle.frames.specs.Limits.{max_size}
use Rattle.frames.specs.Held.{Item, encoded}
use Rattle.frames.specs.Keys.{header_items, body_items}
use Rattle.frames.specs.Writing.{pairs, flat, map_form, contents}
use Rattle.frame_items.specs.Content.{held_of, item_of, pair_length, capped}
use Rattle.frame_items.specs.declared.KnownKey.{KnownKey}
use Rattle.frame_items.proofs.Laws.{capped-low, capped_high}
use Rattle.frame_judging.specs.Parts.{pair_of, pair_bytes}
use Rattle.frames.proofs.Pairs.{pairs-few}
use Rattle.frame_judging.proofs.Runs.{pair-first, pair-long}

-- as the smaller of two numbers, which arithmetic knows
counted : (n : ℕ) → capped n ≡ min n (max_size + 1)
counted n = ⊎_elim (λ h. sym (capped-low n h) ∙ omega arith) (λ h. sym (capped_high n h) ∙ omega arith) (either n max_size)

pub capped-few : (n : ℕ) → capped n ≤ max_size + 1
capped-few n = let c = counted n in omega arith

-- what a count within a frame says, and one past it
pub capped-within : (n : ℕ) → capped n ≤ max_size → capped n ≡ n
capped-within n h = let c = counted n in omega arith

pub capped_past : (n : ℕ) → max_size < capped n → max_size < n
capped_past n h = let c = counted n in omega arith

-- a turn of the counting loop
pub count_turn : (total p q : ℕ) → capped (capped (total + capped p) + q) ≡ capped (total + (p + q))
count_turn total p q =
    let a = counted p in
    let b = counted (total + capped p) in
    let c = counted (capped (total + capped p) + q) in
    let d = counted (total + (p + q)) in
    omega arith

module _ (s : Bytes) (k : KnownKey) {xs rest : List Item} (e : xs ≡ item_of s k ∷ rest) where
  pub pair-counted : (total : ℕ) {p t : ℕ} → p ≡ capped (pair_length (encoded (held_of s k.content))) → t ≡ capped (total + p)
      → capped (t + length (pair_bytes rest)) ≡ capped (total + length (pair_bytes xs))
  pair-counted total {p} {t} ep et =
      let o = encoded (held_of s k.content) in
      let l : length (pair_bytes xs) ≡ pair_length o + length (pair_bytes rest)
      = ap length (pair-first s k e) ∙ length-append (pair_of k.key o) (pair_bytes rest) ∙ ap (λ (n : ℕ). n + length (pair_bytes rest)) (pair-long k.key o)
      in
      rw (et, ep, l) (count_turn total (pair_length o) (length (pair_bytes rest)))

pub all-counted : (total : ℕ) {xs : List Item} → xs ≡ [] → total ≤ max_size + 1 → total ≡ capped (total + length (pair_bytes xs))
unfolding pair_bytes pairs flat joined
all-counted total e h = rw e (let c = counted (total + 0) in omega arith)

-- ---- the contents: a map of fewer than 16 pairs has a header of one byte

map-long : (xs : List Item) → length xs < 16 → length (map_form (pairs xs)) ≡ length (pair_bytes xs) + 1
unfolding map_form map_header pair_bytes
map-long xs h = let k = pairs-few xs in rw (lt-ltb (length (pairs xs)) 16 (omega arith)) (omega arith)

module _ (r : Frame) (s : Bytes) where
  contents-long : length (contents (header_items r) (body_items r s)) ≡ length (pair_bytes (header_items r)) + length (pair_bytes (body_items r s)) + 2
  unfolding contents header_items body_items
  contents-long =
      let h = map-long (header_items r) (omega arith) in
      let b = map-long (body_items r s) (omega arith) in
      length-append (map_form (pairs (header_items r))) (map_form (pairs (body_items r s))) ∙ omega arith

  pub contents-counted : {h b : ℕ} → h ≡ capped (length (pair_bytes (header_items r))) → b ≡ capped (length (pair_bytes (body_items r s)))
      → capped (capped (h + b) + 2) ≡ capped (length (contents (header_items r) (body_items r s)))
  contents-counted {h} {b} eh eb =
      let x = counted (length (pair_bytes (header_items r))) in
      let y = counted (length (pair_bytes (body_items r s))) in
      let z = contents-long in
      let u = counted (h + b) in
      let v = counted (capped (h + b) + 2) in
      let c = counted (length (contents (header_items r) (body_items r s))) in
      omega arith
