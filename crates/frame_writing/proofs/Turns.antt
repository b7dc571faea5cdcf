-- Pieces written one after the other: what is left after each. Assumes nothing.
use mathlib.Core.Path.{◌≡◌, refl, sym, ap, ◌∙◌}
use mathlib.Core.List.{List, [], ◌++◌}
use Prim.Native.Nat.{ℕ, ◌+◌, ◌≤◌}
use native.Mathlib.Omega.{arith}
use lib.ListN.{length, length-append}
use Rattle.msgpack_first_bytes.specs.Bytes.{Bytes}
use Rattle.msgpack_writing.specs.Forms.{tagged, map_header}
use Rattle.msgpack_writing.specs.Put.{put, next}
use Rattle.msgpack_writing.proofs.Put.{Wrote, wrote, written, join, nothing, length-put}
use Rattle.frames.specs.declared.Frame.{Frame}
use Rattle.frames.specs.Held.{Item}
use Rattle.frames.specs.Keys.{header_items, body_items}
use Rattle.frames.specs.Writing.{pairs, map_form, contents, frame_form}
use Rattle.frame_judging.specs.Parts.{pair_bytes}

-- ---- a turn of the writing loop: the first piece is written, the rest is still to come

pub record Left (old : Bytes) (at : ℕ) (p cur : Bytes) (a : ℕ) (q : Bytes) : Type 0 where
  pub room : a + length q ≤ length cur
  pub end : next a q cur ≡ next at p old
  pub is : put a q cur ≡ put at p old

pub turn : (old : Bytes) (at : ℕ) (p : Bytes) {all q cur : Bytes} {a : ℕ} → all ≡ p ++ q → at + length all ≤ length old
    → (a ≡ next at p old) × (cur ≡ put at p old) → Left old at all cur a q
turn old at p {all} {q} {cur} {a} g h e = rw g (go (rw g at h))
  where
    go : at + length (p ++ q) ≤ length old → Left old at (p ++ q) cur a q
    go h =
        let l : length (p ++ q) ≡ length p + length q = length-append p q in
        let v : Wrote old at p cur a = wrote old at p e (omega arith) in
        let r : a + length q ≤ length cur = omega arith in
        let w = written (join v (wrote cur a q (refl, refl) r)) in
        record { room = r; end = w.0; is = w.1 }

module _ {old p cur q : Bytes} {at a : ℕ} (l : Left old at p cur a q) where
  pub turn_on : (f : Bytes) {g new : Bytes} {b : ℕ} → q ≡ f ++ g → (b ≡ next a f cur) × (new ≡ put a f cur) → Left old at p new b g
  turn_on f e w =
      let t = turn cur a f e l.room w in
      record { room = t.room; end = t.end ∙ l.end; is = t.is ∙ l.is }

  pub turned : q ≡ [] → (a ≡ next at p old) × (cur ≡ put at p old)
  turned e = let n = nothing cur a q e in (n.0 ∙ l.end, n.1 ∙ l.is)

  pub long : length cur ≡ length old
  long = sym (length-put a q cur) ∙ ap length l.is ∙ length-put at p old

-- before the first turn
pub all_left : (old : Bytes) (at : ℕ) (p : Bytes) → at + length p ≤ length old → Left old at p old at p
all_left old at p h = record { room = h; end = refl; is = refl }

-- room for the rest is room for its first piece
pub first-room : (f g : Bytes) {q : Bytes} (n : ℕ) {m : ℕ} → q ≡ f ++ g → n + length q ≤ m → n + length f ≤ m
first-room f g n e h = let l : length (f ++ g) ≡ length f + length g = length-append f g in let k = ap length e in omega arith

-- ---- a map, and the whole frame: the first piece, and what is left after it

pub map_first : (xs : List Item) {n : ℕ} → n ≡ length (pairs xs) → map_form (pairs xs) ≡ map_header n ++ pair_bytes xs
unfolding map_form pair_bytes
map_first xs e = rw e

module _ (r : Frame) (s : Bytes) where
  abbrev pub header_form : Bytes
  header_form = map_form (pairs (header_items r))

  abbrev pub body_form : Bytes
  body_form = map_form (pairs (body_items r s))

  frame-first : (size : ℕ) → size ≡ length (contents (header_items r) (body_items r s))
      → frame_form (contents (header_items r) (body_items r s)) ≡ tagged 0xce 4 size ++ (header_form ++ body_form)
  unfolding frame_form contents
  frame-first size e = rw e

  pub size_turn : (size : ℕ) {old cur : Bytes} {a : ℕ} → size ≡ length (contents (header_items r) (body_items r s))
      → length (frame_form (contents (header_items r) (body_items r s))) ≤ length old
      → (a ≡ next 0 (tagged 0xce 4 size) old) × (cur ≡ put 0 (tagged 0xce 4 size) old)
      → Left old 0 (frame_form (contents (header_items r) (body_items r s))) cur a (header_form ++ body_form)
  size_turn size {old} e h w = turn old 0 (tagged 0xce 4 size) (frame-first size e) (omega arith) w
