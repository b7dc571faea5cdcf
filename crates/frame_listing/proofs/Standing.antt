-- The listing written line after line: what stands in the buffer, and what is still to come. Assumes nothing.
use mathlib.Core.Path.{◌≡◌, refl, sym, subst, ap, ◌∙◌}
use mathlib.Core.List.{[], ◌++◌}
use Prim.Native.Nat.{ℕ, zero, suc, ◌+◌, ◌*◌, ◌<◌, ◌≤◌}
use native.Mathlib.Omega.{arith}
use native.Mathlib.Numerals.{add-one}
use native.Mathlib.Nat.{add-zero}
use borrow.Author.Tests.{le-leb, lt-leb}
use lib.ListN.{length, take, drop, length-append, length-drop}
use lib.Seq.{drop_at, take_at, drop-drop, take-add, take_all, length-take-le}
use Rattle.msgpack_first_bytes.specs.Bytes.{Bytes}
use Rattle.msgpack_writing.specs.Put.{put, next}
use Rattle.msgpack_writing.proofs.Put.{Wrote, wrote, written, nothing, join}
use Rattle.msgpack_first_bytes.proofs.Logic.{by_leb}
use Rattle.frame_listing_fields.specs.Text.{text, digits, decimal}
use Rattle.frame_listing.specs.Listing.{max_input, heading, last_line, lines, listing}
use Rattle.frame_listing.specs.Steps.{after, most, First}
use Rattle.frame_listing.specs.declared.Line.{Line}

-- of the bytes w, which are written from `from` on, what comes after k is still to come; where all have room, those before it stand in cur
pub record Standing (from : ℕ) (w old cur : Bytes) (k : ℕ) (rest : Bytes) : Type 0 where
  pub left : drop k w ≡ rest
  pub upto : k ≤ length w
  pub stands : from + length w ≤ length old → Wrote old from (take k w) cur (from + k)

pub start : (from : ℕ) (w old : Bytes) → Standing from w old old 0 w
start from w old =
    record { left = refl; upto = omega arith; stands = λ h. rw (add-zero from) (wrote old from [] (nothing old from [] refl) (omega arith)) }

pub turn : {from k : ℕ} {w old cur : Bytes} (p q : Bytes) → Standing from w old cur k (p ++ q) → Standing from w old (put (from + k) p cur) (k + length p) q
turn {from} {k} {w} {old} {cur} p q s =
    let l = simp length-drop at (ap length s.left ∙ length-append p q) in
    let u : k + length p ≤ length w = omega arith in
    let f : take (k + length p) w ≡ take k w ++ p =
    take-add k (length p) w ∙ ap (λ (x : Bytes). take k w ++ take (length p) x) s.left ∙ ap (◌++◌ (take k w)) (take_at p q (length p) refl) in
    record {
      left = sym (drop-drop (length p) k w) ∙ ap (drop (length p)) s.left ∙ drop_at p q (length p) refl;
      upto = u;
      stands = λ h.
          let v = s.stands h in
          let r : from + k + length p ≤ length cur = rw v.long (omega arith) in
          let e : from + (k + length p) ≡ next (from + k) p cur = sym ((wrote cur (from + k) p (refl, refl) r).end ∙ omega arith) in
          rw f (join v (wrote cur (from + k) p (e, refl) r));
    }

pub finish : {from k : ℕ} {w old cur : Bytes} → Standing from w old cur k [] → (k ≡ length w) × (from + k ≤ length old → cur ≡ put from w old)
finish {from} {k} {w} s =
    let l = simp length-drop at (ap length s.left) in
    let u = s.upto in
    let e : k ≡ length w = omega arith in
    let t : take k w ≡ w = take_all k w (omega arith) in
    (e, λ h. (written (rw t at (s.stands (omega arith)))).1)

-- a line more
pub line_turn : {from k n : ℕ} {w old cur new buffer : Bytes} {r : Line} (s t : Bytes) → t ≡ s → Standing from w old cur k (lines 0 n s) → First n t r buffer
    → new ≡ put (from + k) (take r.length buffer) cur → Standing from w old new (k + r.length) (after r.bytes n s)
line_turn {from} {k} {n} {w} {old} {cur} {new} {buffer} {r} s t q i f e =
    let p : Bytes = take r.length buffer in
    let l : length p ≡ r.length = length-take-le r.length buffer f.fits in
    let g : lines 0 n s ≡ p ++ after r.bytes n s = rw q at f.is in
    subst (λ (m : ℕ). Standing from w old new (k + m) (after r.bytes n s)) l
    (rw e (turn p (after r.bytes n s) (subst (λ (x : Bytes). Standing from w old cur k x) g i)))

-- a frame's line, and then those of the rest
pub after_frame : (k n at : ℕ) (s : Bytes) → 0 < k → after k n (drop at s) ≡ lines 0 (n + 1) (drop (at + k) s)
unfolding after
after_frame zero n at s h = absurd (omega arith)
after_frame (suc k) n at s h = rw (add-one, drop-drop (suc k) at s)

pub most-frame : (k : ℕ) → 0 < k → most k ≡ 21 * k
unfolding most
most-frame zero h = absurd (omega arith)
most-frame (suc k) h = refl

-- the last line
pub after_last : (k n : ℕ) (s : Bytes) → k ≡ 0 → (after k n s ≡ []) × (most k ≡ 23)
unfolding after most
after_last k n s e = rw e (refl, refl)

-- ---- the whole

heading-length : length heading ≡ 22
unfolding heading
heading-length = refl

pub listing-long : (s : Bytes) → max_input < length s → listing s ≡ text "frame\tkind\tsync\tbytes\nend\tlong\t65536\n"
unfolding listing heading last_line decimal digits
listing-long s h = rw (lt-leb (length s) max_input h)

module _ (s old : Bytes) (h : length s ≤ max_input) where
  short : listing s ≡ heading ++ lines 0 1 s
  unfolding listing
  short = rw (le-leb (length s) max_input h)

  pub listing-length : length (listing s) ≡ 22 + length (lines 0 1 s)
  listing-length = ap length short ∙ length-append heading (lines 0 1 s) ∙ rw heading-length

  -- the heading, and the lines after it
  pub headed : {cur : Bytes} {from : ℕ} → (from ≡ next 0 heading old) × (cur ≡ put 0 heading old) → 22 ≤ length old → from ≡ 22
  headed e l = (wrote old 0 heading e (rw heading-length (omega arith))).end ∙ rw heading-length

  pub both : {cur new : Bytes} {from r : ℕ} → (from ≡ next 0 heading old) × (cur ≡ put 0 heading old) → r ≡ length (lines 0 1 s)
      → (from + r ≤ length cur → new ≡ put from (lines 0 1 s) cur) → 22 + r ≤ length old → (from + r ≡ next 0 (listing s) old) × (new ≡ put 0 (listing s) old)
  both {cur} {new} {from} {r} e z f l =
      let w : Wrote old 0 heading cur from = wrote old 0 heading e (rw heading-length (omega arith)) in
      let i : from ≡ 22 = headed e (omega arith) in
      let k : from + r ≤ length cur = rw (i, w.long) (omega arith) in
      let u : from + length (lines 0 1 s) ≤ length cur = omega arith in
      let y : next from (lines 0 1 s) cur ≡ from + length (lines 0 1 s) = (wrote cur from (lines 0 1 s) (refl, refl) u).end in
      let v : Wrote cur from (lines 0 1 s) new (from + r) = wrote cur from (lines 0 1 s) (omega arith, f k) u in
      rw short (written (join w v))

-- what was written ends in the buffer
pub next-within : (p old : Bytes) (r : ℕ) → r ≡ next 0 p old → r ≤ length old
unfolding next
next-within p old r e = rw e (by_leb (λ (a : ℕ). a ≤ length old) (0 + length p) (length old) (λ h. h) (λ h. omega arith))
