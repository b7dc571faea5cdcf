-- The first line, by what stands first, and how long it is. Assumes nothing.
use mathlib.Core.Path.{◌≡◌, refl, sym, ap, ◌∙◌}
use mathlib.Core.Bool.{Bool, true, false}
use mathlib.Core.List.{[], ◌∷◌, ◌++◌, append_assoc, append-nil}
use Prim.Native.Nat.{ℕ, zero, suc, ◌+◌, ◌-◌, ◌^◌, ◌<◌, ◌≤◌}
use native.Mathlib.Omega.{arith}
use borrow.Author.Tests.{eq-eqb, ne_eqb}
use lib.ListN.{length, take, drop, length-append}
use Rattle.msgpack_first_bytes.specs.Bytes.{Bytes, pick}
use Rattle.msgpack_writing.specs.Put.{put, next}
use Rattle.msgpack_writing.proofs.Put.{wrote, through}
use Rattle.frames.specs.Codes.{is_error}
use Rattle.frames.specs.Reading.{frame_read}
use Rattle.msgpack_values.specs.declared.OptionalNumber.{OptionalNumber}
use Rattle.frames.specs.declared.FrameAnswer.{FrameAnswer}
use Rattle.frame_listing_fields.specs.Text.{text, decimal}
use Rattle.frame_listing_fields.specs.Names.{names, name_in, kind_of}
use Rattle.frame_listing.specs.Listing.{max_input, frame_line, last_line, refused_line, lines}
use Rattle.frame_listing_fields.specs.Sync.{sync_text}
use Rattle.frame_listing_fields.specs.Steps.{ended}
use Rattle.frame_listing.specs.Steps.{after, most, First}
use Rattle.frame_listing_fields.proofs.Decimal.{few}
use Rattle.frame_listing_fields.proofs.Names.{short, name-short}
use Rattle.frame_listing.proofs.Within.{Within, frame-within}

-- room from the front on
pub front : {n m : ℕ} → n ≤ m → 0 + n ≤ m
front h = omega arith

-- ---- what stands first

-- bytes of the frame before are passed over
passed : (k n : ℕ) (s : Bytes) → lines k n s ≡ lines 0 n (drop k s)
unfolding lines
passed zero n s = refl
passed (suc k) n [] = refl
passed (suc k) n (b ∷ s) = passed k n s

on : (n k b : ℕ) (t : Bytes) → 0 < k → lines (k - 1) (suc n) t ≡ after k n (b ∷ t)
unfolding after
on n zero b t h = absurd (omega arith)
on n (suc k) b t h = let e : suc k - 1 ≡ k = omega arith in rw e (passed k (suc n) t)

pub frame-first : (n : ℕ) (s : Bytes) (a : FrameAnswer) → a ≡ frame_read s → 0 < length s → a.number ≡ 0
    → lines 0 n s ≡ frame_line n a.frame.code a.frame.sync a.length ++ after a.length n s
unfolding lines
frame-first n [] a e h z = absurd (omega arith)
frame-first n (b ∷ t) a e h z =
    let w : Within 2 (suc (length t)) a = rw e (frame-within (b ∷ t)) in
    let l = w.least z in
    rw (sym e, eq-eqb a.number 0 z) (ap (◌++◌ (frame_line n a.frame.code a.frame.sync a.length)) (on n a.length b t (omega arith)))

pub refused-first : (n : ℕ) (s : Bytes) (a : FrameAnswer) → a ≡ frame_read s → 0 < length s → (a.number ≡ 0 → ⊥) → lines 0 n s ≡ refused_line a.number (length s)
unfolding lines
refused-first n [] a e h z = absurd (omega arith)
refused-first n (b ∷ t) a e h z = rw (sym e, ne_eqb a.number 0 z)

-- ---- how long it is

kind_short : (c : ℕ) → length (kind_of c) ≤ 7
unfolding kind_of names short
kind_short c = go (is_error c) (name-short 7 names c tt)
  where
    go : (b : Bool) → length (name_in names c) ≤ 7 → length (pick b (text "error") (name_in names c)) ≤ 7
    go true r = omega arith
    go false r = r

sync-short : (x : OptionalNumber) → x.value < 2 ^ 64 → length (sync_text x) ≤ 20
unfolding sync_text
sync-short x h = go x.present
  where
    go : (b : Bool) → length (pick b (decimal x.value) (text "-")) ≤ 20
    go true = few 19 x.value (omega arith)
    go false = omega arith

pub frame-short : (n code : ℕ) (x : OptionalNumber) (k : ℕ) → n ≤ max_input + 1 → x.value < 2 ^ 64 → k ≤ max_input → length (frame_line n code x k) ≤ 41
unfolding frame_line
frame-short n code x k h i j =
    let a = few 4 n (omega arith) in
    let b = kind_short code in
    let c = sync-short x i in
    let d = few 4 k (omega arith) in
    simp length-append (omega arith)

pub last-short : (how : Bytes) (k n m : ℕ) → n < 10 ^ suc k → 7 + length how + k ≤ m → length (last_line how n) ≤ m
unfolding last_line
last-short how k n m h l =
    let a = few k n h in
    simp length-append (omega arith)

-- a frame's line in the parts that are written
pub frame_parts : (n code : ℕ) (x : OptionalNumber) (k : ℕ) → frame_line n code x k ≡ ended n 9 ++ (kind_of code ++ (text "\t" ++ ((sync_text x ++ text "\t") ++ ended k 10)))
unfolding frame_line
frame_parts n code x k = simp append_assoc

-- ---- a line that was written is the first

module _ (n : ℕ) (s old : Bytes) {cur : Bytes} {r : ℕ} where
  pub line_first : (l : Bytes) (k : ℕ) → (r ≡ next 0 l old) × (cur ≡ put 0 l old) → length l ≤ length old → lines 0 n s ≡ l ++ after k n s → length l ≤ most k
      → k ≤ length s → First n s (record { length = r; bytes = k }) cur
  line_first l k e h i m w =
      let v = wrote old 0 l e (front h) in
      let z : r ≡ length l = omega arith in
      let y : take r cur ≡ l = through v in
      record {
        is = i ∙ ap (λ (x : Bytes). x ++ after k n s) (sym y);
        short = rw z m;
        fits = rw z (omega arith);
        within = w;
      }

  pub last-first : (l : Bytes) → (r ≡ next 0 l old) × (cur ≡ put 0 l old) → length old ≡ 64 → lines 0 n s ≡ l → length l ≤ 23 → First n s (record { length = r; bytes = 0 }) cur
  unfolding after most
  last-first l e h i m = line_first l 0 e (omega arith) (i ∙ sym (append-nil l)) m (omega arith)

pub most_of : (k l : ℕ) → 2 ≤ k → l ≤ 41 → l ≤ most k
unfolding most
most_of zero l h m = absurd (omega arith)
most_of (suc k) l h m = omega arith

pub clean_first : (n : ℕ) (s : Bytes) → length s ≡ 0 → lines 0 n s ≡ last_line (text "clean") 0
unfolding lines
clean_first n [] h = refl
clean_first n (b ∷ s) h = absurd (omega arith)

module _ (n : ℕ) (s : Bytes) (a : FrameAnswer) (e : a ≡ frame_read s) (h : 0 < length s) where
  pub incomplete_first : a.number ≡ 1 → lines 0 n s ≡ last_line (text "incomplete") (length s)
  unfolding refused_line
  incomplete_first z = refused-first n s a e h (λ y. omega arith) ∙ rw (eq-eqb a.number 1 z)

  pub number-first : (a.number ≡ 1 → ⊥) → (a.number ≡ 0 → ⊥) → lines 0 n s ≡ last_line (text "refused") a.number
  unfolding refused_line
  number-first z y = refused-first n s a e h y ∙ rw (ne_eqb a.number 1 z)
