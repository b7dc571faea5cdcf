-- The report, by what stands first. Assumes nothing.
use mathlib.Core.Path.{◌≡◌, refl, sym, ap, ◌∙◌}
use mathlib.Core.List.{[], ◌∷◌}
use Prim.Native.Nat.{ℕ, zero, suc, ◌+◌, ◌-◌, ◌^◌, ◌<◌, ◌≤◌}
use native.Mathlib.Omega.{arith}
use native.Mathlib.Nat.{add-zero}
use native.Mathlib.Numerals.{add-one}
use borrow.Author.Tests.{le-leb, lt-leb, eq-eqb, ne_eqb}
use lib.ListN.{length, take, drop}
use Rattle.msgpack_first_bytes.specs.Bytes.{Bytes}
use Rattle.frames.specs.declared.FrameAnswer.{FrameAnswer}
use Rattle.frames.specs.Reading.{frame_read}
use Rattle.frame_listing.specs.Listing.{max_input}
use Rattle.frame_listing.proofs.Within.{Within, frame-within}
use Rattle.frame_listing_fields.specs.Text.{text}
use Rattle.frame_fault.specs.Fault.{fault, clean_line, report_from, report, room}
use Rattle.frame_fault_fields.specs.Steps.{Lays}
use Rattle.frame_fault_fields.proofs.Laying.{front}
use Rattle.frame_fault.proofs.Lengths.{fault-short, clean_short}
use Rattle.frames.proofs.Placed.{frame-placed}

-- bytes of the frame before are passed over
passed : (k n at : ℕ) (s : Bytes) → report_from k n at s ≡ report_from 0 n (at + k) (drop k s)
unfolding report_from
passed zero n at s = rw (add-zero at)
passed (suc k) n at [] = refl
passed (suc k) n at (b ∷ s) = let e : suc at + k ≡ at + suc k = omega arith in passed k n (suc at) s ∙ ap (λ (i : ℕ). report_from 0 n i (drop k s)) e

on : (k n at b : ℕ) (t : Bytes) → 0 < k → report_from (k - 1) (suc n) (suc at) t ≡ report_from 0 (n + 1) (at + k) (drop k (b ∷ t))
on zero n at b t h = absurd (omega arith)
on (suc k) n at b t h =
    let e : suc k - 1 ≡ k = omega arith in
    let f : suc at + k ≡ at + suc k = omega arith in
    rw (e, add-one n, ← f) (passed k (suc n) (suc at) t)

-- a frame that is read, and then the rest
pub frame-first : (n at : ℕ) (s : Bytes) (a : FrameAnswer) → a ≡ frame_read s → 0 < length s → a.number ≡ 0
    → report_from 0 n at s ≡ report_from 0 (n + 1) (at + a.length) (drop a.length s)
unfolding report_from
frame-first n at [] a e h z = absurd (omega arith)
frame-first n at (b ∷ t) a e h z =
    let w : Within 2 (length (b ∷ t)) a = rw e (frame-within (b ∷ t)) in
    let l = w.least z in
    rw (← e, eq-eqb a.number 0 z) (on a.length n at b t (omega arith))

pub fault-first : (n at : ℕ) (s : Bytes) (a : FrameAnswer) → a ≡ frame_read s → 0 < length s → (a.number ≡ 0 → ⊥)
    → report_from 0 n at s ≡ fault (suc n) at s a.number a.place
unfolding report_from
fault-first n at [] a e h z = absurd (omega arith)
fault-first n at (b ∷ t) a e h z = rw (← e, ne_eqb a.number 0 z)

pub clean_first : (n at : ℕ) (s : Bytes) → length s ≡ 0 → report_from 0 n at s ≡ clean_line n
unfolding report_from
clean_first n at [] h = refl
clean_first n at (b ∷ s) h = absurd (omega arith)

-- ---- the whole

-- what is reported of s after n frames and `at` bytes is the report, w: it is written, and how long it is
module _ (n at : ℕ) (s : Bytes) {w : Bytes} (is : report_from 0 n at s ≡ w) (some : n ≤ at) where
  pub fault_turn : {a : FrameAnswer} {t old new : Bytes} {r : ℕ} → a ≡ frame_read t → t ≡ s → 0 < length s → (a.number ≡ 0 → ⊥) → a.number < 2 ^ 32 → at + length s ≤ max_input
      → Lays old 0 (fault (n + 1) at t a.number a.place) new r → (length w ≤ room) × Lays old 0 w new r
  fault_turn {a} {t} {old} {new} {r} e q h z u b l =
      let f : w ≡ fault (suc n) at s a.number a.place = sym is ∙ fault-first n at s a (e ∙ ap frame_read q) h z in
      let p : a.place.value ≤ length s = rw (e, q) (frame-placed s).within in
      rw f (fault-short (suc n) at s a.number a.place (omega arith) u (omega arith), rw (add-one n, q) at l)

  pub clean_turn : {old new : Bytes} {r : ℕ} → length s ≡ 0 → at ≤ max_input → Lays old 0 (clean_line n) new r → (length w ≤ room) × Lays old 0 w new r
  clean_turn h b l = let f : w ≡ clean_line n = sym is ∙ clean_first n at s h in rw f (clean_short n (omega arith), l)

pub report-long : (s : Bytes) → max_input < length s → report s ≡ text "input    over 65,536 bytes, not read\n"
unfolding report
report-long s h = rw (lt-leb (length s) max_input h)

pub report-short : (s : Bytes) → length s ≤ max_input → report s ≡ report_from 0 0 0 s
unfolding report
report-short s h = rw (le-leb (length s) max_input h)

-- the report stands at the front of an array
pub record Composed (s text : Bytes) (r : ℕ) : Type 0 where
  pub is : take r text ≡ report s
  pub fits : r ≤ length text
  pub short : length (report s) ≤ room

pub composed : (s : Bytes) {old new : Bytes} {r : ℕ} → length s ≤ max_input → length old ≡ room → (length (report_from 0 0 0 s) ≤ room) × Lays old 0 (report_from 0 0 0 s) new r
    → Composed s new r
composed s h l (m, e) =
    let (i, f) = front (report_from 0 0 0 s) (omega arith) e in
    let q = report-short s h in
    record { is = i ∙ sym q; fits = f; short = rw q m }
