-- The uncut bytes, frame by frame. Assumes nothing.
use mathlib.Core.Path.{◌≡◌, refl, sym, ap, ◌∙◌}
use mathlib.Core.List.{[], ◌∷◌, ◌++◌, append_assoc}
use mathlib.Core.Bool.{Bool, true, false}
use Prim.Native.Nat.{ℕ, zero, suc, ◌+◌, ◌-◌, ◌≤◌}
use native.Mathlib.Omega.{arith}
use borrow.Author.Tests.{eqb-true, eqb-false, eq-eqb, ne_eqb}
use lib.Dec.{eqb}
use lib.ListN.{length, take, drop, take-append-drop}
use lib.Seq.{take_at, drop_at, length-take-le, take-append-le}
use Rattle.msgpack_first_bytes.specs.Bytes.{Bytes}
use Rattle.msgpack_values.specs.Spoiled.{no_place}
use Rattle.frames.specs.Reading.{size_of, frame_read}
use Rattle.frames.specs.declared.FrameAnswer.{FrameAnswer}
use Rattle.sessions.specs.Session.{round, settled_by}
use Rattle.sessions.proofs.Settled.{Settled, front}
use Rattle.sessions.specs.Cutting.{Seen, none, before, frames_from}

-- the offset goes round at each frame, or at the end: it is the same
pub round-add : (o n : ℕ) → round (round o + n) ≡ round (o + n)
round-add o n = omega arith

-- how many bytes settle the frame at the front
abbrev pub stop : Bytes → ℕ
stop s = settled_by (size_of s)

pub settled : (s : Bytes) → ((frame_read s).number ≡ 1 → ⊥) → Settled s (stop s)
settled s h = (front s).1 h

-- bytes of the frame before are passed over
pub passed : (k o : ℕ) (s : Bytes) → frames_from k o s ≡ frames_from 0 o (drop k s)
unfolding frames_from
passed zero o s = refl
passed (suc k) o [] = refl
passed (suc k) o (b ∷ s) = passed k o s

-- nothing is settled yet
pub uncut_open : (o : ℕ) (s : Bytes) → (frame_read s).number ≡ 1 → frames_from 0 o s ≡ none 0 no_place (round o)
unfolding frames_from
uncut_open o [] e = refl
uncut_open o (b ∷ s) e = rw e

-- a refused frame
pub uncut_refused : (o : ℕ) (s : Bytes) → ((frame_read s).number ≡ 0 → ⊥) → ((frame_read s).number ≡ 1 → ⊥) → frames_from 0 o s ≡ none (frame_read s).number (frame_read s).place (round o)
unfolding frames_from
uncut_refused o [] y z = let w = (settled [] z).known in absurd (let i = w.some in let j = w.inside in omega arith)
uncut_refused o (b ∷ s) y z = rw (ne_eqb (frame_read (b ∷ s)).number 0 y, ne_eqb (frame_read (b ∷ s)).number 1 z)

-- a frame, and what follows its bytes
pub uncut_next : (o : ℕ) (s : Bytes) → (frame_read s).number ≡ 0
    → frames_from 0 o s ≡ before (record { bytes = take (stop s) s; frame = (frame_read s).frame; offset = round o }) (frames_from 0 (o + stop s) (drop (stop s) s))
unfolding frames_from
uncut_next o [] z = let w = (settled [] (λ e. omega arith)).known in absurd (let i = w.some in let j = w.inside in omega arith)
uncut_next o (b ∷ s) z =
    let w = settled (b ∷ s) (λ e. omega arith) in
    let l = w.whole z in
    let k = stop (b ∷ s) in
    let then : Bytes → Seen = λ t. before (record { bytes = take k (b ∷ s); frame = (frame_read (b ∷ s)).frame; offset = round o }) (frames_from 0 (o + k) t) in
    rw (eq-eqb (frame_read (b ∷ s)).number 0 z, l, passed (k - 1) (o + k) s) (ap then (on k w.known.some))
  where
    on : (k : ℕ) → 1 ≤ k → drop (k - 1) s ≡ drop k (b ∷ s)
    on zero h = absurd (omega arith)
    on (suc k) h = let e : suc k - 1 ≡ k = omega arith in rw e

-- a frame settled by its own bytes, whatever follows them
module _ (s t : Bytes) (h : (frame_read s).number ≡ 1 → ⊥) where
  own_read : frame_read (take (stop s) s ++ t) ≡ frame_read s
  own_read = (settled s h).known.local t

  own-stop : stop (take (stop s) s ++ t) ≡ stop s
  own-stop = ap settled_by ((settled s h).size t)

  own-number : (frame_read (take (stop s) s ++ t)).number ≡ (frame_read s).number
  own-number = ap (λ (a : FrameAnswer). a.number) own_read

  long : length (take (stop s) s) ≡ stop s
  long = length-take-le (stop s) s (settled s h).known.inside

  pub own-refused : (o : ℕ) → ((frame_read s).number ≡ 0 → ⊥) → frames_from 0 o (take (stop s) s ++ t) ≡ none (frame_read s).number (frame_read s).place (round o)
  own-refused o z =
      uncut_refused o (take (stop s) s ++ t) (λ e. z (sym own-number ∙ e)) (λ e. h (sym own-number ∙ e)) ∙ ap (λ (a : FrameAnswer). none a.number a.place (round o)) own_read

  pub own-next : (o : ℕ) → (frame_read s).number ≡ 0
      → frames_from 0 o (take (stop s) s ++ t) ≡ before (record { bytes = take (stop s) s; frame = (frame_read s).frame; offset = round o }) (frames_from 0 (o + stop s) t)
  own-next o z =
      uncut_next o (take (stop s) s ++ t) (own-number ∙ z)
      ∙ rw (own-stop, own_read, take_at (take (stop s) s) t (stop s) long, drop_at (take (stop s) s) t (stop s) long)

-- what follows a settled frame does not change its reading
module _ (x t : Bytes) (h : (frame_read x).number ≡ 1 → ⊥) where
  pub read_more : frame_read (x ++ t) ≡ frame_read x
  read_more =
      let e : take (stop x) x ++ (drop (stop x) x ++ t) ≡ x ++ t =
      sym (append_assoc (take (stop x) x) (drop (stop x) x) t) ∙ ap (λ (l : Bytes). l ++ t) (take-append-drop (stop x) x) in
      ap frame_read (sym e) ∙ own_read x (drop (stop x) x ++ t) h

  front-more : (frame_read x).number ≡ 0 → take (frame_read x).length (x ++ t) ≡ take (frame_read x).length x
  front-more z = let i = (settled x h).known.inside in take-append-le (frame_read x).length x t (rw ((settled x h).whole z) i)

-- what follows a refused frame is not looked at
pub uncut_more : (k o : ℕ) (s t : Bytes) → ((frames_from k o s).refused ≡ 0 → ⊥) → frames_from k o (s ++ t) ≡ frames_from k o s
unfolding frames_from
uncut_more k o [] t h = absurd (h refl)
uncut_more (suc k) o (b ∷ s) t h = uncut_more k o s t h
uncut_more zero o (b ∷ s) t h = go (λ j p. uncut_more j p s t) (eqb (frame_read (b ∷ s)).number 0) refl (eqb (frame_read (b ∷ s)).number 1) refl
  where
    go : ((j p : ℕ) → ((frames_from j p s).refused ≡ 0 → ⊥) → frames_from j p (s ++ t) ≡ frames_from j p s) → (u : Bool) → eqb (frame_read (b ∷ s)).number 0 ≡ u
        → (v : Bool) → eqb (frame_read (b ∷ s)).number 1 ≡ v → frames_from zero o ((b ∷ s) ++ t) ≡ frames_from zero o (b ∷ s)
    go ih true p v q =
        let z = eqb-true (frame_read (b ∷ s)).number 0 p in
        let n : (frame_read (b ∷ s)).number ≡ 1 → ⊥ = λ e. omega arith in
        let a = frame_read (b ∷ s) in
        rw (read_more (b ∷ s) t n, p, front-more (b ∷ s) t n z)
        (ap (before (record { bytes = take a.length (b ∷ s); frame = a.frame; offset = round o })) (ih (a.length - 1) (o + a.length) (λ e. h (rw p e))))
    go ih false p true q = absurd (h (rw (p, q)))
    go ih false p false q = rw (read_more (b ∷ s) t (eqb-false (frame_read (b ∷ s)).number 1 q), p, q)
