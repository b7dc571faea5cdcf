-- A frame is settled by its own bytes, whatever follows them. Assumes nothing.
use Rattle.std.specs.Prelude.{Ok, Err}
use mathlib.Core.Path.{◌≡◌, refl, sym, ap, ◌∙◌}
use mathlib.Core.List.{◌++◌, append_assoc}
use mathlib.Core.Bool.{Bool, true, false}
use mathlib.Core.Logic.{⊎_elim}
use Prim.Native.Nat.{ℕ, ◌+◌, ◌-◌, ◌<◌, ◌≤◌}
use native.Mathlib.Omega.{arith}
use borrow.Author.Tests.{leb-true, leb-false, le-leb, lt-leb}
use lib.Dec.{leb}
use lib.ListN.{length, take, drop, length-append}
use lib.Seq.{length-take-le, take_at, take-add}
use Rattle.msgpack_first_bytes.specs.Bytes.{Bytes}
use Rattle.msgpack_first_bytes.proofs.Logic.{either}
use Rattle.msgpack_scalars.proofs.Own.{Known}
use Rattle.frames.specs.Limits.{max_size}
use Rattle.frames.specs.Cascade.{check}
use Rattle.frames.specs.Reading.{refuse, in_frame, size_of, by_size, frame_read, Size}
use Rattle.frames.specs.declared.FrameAnswer.{FrameAnswer}
use Rattle.sessions.specs.Session.{carry_room, settled_by}
use Rattle.frames.proofs.Sizes.{Fixed, Told, size_told}
use Rattle.frames.proofs.Judged.{judged}

-- by its first k bytes, and by no fewer: of those reading answers 1
pub record Settled (s : Bytes) (k : ℕ) : Type 0 where
  pub known : Known frame_read (refuse 1) carry_room s k (frame_read s)
  pub size : (t : Bytes) → size_of (take k s ++ t) ≡ size_of s
  pub whole : (frame_read s).number ≡ 0 → (frame_read s).length ≡ k

-- reading answers 1, and the bytes are fewer than the longest frame has; or the frame is settled
abbrev Front : Bytes → Size → FrameAnswer → Type 0
Front s z a = (a.number ≡ 1 → length s < carry_room) × ((a.number ≡ 1 → ⊥) → Settled s (settled_by z))

-- the size number has not all come
cut : (s : Bytes) → size_of s ≡ Err (1, 0) → frame_read s ≡ refuse 1
unfolding frame_read by_size
cut s e = rw e

module _ (s : Bytes) where
  at_size : (n k : ℕ) → size_of s ≡ Err (n, k) → Told s (Err (n, k)) → Front s (Err (n, k)) (refuse n)
  unfolding refuse settled_by
  at_size n k e (one, more) = (
    λ q. let l = one q in omega arith,
    λ q.
        let (m, f) = more q in
        let a : frame_read s ≡ refuse n = unfold frame_read by_size in rw e in
        record {
          known =
              record {
                some = f.some;
                few = let i = f.few in omega arith;
                inside = f.inside;
                local = λ t. rw a (unfold frame_read by_size in rw (f.local t));
                sooner = λ j h. cut (take j s) (f.sooner j h);
              };
          size = λ t. rw (f.local t, e);
          whole = λ z. absurd (let w = ap (λ (x : FrameAnswer). x.number) a in omega arith);
        },
  )

  module _ (n k : ℕ) (e : size_of s ≡ Ok (n, k)) (g : Fixed s k (Ok (n, k))) (few : n ≤ max_size) (l : k + n ≤ length s) where
    read : frame_read s ≡ in_frame (take (k + n) s) k
    unfolding frame_read by_size check
    read = rw (e, le-leb (k + n) (length s) l)

    local_size : (t : Bytes) → size_of (take (k + n) s ++ t) ≡ Ok (n, k)
    local_size t = ap size_of (rw (take-add k n s, append_assoc)) ∙ g.local (take n (drop k s) ++ t)

    local_read : (t : Bytes) → frame_read (take (k + n) s ++ t) ≡ in_frame (take (k + n) s) k
    unfolding frame_read by_size check
    local_read t =
        let m = length-take-le (k + n) s l in
        let i : k + n ≤ length (take (k + n) s ++ t) = simp length-append (omega arith) in
        rw (local_size t, le-leb (k + n) (length (take (k + n) s ++ t)) i, take_at (take (k + n) s) t (k + n) m)

    sooner_size : (j : ℕ) → k ≤ j → size_of (take j s) ≡ Ok (n, k)
    sooner_size j h =
        let i : j ≡ k + (j - k) = omega arith in
        ap (λ (m : ℕ). size_of (take m s)) i ∙ ap size_of (take-add k (j - k) s) ∙ g.local (take (j - k) (drop k s))

    sooner_read : (j : ℕ) → j < k + n → frame_read (take j s) ≡ refuse 1
    unfolding frame_read by_size check
    sooner_read j h =
        let m = length-take-le j s (omega arith) in
        ⊎_elim (λ i. rw (sooner_size j i, lt-leb (k + n) (length (take j s)) (omega arith))) (λ i. cut (take j s) (g.sooner j i)) (either k j)

    at_end_lem : Front s (Ok (n, k)) (in_frame (take (k + n) s) k)
    unfolding settled_by
    at_end_lem =
        let j = judged (take (k + n) s) k in
        let m = length-take-le (k + n) s l in
        let i = g.some in
        let h = g.few in (
          λ q. absurd (j.settled q),
          λ q.
              record {
                known =
                    record { some = omega arith; few = omega arith; inside = l; local = λ t. local_read t ∙ sym read; sooner = sooner_read };
                size = λ t. local_size t ∙ sym e;
                whole = λ z. ap (λ (x : FrameAnswer). x.length) read ∙ j.whole (sym (ap (λ (x : FrameAnswer). x.number) read) ∙ z) ∙ m;
              },
        )

  pub front : Front s (size_of s) (frame_read s)
  unfolding frame_read by_size check refuse
  front = go (size_of s) refl (size_told s)
    where
      by_end : (n k : ℕ) → size_of s ≡ Ok (n, k) → Told s (Ok (n, k)) → (b : Bool) → leb (k + n) (length s) ≡ b
          → Front s (Ok (n, k)) (check (refuse 1) b (in_frame (take (k + n) s) k))
      by_end n k e t true q = at_end_lem n k e t.1 t.0.1 (leb-true (k + n) (length s) q)
      by_end n k e t false q = (λ _. let l = leb-false (k + n) (length s) q in let i = t.1.few in let j = t.0.1 in omega arith, λ z. absurd (z refl))

      go : (z : Size) → size_of s ≡ z → Told s z → Front s z (by_size s z)
      go (Err (n, k)) e t = at_size n k e t
      go (Ok (n, k)) e t = by_end n k e t (leb (k + n) (length s)) refl
