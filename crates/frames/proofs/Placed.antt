-- A frame's place is given with 4 alone, past its size number and at most at its end, and is that of header or body. Assumes nothing.
use Rattle.std.specs.Prelude.{Ok, Err}
use mathlib.Core.Path.{◌≡◌, refl, sym, ap, ◌∙◌}
use mathlib.Core.Bool.{Bool, true, false, ◌&&◌}
use Prim.Native.Nat.{ℕ, ◌+◌, ◌≤◌}
use native.Mathlib.Omega.{arith}
use borrow.Author.Tests.{leb-true, ne_eqb}
use lib.Dec.{leb, eqb}
use lib.ListN.{length, take, drop}
use lib.Seq.{length-take-le}
use Rattle.msgpack_first_bytes.specs.Bytes.{Bytes, pick}
use Rattle.msgpack_first_bytes.proofs.Logic.{impossible}
use Rattle.msgpack_values.specs.Value.{value}
use Rattle.msgpack_values.specs.Spoiled.{no_place, at_place, spoiled_at}
use Rattle.msgpack_values.specs.declared.OptionalNumber.{OptionalNumber}
use Rattle.msgpack_values.proofs.Spoiled.{spoiled-broken, broken-inside}
use Rattle.msgpack_scalars.specs.Integer.{unsigned, Natural}
use Rattle.frames.specs.Limits.{max_size, max_depth}
use Rattle.frames.specs.Cascade.{check}
use Rattle.frames.specs.Reading.{refuse, accept, broken, in_frame, size_by, size_of, by_size, frame_read}
use Rattle.frames.specs.declared.FrameAnswer.{FrameAnswer}
use Rattle.frames.proofs.Judged.{Begins, begins_after, begins_inside, in_frame_lem}
use Rattle.msgpack_scalars.specs.declared.NoNumber.TheVariants.{Cut, Other}

-- of an answer on n bytes, whose header begins at k; an absent place is 0
pub record Placed (k n : ℕ) (a : FrameAnswer) : Type 0 where
  pub exactly : a.place.present ≡ eqb a.number 4
  pub past : a.place.present ≡ true → k ≤ a.place.value
  pub within : a.place.value ≤ n

without : (k n i : ℕ) → (i ≡ 4 → ⊥) → Placed k n (refuse i)
unfolding refuse
without k n i h = record { exactly = sym (ne_eqb i 4 h); past = λ e. impossible cc; within = omega arith }

spoiled-placed : (s : Bytes) (k from p : ℕ) → k ≤ from → from ≤ length s → value max_depth (drop from s) ≡ Err p → Placed k (length s) (broken s from)
unfolding broken
spoiled-placed s k from p a b e =
    let i = broken-inside max_depth from s b e in
    rw (spoiled-broken max_depth from s e) (record { exactly = refl; past = λ _. omega arith; within = omega arith })

contents-placed : (s : Bytes) (k : ℕ) → k ≤ length s → Placed k (length s) (in_frame s k)
unfolding accept
contents-placed s k l =
    in_frame_lem (Placed k (length s)) s k (λ i h. let m = leb-true 5 i h in without k (length s) i (λ e. omega arith))
    (λ from p b e. spoiled-placed s k from p (begins_after s k from b) (begins_inside s k from b l) e) (λ r. record { exactly = refl; past = λ e. impossible cc; within = omega arith })

-- a frame whose size number has k bytes and promises n; the place is within the lent bytes too
pub record Lent (s : Bytes) (k n : ℕ) (a : FrameAnswer) : Type 0 where
  pub placed : Placed k (k + n) a
  pub lent : a.place.value ≤ length s

promised : (s : Bytes) (n k : ℕ) → Lent s k n (by_size s (Ok (n, k)))
unfolding by_size check
promised s n k = go (leb (k + n) (length s)) refl
  where
    nothing : (i : ℕ) → (i ≡ 4 → ⊥) → Lent s k n (refuse i)
    nothing i h = record { placed = without k (k + n) i h; lent = (without 0 (length s) i h).within }

    go : (b : Bool) → leb (k + n) (length s) ≡ b → Lent s k n (check (refuse 1) b (in_frame (take (k + n) s) k))
    go true e =
        let h = leb-true (k + n) (length s) e in
        let l = length-take-le (k + n) s h in
        let p : Placed k (k + n) (in_frame (take (k + n) s) k) = rw l at (contents-placed (take (k + n) s) k (omega arith)) in
        let w = p.within in
        record { placed = p; lent = omega arith }
    go false e = nothing 1 (λ e. omega arith)

pub frame_promised : (s : Bytes) (n k : ℕ) → size_of s ≡ Ok (n, k) → Placed k (k + n) (frame_read s)
unfolding frame_read
frame_promised s n k e = rw e (promised s n k).placed

-- whatever the size number says
pub frame-placed : (s : Bytes) → Placed 0 (length s) (frame_read s)
unfolding frame_read size_of size_by
frame-placed s = go (unsigned s)
  where
    go : (u : Natural) → Placed 0 (length s) (by_size s (size_by u))
    go (Ok (n, k)) = by_size_lem (leb 1 n && leb n max_size)
      where
        by_size_lem : (b : Bool) → Placed 0 (length s) (by_size s (pick b (Ok (n, k)) (Err (3, k))))
        by_size_lem true = let x = promised s n k in record { exactly = x.placed.exactly; past = λ _. omega arith; within = x.lent }
        by_size_lem false = unfold by_size in without 0 (length s) 3 (λ e. omega arith)
    go (Err Cut) = unfold by_size in without 0 (length s) 1 (λ e. omega arith)
    go (Err Other) = unfold by_size in without 0 (length s) 2 (λ e. omega arith)

-- ---- it is the place of header or body

abbrev pub OfValue : ℕ → Bytes → FrameAnswer → Type 0
OfValue k f a = (p : ℕ) → a.place ≡ at_place p → (from : ℕ) × Begins f k from × (spoiled_at max_depth from f ≡ at_place p)

of_none : (k : ℕ) (f : Bytes) (a : FrameAnswer) → a.place ≡ no_place → OfValue k f a
of_none k f a e p h = let z : false ≡ true = ap (λ (x : OptionalNumber). x.present) (sym e ∙ h) in impossible cc

contents_of_lem : (f : Bytes) (k : ℕ) → OfValue k f (in_frame f k)
unfolding refuse accept broken
contents_of_lem f k = in_frame_lem (OfValue k f) f k (λ i h. of_none k f (refuse i) refl) (λ from q b e p h. (from, b, h)) (λ r. of_none k f (accept (length f) r) refl)

pub frame_of_value : (s : Bytes) (n k : ℕ) → size_of s ≡ Ok (n, k) → OfValue k (take (k + n) s) (frame_read s)
unfolding frame_read by_size check refuse
frame_of_value s n k e = rw e (go (leb (k + n) (length s)))
  where
    go : (b : Bool) → OfValue k (take (k + n) s) (check (refuse 1) b (in_frame (take (k + n) s) k))
    go true = contents_of_lem (take (k + n) s) k
    go false = of_none k (take (k + n) s) (refuse 1) refl
