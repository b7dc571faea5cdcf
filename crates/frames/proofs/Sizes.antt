-- The size number is known by its own bytes, nine at most, whatever follows them. Assumes nothing.
use Rattle.std.specs.Prelude.{Ok, Err}
use mathlib.Core.Path.{◌≡◌, refl, sym, ap, ◌∙◌}
use mathlib.Core.List.{◌++◌, append_assoc}
use mathlib.Core.Bool.{Bool, true, false, ◌&&◌}
use Prim.Native.Nat.{ℕ, ◌≤◌}
use native.Mathlib.Omega.{arith}
use borrow.Author.Tests.{leb-true, eqb-true, eqb-false}
use lib.Dec.{leb, eqb}
use lib.ListN.{length, take, drop, length-take, take-append-drop}
use lib.Seq.{take_all}
use Rattle.msgpack_first_bytes.specs.Bytes.{Bytes, pick}
use Rattle.msgpack_scalars.specs.Integer.{unsigned, Natural}
use Rattle.msgpack_scalars.proofs.Own.{Known, known_by, Own, unsigned-own}
use Rattle.frames.specs.Limits.{max_size}
use Rattle.frames.specs.Reading.{size_by, size_of, Size}
use Rattle.msgpack_scalars.specs.declared.NoNumber.TheVariants.{Cut, Other}

-- the size number z is told by k bytes of s, nine at most; of fewer it is said that more is to come
abbrev pub Fixed : Bytes → ℕ → Size → Type 0
Fixed s k z = Known size_of (Err (1, 0)) 9 s k z

-- what a size number tells of s: it has not all come (1), or is known by its own bytes
abbrev pub Told : Bytes → Size → Type 0
Told s (Ok (n, k)) = ((1 ≤ n) × (n ≤ max_size)) × Fixed s k (Ok (n, k))
Told s (Err (n, k)) = (n ≡ 1 → length s ≤ 8) × ((n ≡ 1 → ⊥) → (2 ≤ n) × Fixed s k (Err (n, k)))

pub size_told : (s : Bytes) → Told s (size_of s)
unfolding size_of size_by
size_told s = go (unsigned s) (unsigned-own s)
  where
    by_size_lem : (n k : ℕ) → Own s (Ok (n, k)) → (a b : Bool) → leb 1 n ≡ a → leb n max_size ≡ b → Told s (pick (a && b) (Ok (n, k)) (Err (3, k)))
    by_size_lem n k o true true p q = ((leb-true 1 n p, leb-true n max_size q), rw (p, q) at (known_by size_by o))
    by_size_lem n k o true false p q = (λ e. absurd (omega arith), λ e. (omega arith, rw (p, q) at (known_by size_by o)))
    by_size_lem n k o false b p q = (λ e. absurd (omega arith), λ e. (omega arith, rw p at (known_by size_by o)))

    go : (u : Natural) → Own s u → Told s (size_by u)
    go (Ok (n, k)) o = by_size_lem n k o (leb 1 n) (leb n max_size) refl refl
    go (Err Cut) o = (λ e. o, λ e. absurd (e refl))
    go (Err Other) o = (λ e. absurd (omega arith), λ e. (omega arith, known_by size_by o))

-- nine bytes tell it
pub size_nine : (s : Bytes) → size_of (take 9 s) ≡ size_of s
size_nine s = go (size_of (take 9 s)) refl (size_told (take 9 s))
  where
    fixed : (z : Size) (k : ℕ) → Fixed (take 9 s) k z → z ≡ size_of s
    fixed z k f =
        let e : take k (take 9 s) ++ (drop k (take 9 s) ++ drop 9 s) ≡ s =
        sym (append_assoc (take k (take 9 s)) (drop k (take 9 s)) (drop 9 s)) ∙ rw (take-append-drop k (take 9 s)) (take-append-drop 9 s) in
        sym (f.local (drop k (take 9 s) ++ drop 9 s)) ∙ ap size_of e

    go : (z : Size) → size_of (take 9 s) ≡ z → Told (take 9 s) z → z ≡ size_of s
    go (Ok (n, k)) e t = fixed (Ok (n, k)) k t.1
    go (Err (n, k)) e t = by (eqb n 1) refl
      where
        by : (b : Bool) → eqb n 1 ≡ b → Err (n, k) ≡ size_of s
        by true q =
            let l = t.0 (eqb-true n 1 q) in
            let m = length-take 9 s in
            sym e ∙ ap size_of (take_all 9 s (omega arith))
        by false q = fixed (Err (n, k)) k (t.1 (eqb-false n 1 q)).1
