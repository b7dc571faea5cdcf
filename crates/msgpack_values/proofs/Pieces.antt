-- Taking a container's values apart and putting them together. Assumes nothing.
use Rattle.std.specs.Prelude.{Ok, Err}
use mathlib.Core.Path.{◌≡◌, refl, sym, ap, ◌∙◌}
use mathlib.Core.List.{List, ◌++◌, append_assoc}
use Prim.Native.Nat.{ℕ, zero, suc}
use lib.ListN.{length, take, drop, length-append}
use lib.Seq.{take-add, take-length, take-append_seam, drop-append_seam}
use Rattle.msgpack_first_bytes.specs.Bytes.{Bytes}
use Rattle.msgpack_values.specs.Value.{and_then, items, Read}
use Rattle.msgpack_values.specs.Pieces.{pieces, joined, Single, Each, none, more}
use Rattle.msgpack_values.proofs.Local.{Good, never, shift-whole}

-- the pieces of n whole values are n, and are the values' bytes
pub pieces-joined : (v : Bytes → Read) (n : ℕ) (s : Bytes) (k : ℕ) → items v n s ≡ Ok k
    → (length (pieces v n s) ≡ n) × (joined (pieces v n s) ≡ take k s)
unfolding items pieces joined
pieces-joined v zero s k e = let q : k ≡ 0 = cc in (refl, rw q)
pieces-joined v (suc n) s k e = go (pieces-joined v n) (v s) refl e
  where
    go : ((s : Bytes) (k : ℕ) → items v n s ≡ Ok k → (length (pieces v n s) ≡ n) × (joined (pieces v n s) ≡ take k s))
        → (r : Read) → v s ≡ r → and_then r (λ j. items v n (drop j s)) ≡ Ok k
        → (length (pieces v (suc n) s) ≡ suc n) × (joined (pieces v (suc n) s) ≡ take k s)
    go ih (Err p) q e = never p k e
    go ih (Ok j) q e =
        let m = shift-whole j k (items v n (drop j s)) e in
        let r = ih (drop j s) m.0 m.1 in
        let t : take k s ≡ take j s ++ take m.0 (drop j s) = ap (λ (i : ℕ). take i s) m.2 ∙ take-add j m.0 s in
        (rw q (ap suc r.0), rw q (ap (λ (l : Bytes). take j s ++ l) r.1 ∙ sym t))

single_front : (v : Bytes → Read) → Good v → (f t : Bytes) → Single v f → v (f ++ t) ≡ Ok (length f)
single_front v g f t e = rw take-length at ((g f (length f) e).1 t)

-- values put together are read as those values
pub items-joined : (v : Bytes → Read) → Good v → {fs : List Bytes} → Each v fs → (t : Bytes)
    → (items v (length fs) (joined fs ++ t) ≡ Ok (length (joined fs))) × (pieces v (length fs) (joined fs ++ t) ≡ fs)
unfolding items pieces joined
items-joined v g none t = (refl, refl)
items-joined v g (more {f = f} {fs = fs} e es) t =
    let ih = items-joined v g es t in
    let q = single_front v g f (joined fs ++ t) e in (
      rw (append_assoc f (joined fs) t, q, drop-append_seam f (joined fs ++ t), ih.0, length-append f (joined fs)),
      rw (append_assoc f (joined fs) t, q, drop-append_seam f (joined fs ++ t), take-append_seam f (joined fs ++ t), ih.1),
    )
