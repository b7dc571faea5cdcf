-- The lines in the parts that are written. Assumes nothing.
use Rattle.std.specs.Prelude.{Ok, Err}
use mathlib.Core.Path.{◌≡◌}
use mathlib.Core.List.{◌++◌, append_assoc}
use Prim.Native.Nat.{ℕ, ◌+◌, min}
use lib.ListN.{length, take}
use lib.Seq.{take-length}
use Rattle.std.proofs.lemmas.List.{take_min}
use Rattle.msgpack_first_bytes.specs.Bytes.{Bytes}
use Rattle.frames.specs.Reading.{size_of}
use Rattle.frame_fault.specs.Fault.{own_by, own}

-- two numbers, each between texts
pub twice : (x d y e z : Bytes) → (x ++ (d ++ y)) ++ (e ++ z) ≡ x ++ (d ++ (y ++ (e ++ z)))
twice x d y e z = simp append_assoc

-- ---- the frame's own bytes

module _ (s : Bytes) (n k : ℕ) where
  pub own-refused : Err (n, k) ≡ size_of s → take (length s) s ≡ own s
  unfolding own_by
  own-refused e = rw (← e) (take-length s)

  pub own_promised : Ok (n, k) ≡ size_of s → {m : ℕ} → m ≡ min (k + n) (length s) → take m s ≡ own s
  unfolding own_by
  own_promised e h = rw (← e, h) (take_min (k + n) s)
