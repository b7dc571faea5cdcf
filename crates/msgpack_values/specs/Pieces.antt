-- Values one after the other, each as its own bytes.
use Rattle.std.specs.Prelude.{ℕ, zero, suc, ◌≡◌, List, [], ◌∷◌, ◌++◌, length, take, drop, Ok, Err}
use Rattle.msgpack_first_bytes.specs.Bytes.{Bytes}
use Rattle.msgpack_values.specs.Value.{Read}

-- the bytes of a first value, and then those of the rest
abbrev pub piece_then : Read → Bytes → (ℕ → List Bytes) → List Bytes
piece_then (Ok k) s f = take k s ∷ f k
piece_then (Err p) s f = []

-- the bytes of each of n values, read by v
unfoldable pub pieces : (Bytes → Read) → ℕ → Bytes → List Bytes
pieces v zero s = []
pieces v (suc n) s = piece_then (v s) s (λ k. pieces v n (drop k s))

unfoldable pub joined : List Bytes → Bytes
joined [] = []
joined (f ∷ fs) = f ++ joined fs

-- f is the bytes of one value, and no more
abbrev pub Single : (Bytes → Read) → Bytes → Type 0
Single v f = v f ≡ Ok (length f)

-- each of a list is one value, and no more
pub data Each (v : Bytes → Read) : List Bytes → Type 0 where
  none : Each v []
  more : {f : Bytes} {fs : List Bytes} → Single v f → Each v fs → Each v (f ∷ fs)
