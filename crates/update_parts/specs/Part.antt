-- Inner: what the code reads an operation from, as what the definitions get.
use Rattle.std.specs.Prelude.{ℕ, ◌-◌, length, take, drop, Some, None, Option}
use Rattle.msgpack_first_bytes.specs.Bytes.{Bytes}
use Rattle.msgpack_scalars.specs.declared.Int.{Int}
use Rattle.tuples.specs.Decoding.{Got, fails, gets}

-- the bytes from a up to e
abbrev pub part : ℕ → ℕ → Bytes → Bytes
part a e l = take (e - a) (drop a l)

-- ---- what was got from the bytes l

-- with the place after it, where the bytes that are left begin
abbrev pub found : {A R : Type 0} → (A → ℕ → R) → Bytes → Got A → Option R
found is l fails = None
found is l (gets a s) = Some (is a (length l - length s))

-- as it is
abbrev pub found_here : {A : Type 0} → Bytes → Got A → Option (A × ℕ)
found_here = found (λ a e. (a, e))

abbrev pub signed_by : Bytes → Got Int → Option (Int × ℕ)
signed_by = found_here

abbrev pub natural_by : Bytes → Got ℕ → Option (ℕ × ℕ)
natural_by = found_here

-- bytes begin as far before that place as they are long
abbrev pub span_by : Bytes → Got Bytes → Option (ℕ × ℕ)
span_by = found (λ b e. (e - length b, e))
