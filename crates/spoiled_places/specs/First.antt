-- What a place is. Document 02, 3/12: "the first byte that spoils it: ... whichever is leftmost".
use Rattle.std.specs.Prelude.{ℕ, suc, ◌+◌, ◌<◌, ◌≤◌, ◌≡◌, ◌++◌, length, take, drop, Ok}
use Rattle.msgpack_first_bytes.specs.Bytes.{Bytes}
use Rattle.msgpack_values.specs.Value.{value}
use Rattle.msgpack_values.specs.Spoiled.{at_place, spoiled_at}

-- p is the first byte that spoils a value of depth at most d at the front of s
pub record FirstSpoiling (d : ℕ) (s : Bytes) (p : ℕ) : Type 0 where
  -- a byte, or the end of the bytes
  pub within : p ≤ length s
  -- no byte before it spoils the value: with others from there on it is whole
  pub before : (t : Bytes) × (value d (take p s ++ t) ≡ Ok (length (take p s ++ t)))
  -- the byte there spoils it, whatever follows
  pub spoils : p < length s → (t : Bytes) → spoiled_at d 0 (take (suc p) s ++ t) ≡ at_place p
  -- every byte before it is needed: cut anywhere up to the place, the bytes end where more were due
  pub needed : (q : ℕ) → q ≤ p → spoiled_at d 0 (take q s) ≡ at_place q

-- of a value anywhere, its place counted from its own first byte
abbrev pub EveryPlace : Type 0
EveryPlace = (d at : ℕ) (s : Bytes) (p : ℕ) → spoiled_at d at s ≡ at_place (at + p) → FirstSpoiling d (drop at s) p
