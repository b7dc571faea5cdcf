-- A piece written into the rest of a lent buffer.
-- "A refusal answers its number, with length 0 ...; buffers keep their bytes"; "bytes past the written length are unchanged".
use Rattle.std.specs.Prelude.{ℕ, ◌+◌, ◌++◌, ◌≡◌, leb, length, take, drop}
use Rattle.msgpack_first_bytes.specs.Bytes.{Bytes, pick}

-- the buffer afterwards: what stands before the place, the piece, then the rest as it was; as it was where the piece has no room
unfoldable pub put : ℕ → Bytes → Bytes → Bytes
put at p old = pick (leb (at + length p) (length old)) (take at old ++ (p ++ drop (at + length p) old)) old

-- the place after the piece; the same place where it has no room
unfoldable pub next : ℕ → Bytes → Bytes → ℕ
next at p old = pick (leb (at + length p) (length old)) (at + length p) at

-- what a function promises that writes a piece at a place and answers the place after it
abbrev pub Writes : ℕ → Bytes → ℕ → Bytes → Bytes → Type 0
Writes at p r old new = (r ≡ next at p old) × (new ≡ put at p old)
