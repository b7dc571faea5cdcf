-- Numbers of several bytes. MessagePack: "integers are stored in big-endian", the most significant byte first.
use Rattle.std.specs.Prelude.{ℕ, ◌+◌, ◌*◌, ◌^◌, ◌<◌, ◌&&◌, [], ◌∷◌, length, take, drop, leb, Some, None, Option}
use Rattle.msgpack_first_bytes.specs.Bytes.{Bytes, pick}

-- the sum of the bytes by powers of 256
unfoldable pub number : Bytes → ℕ
number [] = 0
number (b ∷ s) = b * 256 ^ length s + number s

-- the number of the w bytes from a place on, where they are all there and no more than the 8 of the widest form
abbrev pub number_at : ℕ → ℕ → Bytes → Option ℕ
number_at w at s = pick (leb w 8 && leb (at + w) (length s)) (Some (number (take w (drop at s)))) None

-- a number, where there is one, is below a bound
abbrev pub Below : ℕ → Option ℕ → Type 0
Below k (Some n) = n < k
Below k None = Unit {0}
