-- Text in ASCII, and numbers in decimal.
use Rattle.std.specs.Prelude.{ℕ, zero, suc, ◌+◌, ◌/◌, ◌%◌, ◌≡◌, refl, [], ◌∷◌, ◌++◌, map, ltb}
use Prim.Native.Char.{code}
use Prim.Native.String.{String, [] as empty, ◌∷◌ as ◌before◌}
use Rattle.msgpack_first_bytes.specs.Bytes.{Bytes, pick}

-- a text's characters, each by its code
abbrev pub text : String → Bytes
text empty = []
text (c before s) = code c ∷ text s

-- a digit below 10
abbrev pub digit : ℕ → Bytes
digit d = (48 + d) ∷ []

-- the digits of n, at most f + 1 of them, the most significant first
unfoldable pub digits : ℕ → ℕ → Bytes
digits zero n = digit n
digits (suc f) n = pick (ltb n 10) (digit n) (digits f (n / 10) ++ digit (n % 10))

-- a number below 2^64 has at most 20 digits, so none is left out
unfoldable pub decimal : ℕ → Bytes
decimal n = digits 19 n

-- computed: the largest of them, and others
decimals : map decimal (0 ∷ 9 ∷ 10 ∷ 65536 ∷ 18446744073709551615 ∷ []) ≡ text "0" ∷ text "9" ∷ text "10" ∷ text "65536" ∷ text "18446744073709551615" ∷ []
unfolding decimal digits
decimals = refl
