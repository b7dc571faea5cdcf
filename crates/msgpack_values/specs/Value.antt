-- One MessagePack value at the front of bytes, held to a depth: whole, or broken at the first byte that spoils it.
use Rattle.std.specs.Prelude.{ℕ, zero, suc, ◌+◌, ◌*◌, [], ◌∷◌, length, take, drop, leb, Ok, Err, Result}
use Rattle.msgpack_first_bytes.specs.Bytes.{Bytes, pick}
use Rattle.msgpack_first_bytes.specs.FirstByte.{form_of}
use Rattle.msgpack_first_bytes.specs.declared.Form.{Form}
use Rattle.msgpack_first_bytes.specs.declared.Form.TheVariants.{Unused, Scalar, Array, Map}
use Rattle.msgpack_numbers.specs.Number.{number}

-- whole, with the place after it; or broken, with the place of the first byte that spoils it
abbrev pub Read : Type 0
Read = Result ℕ ℕ

-- the same answer, counted from k bytes before
abbrev pub shift : ℕ → Read → Read
shift k (Ok n) = Ok (k + n)
shift k (Err p) = Err (k + p)

-- n bytes, whatever they are ("Text is not checked as UTF-8"); else the end of the bytes, where more were due
unfoldable pub payload : ℕ → Bytes → Read
payload n s = pick (leb n (length s)) (Ok n) (Err (length s))

-- a number of w bytes, and then what `next` says of the number and of the bytes after it
unfoldable pub sized : ℕ → (ℕ → Bytes → Read) → Bytes → Read
sized w next s = pick (leb w (length s)) (shift w (next (number (take w s)) (drop w s))) (Err (length s))

-- where the first is whole, the next after it
abbrev pub and_then : Read → (ℕ → Read) → Read
and_then (Ok k) f = shift k (f k)
and_then (Err p) f = Err p

-- n values, one after the other, each read by v
unfoldable pub items : (Bytes → Read) → ℕ → Bytes → Read
items v zero s = Ok 0
items v (suc n) s = and_then (v s) (λ k. items v n (drop k s))

-- what follows a first byte, by its form; `inside` reads a container with w count bytes, f values due anyway and p for each count
unfoldable pub by_form : (ℕ → ℕ → ℕ → Bytes → Read) → Form → Bytes → Read
by_form inside Unused s = Err 0
by_form inside (Scalar k w f) s = shift 1 (sized w (λ n t. payload (n + f) t) s)
by_form inside (Array w f) s = inside w f 1 s
by_form inside (Map w f) s = inside w f 2 s

unfoldable pub one : (ℕ → ℕ → ℕ → Bytes → Read) → Bytes → Read
one inside [] = Err 0
one inside (b ∷ s) = by_form inside (form_of b) s

-- a container where none is allowed: its first byte is the place
unfoldable pub too_deep : ℕ → ℕ → ℕ → Bytes → Read
too_deep w f p s = Err 0

-- a container whose values are read by v
unfoldable pub container : (Bytes → Read) → ℕ → ℕ → ℕ → Bytes → Read
container v w f p s = shift 1 (sized w (λ n t. items v (n * p + f) t) s)

-- one value of depth at most d: "A scalar, string, bin or ext has depth 0; an array or map has 1 plus the greatest depth inside it"
unfoldable pub value : ℕ → Bytes → Read
value zero s = one too_deep s
value (suc d) s = one (container (value d)) s

-- the same, as what a container's first byte begins where the value may have depth d
unfoldable pub inside : ℕ → ℕ → ℕ → ℕ → Bytes → Read
inside zero = too_deep
inside (suc d) = container (value d)
