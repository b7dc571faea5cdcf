-- A number's bytes are read as the number, and a number of w bytes is below 256 ^ w. Assumes nothing.
use mathlib.Core.Path.{◌≡◌, ◌∙◌}
use mathlib.Core.List.{[], ◌∷◌}
use Prim.Native.Nat.{ℕ, zero, suc, ◌*◌, ◌^◌, ◌<◌, ◌≤◌, ◌/◌, ◌%◌}
use native.Mathlib.Nat.{pow-suc, pow-succ'}
use native.Mathlib.Omega.{arith}
use lib.Arith.{digits_lt}
use lib.ListN.{length, take}
use lib.Seq.{length-take-le}
use Rattle.msgpack_first_bytes.specs.Bytes.{Bytes}
use Rattle.msgpack_numbers.specs.Number.{number}
use Rattle.msgpack_numbers.proofs.Big.{number-last}
use Rattle.msgpack_writing.specs.Forms.{big_endian}
use Rattle.msgpack_read_back.specs.Claims.{Octets}

pub number-big_endian : (w n : ℕ) → n < 256 ^ w → number (big_endian w n) ≡ n
unfolding big_endian number
number-big_endian zero n h = omega arith
number-big_endian (suc w) n h =
    let p : 256 ^ suc w ≡ 256 ^ w * 256 = pow-suc 256 w in
    let k : n / 256 < 256 ^ w = omega arith in
    number-last (big_endian w (n / 256)) (n % 256) ∙ rw (number-big_endian w (n / 256) k) (omega arith)

number-below : (s : Bytes) → Octets s → number s < 256 ^ length s
unfolding number
number-below [] o = omega arith
number-below (b ∷ s) o = rw (pow-succ' 256 (length s)) (digits_lt (o 0) (number-below s (λ i. o (suc i))))

octets_take : (w : ℕ) (s : Bytes) → Octets s → Octets (take w s)
octets_take zero s o i = omega arith
octets_take (suc w) [] o i = omega arith
octets_take (suc w) (b ∷ s) o zero = o 0
octets_take (suc w) (b ∷ s) o (suc i) = octets_take w s (λ j. o (suc j)) i

-- the number of w bytes
pub number-take : (w : ℕ) (s : Bytes) → Octets s → w ≤ length s → number (take w s) < 256 ^ w
number-take w s o h = rw (length-take-le w s h) at (number-below (take w s) (octets_take w s o))
