-- Worked cases, computed as one statement over a table: depth, bytes, answer.
use Rattle.std.specs.Prelude.{ℕ, List, [], ◌∷◌, map, ◌≡◌, refl, Ok, Err}
use Rattle.msgpack_first_bytes.specs.Bytes.{Bytes}
use Rattle.msgpack_first_bytes.specs.FirstByte.{form_of}
use Rattle.msgpack_numbers.specs.Number.{number}
use Rattle.msgpack_values.specs.Value.{value, one, container, too_deep, by_form, items, sized, payload, Read}

record Case : Type 0 where
  depth : ℕ
  bytes : Bytes
  answer : Read

abbrev case : ℕ → Bytes → Read → Case
case d b a = record { depth = d; bytes = b; answer = a }

abbrev cases : List Case
cases =
    -- 01's first tuple, and the error made before: a long header where a short one would do is whole
    case 16 (0x93 ∷ 0x05 ∷ 0xa2 ∷ 0x61 ∷ 0x62 ∷ 0xc3 ∷ []) (Ok 6)
    ∷ case 16 (0xdd ∷ 0x00 ∷ 0x00 ∷ 0x00 ∷ 0x01 ∷ 0x07 ∷ 0x09 ∷ []) (Ok 6)
    -- an integer, a string and an ext in a long form, a float, and what follows them not judged
    ∷ case 0 (0xd3 ∷ 0xff ∷ 0xff ∷ 0xff ∷ 0xff ∷ 0xff ∷ 0xff ∷ 0xff ∷ 0xff ∷ 0xc1 ∷ []) (Ok 9)
    ∷ case 0 (0xda ∷ 0x00 ∷ 0x02 ∷ 0xff ∷ 0xfe ∷ 0xc1 ∷ []) (Ok 5)
    ∷ case 0 (0xc7 ∷ 0x00 ∷ 0x05 ∷ []) (Ok 3)
    ∷ case 0 (0xd4 ∷ 0x01 ∷ 0x02 ∷ []) (Ok 3)
    ∷ case 0 (0xca ∷ 0x7f ∷ 0xc0 ∷ 0x00 ∷ 0x01 ∷ []) (Ok 5)
    -- a map of n holds 2 n values
    ∷ case 1 (0x82 ∷ 0x01 ∷ 0x02 ∷ 0x03 ∷ 0x04 ∷ 0x05 ∷ []) (Ok 5)
    ∷ case 1 (0xde ∷ 0x00 ∷ 0x01 ∷ 0x01 ∷ 0x02 ∷ []) (Ok 5)
    -- an empty container has depth 1
    ∷ case 0 (0x90 ∷ []) (Err 0)
    ∷ case 1 (0x90 ∷ []) (Ok 1)
    ∷ case 1 (0x91 ∷ 0x80 ∷ []) (Err 1)
    -- an unused first byte, at the front and inside
    ∷ case 16 (0xc1 ∷ []) (Err 0)
    ∷ case 2 (0x82 ∷ 0x01 ∷ 0x90 ∷ 0x02 ∷ 0xc1 ∷ []) (Err 4)
    -- the end of the bytes where more were due
    ∷ case 16 [] (Err 0)
    ∷ case 16 (0xdc ∷ 0x00 ∷ []) (Err 2)
    ∷ case 16 (0xa3 ∷ 0x61 ∷ []) (Err 2)
    ∷ case 16 (0xc7 ∷ 0x00 ∷ []) (Err 2)
    ∷ case 16 (0xdd ∷ 0xff ∷ 0xff ∷ 0xff ∷ 0xff ∷ 0x01 ∷ []) (Err 6)
    -- the leftmost decides: too deep before cut short, cut short before unused
    ∷ case 0 (0xdc ∷ []) (Err 0)
    ∷ case 1 (0x92 ∷ 0x91 ∷ 0xc1 ∷ 0xc1 ∷ []) (Err 1)
    ∷ case 1 (0x92 ∷ 0xc1 ∷ 0x91 ∷ []) (Err 1)
    ∷ []

examples : map (λ (c : Case). value c.depth c.bytes) cases ≡ map (λ (c : Case). c.answer) cases
unfolding value one container too_deep by_form items sized payload number form_of
examples = refl
