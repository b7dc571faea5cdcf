-- Worked cases of a value read alone as C sees it, computed as one statement over a table.
use Rattle.std.specs.Prelude.{ℕ, List, [], ◌∷◌, ◌++◌, map, ◌≡◌, refl, replicate}
use Rattle.msgpack_first_bytes.specs.Bytes.{Bytes}
use Rattle.msgpack_first_bytes.specs.FirstByte.{form_of, same_kind}
use Rattle.msgpack_numbers.specs.Number.{number}
use Rattle.msgpack_values.specs.Value.{value, one, container, too_deep, by_form, items, sized, payload}
use Rattle.msgpack_values.specs.Spoiled.{no_place, at_place, spoiled_at}
use Rattle.msgpack_scalars.specs.Integer.{due_in, due, natural_of, unsigned_by, unsigned, twos_complement, signed_of, signed_by, signed, adding, integer}
use Rattle.msgpack_meanings.specs.Meaning.{of_integer, of_float32, of_float64, scalar_meaning, meaning, alone_by, alone}
use Rattle.msgpack_shown.specs.declared.ValueAnswer.{ValueAnswer}
use Rattle.msgpack_shown.specs.Shown.{by_bits, by_content, answering, bit, integer_shown, meaning_shown, shown}

record Case : Type 0 where
  bytes : Bytes
  answer : ValueAnswer

abbrev case : Bytes → ℕ → ValueAnswer → Case
case b n v = record { bytes = b; answer = answering 0 n no_place v }

-- everything 0 but the number and the place
abbrev refused : Bytes → ℕ → Case
refused b p = record { bytes = b; answer = answering 4 0 (at_place p) (by_bits 0 0) }

-- length, kind and bits; or length, kind, start, size and ext type
abbrev cases : List Case
cases =
    case (0xc0 ∷ []) 1 (by_bits 0 0)
    ∷ case (0xc2 ∷ []) 1 (by_bits 1 0)
    ∷ case (0xc3 ∷ 0xc1 ∷ []) 1 (by_bits 1 1)
    ∷ case (0xcd ∷ 0x00 ∷ 0x05 ∷ []) 3 (by_bits 2 5)
    ∷ case (0xcf ∷ 0xff ∷ 0xff ∷ 0xff ∷ 0xff ∷ 0xff ∷ 0xff ∷ 0xff ∷ 0xff ∷ []) 9 (by_bits 2 0xffffffffffffffff)
    -- -1, and the lowest integer
    ∷ case (0xff ∷ []) 1 (by_bits 3 0xffffffffffffffff)
    ∷ case (0xd3 ∷ 0x80 ∷ 0x00 ∷ 0x00 ∷ 0x00 ∷ 0x00 ∷ 0x00 ∷ 0x00 ∷ 0x00 ∷ []) 9 (by_bits 3 0x8000000000000000)
    -- NaN bits are kept
    ∷ case (0xca ∷ 0x7f ∷ 0xc0 ∷ 0x00 ∷ 0x01 ∷ []) 5 (by_bits 4 0x7fc00001)
    ∷ case (0xcb ∷ 0xbf ∷ 0xf0 ∷ 0x00 ∷ 0x00 ∷ 0x00 ∷ 0x00 ∷ 0x00 ∷ 0x00 ∷ []) 9 (by_bits 5 0xbff0000000000000)
    -- contents; an ext's without its type
    ∷ case (0xa2 ∷ 0xff ∷ 0xfe ∷ []) 3 (by_content 6 1 2 0)
    ∷ case (0xc4 ∷ 0x01 ∷ 0x07 ∷ []) 3 (by_content 7 2 1 0)
    ∷ case (0xd4 ∷ 0x85 ∷ 0x07 ∷ []) 3 (by_content 8 2 1 0x85)
    -- containers by their whole encoding
    ∷ case (0xdd ∷ 0x00 ∷ 0x00 ∷ 0x00 ∷ 0x01 ∷ 0x07 ∷ 0x07 ∷ []) 6 (by_content 9 0 6 0)
    ∷ case (0x81 ∷ 0x01 ∷ 0x90 ∷ []) 3 (by_content 10 0 3 0)
    ∷ refused [] 0
    ∷ refused (0x91 ∷ 0xc1 ∷ []) 1
    ∷ refused (replicate 16 0x91 ++ (0x90 ∷ [])) 16
    ∷ []

examples : map (λ (c : Case). shown (alone c.bytes)) cases ≡ map (λ (c : Case). c.answer) cases
unfolding value one container too_deep by_form items sized payload number form_of same_kind due_in due natural_of unsigned_by unsigned twos_complement signed_of signed_by signed adding integer of_integer of_float32 of_float64 scalar_meaning meaning alone_by alone spoiled_at bit integer_shown meaning_shown shown
examples = refl
