-- Worked cases of a value read alone, computed as one statement over a table.
use Rattle.std.specs.Prelude.{ℕ, true, false, List, [], ◌∷◌, ◌++◌, map, ◌≡◌, refl, replicate}
use Rattle.std.specs.Float.{binary32, binary64}
use Rattle.std.specs.Float.Ieee.{of_bits}
use Rattle.msgpack_first_bytes.specs.Bytes.{Bytes}
use Rattle.msgpack_first_bytes.specs.FirstByte.{form_of, same_kind}
use Rattle.msgpack_numbers.specs.Number.{number}
use Rattle.msgpack_values.specs.Value.{value, one, container, too_deep, by_form, items, sized, payload}
use Rattle.msgpack_values.specs.Spoiled.{no_place, at_place, spoiled_at}
use Rattle.msgpack_scalars.specs.Integer.{due_in, due, natural_of, unsigned_by, unsigned, twos_complement, signed_of, signed_by, signed, adding, integer}
use Rattle.msgpack_scalars.specs.declared.Int.TheVariants.{FromZero, BelowZero}
use Rattle.msgpack_meanings.specs.Meaning.{of_integer, of_float32, of_float64, scalar_meaning, meaning, alone_by, alone}
use Rattle.msgpack_meanings.specs.declared.Alone.{Alone}
use Rattle.msgpack_meanings.specs.declared.Meaning.{Meaning}
use Rattle.msgpack_meanings.specs.declared.Meaning.TheVariants.{Absent, Nil, Boolean, Integer, Float32, Float64, String, Bin, Ext, Array, Map}

record Case : Type 0 where
  bytes : Bytes
  answer : Alone

abbrev case : Bytes → ℕ → Meaning → Case
case b n m = record { bytes = b; answer = record { number = 0; length = n; meaning = m; place = no_place } }

-- with the place of the byte that spoils it
abbrev refused : Bytes → ℕ → Case
refused b p = record { bytes = b; answer = record { number = 4; length = 0; meaning = Absent; place = at_place p } }

abbrev cases : List Case
cases =
    case (0xc0 ∷ []) 1 Nil
    ∷ case (0xc2 ∷ []) 1 (Boolean false)
    ∷ case (0xc3 ∷ 0xc1 ∷ []) 1 (Boolean true)
    ∷ case (0x05 ∷ []) 1 (Integer (FromZero 5))
    ∷ case (0xcd ∷ 0x00 ∷ 0x05 ∷ []) 3 (Integer (FromZero 5))
    ∷ case (0xd3 ∷ 0x80 ∷ 0x00 ∷ 0x00 ∷ 0x00 ∷ 0x00 ∷ 0x00 ∷ 0x00 ∷ 0x00 ∷ []) 9 (Integer (BelowZero 9223372036854775807))
    -- NaN bits are kept
    ∷ case (0xca ∷ 0x7f ∷ 0xc0 ∷ 0x00 ∷ 0x01 ∷ []) 5 (Float32 (of_bits binary32 0x7fc00001) 0x7fc00001)
    ∷ case (0xcb ∷ 0xbf ∷ 0xf0 ∷ 0x00 ∷ 0x00 ∷ 0x00 ∷ 0x00 ∷ 0x00 ∷ 0x00 ∷ []) 9 (Float64 (of_bits binary64 0xbff0000000000000) 0xbff0000000000000)
    -- the places of contents; an ext's type beside it
    ∷ case (0xa2 ∷ 0xff ∷ 0xfe ∷ []) 3 (String 1 2)
    ∷ case (0xda ∷ 0x00 ∷ 0x01 ∷ 0x61 ∷ []) 4 (String 3 1)
    ∷ case (0xc4 ∷ 0x01 ∷ 0x07 ∷ []) 3 (Bin 2 1)
    ∷ case (0xd4 ∷ 0x85 ∷ 0x07 ∷ []) 3 (Ext 0x85 2 1)
    ∷ case (0xc7 ∷ 0x00 ∷ 0x05 ∷ []) 3 (Ext 0x05 3 0)
    -- containers by their whole encoding
    ∷ case (0xdd ∷ 0x00 ∷ 0x00 ∷ 0x00 ∷ 0x01 ∷ 0x07 ∷ 0x07 ∷ []) 6 (Array 0 6)
    ∷ case (0x81 ∷ 0x01 ∷ 0x90 ∷ []) 3 (Map 0 3)
    -- depth 16 and 17
    ∷ case (replicate 15 0x91 ++ (0x90 ∷ [])) 16 (Array 0 16)
    ∷ refused (replicate 16 0x91 ++ (0x90 ∷ [])) 16
    -- broken, or past its bytes
    ∷ refused [] 0
    ∷ refused (0xc1 ∷ []) 0
    ∷ refused (0xc7 ∷ 0x00 ∷ []) 2
    ∷ refused (0xcb ∷ 0x00 ∷ []) 2
    ∷ refused (0xdd ∷ 0xff ∷ 0xff ∷ 0xff ∷ 0xff ∷ 0x00 ∷ []) 6
    -- the leftmost of two
    ∷ refused (0x93 ∷ 0x01 ∷ 0xc1 ∷ 0xa2 ∷ []) 2
    ∷ []

examples : map (λ (c : Case). alone c.bytes) cases ≡ map (λ (c : Case). c.answer) cases
unfolding value one container too_deep by_form items sized payload number form_of same_kind due_in due natural_of unsigned_by unsigned twos_complement signed_of signed_by signed adding integer of_integer of_float32 of_float64 scalar_meaning meaning alone_by alone spoiled_at
examples = refl
