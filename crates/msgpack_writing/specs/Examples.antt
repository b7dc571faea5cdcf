-- Worked cases at the edges of every form and of the room, computed.
use Rattle.std.specs.Prelude.{ℕ, List, [], ◌∷◌, map, ◌≡◌, refl}
use Rattle.msgpack_first_bytes.specs.Bytes.{Bytes}
use Rattle.msgpack_writing.specs.Forms.{big_endian, unsigned_form, negative_form, string_header, array_header, map_header}
use Rattle.msgpack_writing.specs.Put.{put, next}

record Case : Type 0 where
  written : Bytes
  expected : Bytes

abbrev case : Bytes → Bytes → Case
case w e = record { written = w; expected = e }

abbrev forms : List Case
forms =
    case (unsigned_form 0) (0x00 ∷ [])
    ∷ case (unsigned_form 127) (0x7f ∷ [])
    ∷ case (unsigned_form 128) (0xcc ∷ 0x80 ∷ [])
    ∷ case (unsigned_form 255) (0xcc ∷ 0xff ∷ [])
    ∷ case (unsigned_form 256) (0xcd ∷ 0x01 ∷ 0x00 ∷ [])
    ∷ case (unsigned_form 512) (0xcd ∷ 0x02 ∷ 0x00 ∷ [])
    ∷ case (unsigned_form 65536) (0xce ∷ 0x00 ∷ 0x01 ∷ 0x00 ∷ 0x00 ∷ [])
    ∷ case (unsigned_form 4294967295) (0xce ∷ 0xff ∷ 0xff ∷ 0xff ∷ 0xff ∷ [])
    ∷ case (unsigned_form 4294967296) (0xcf ∷ 0x00 ∷ 0x00 ∷ 0x00 ∷ 0x01 ∷ 0x00 ∷ 0x00 ∷ 0x00 ∷ 0x00 ∷ [])
    ∷ case (unsigned_form 18446744073709551615) (0xcf ∷ 0xff ∷ 0xff ∷ 0xff ∷ 0xff ∷ 0xff ∷ 0xff ∷ 0xff ∷ 0xff ∷ [])
    -- -1, -32, -33, -128, -129, -32769, -2147483649, -2^63, and one less
    ∷ case (negative_form 0) (0xff ∷ [])
    ∷ case (negative_form 31) (0xe0 ∷ [])
    ∷ case (negative_form 32) (0xd0 ∷ 0xdf ∷ [])
    ∷ case (negative_form 127) (0xd0 ∷ 0x80 ∷ [])
    ∷ case (negative_form 128) (0xd1 ∷ 0xff ∷ 0x7f ∷ [])
    ∷ case (negative_form 32768) (0xd2 ∷ 0xff ∷ 0xff ∷ 0x7f ∷ 0xff ∷ [])
    ∷ case (negative_form 2147483648) (0xd3 ∷ 0xff ∷ 0xff ∷ 0xff ∷ 0xff ∷ 0x7f ∷ 0xff ∷ 0xff ∷ 0xff ∷ [])
    ∷ case (negative_form 9223372036854775807) (0xd3 ∷ 0x80 ∷ 0x00 ∷ 0x00 ∷ 0x00 ∷ 0x00 ∷ 0x00 ∷ 0x00 ∷ 0x00 ∷ [])
    ∷ case (negative_form 9223372036854775808) []
    ∷ case (string_header 0) (0xa0 ∷ [])
    ∷ case (string_header 31) (0xbf ∷ [])
    ∷ case (string_header 32) (0xd9 ∷ 0x20 ∷ [])
    ∷ case (string_header 256) (0xda ∷ 0x01 ∷ 0x00 ∷ [])
    ∷ case (string_header 65536) (0xdb ∷ 0x00 ∷ 0x01 ∷ 0x00 ∷ 0x00 ∷ [])
    ∷ case (array_header 15) (0x9f ∷ [])
    ∷ case (array_header 16) (0xdc ∷ 0x00 ∷ 0x10 ∷ [])
    ∷ case (array_header 65536) (0xdd ∷ 0x00 ∷ 0x01 ∷ 0x00 ∷ 0x00 ∷ [])
    ∷ case (map_header 15) (0x8f ∷ [])
    ∷ case (map_header 16) (0xde ∷ 0x00 ∷ 0x10 ∷ [])
    ∷ case (map_header 65536) (0xdf ∷ 0x00 ∷ 0x01 ∷ 0x00 ∷ 0x00 ∷ [])
    -- into a buffer of four: with room, with just enough, without, at its end and past it
    ∷ case (put 1 (8 ∷ 9 ∷ []) (1 ∷ 2 ∷ 3 ∷ 4 ∷ [])) (1 ∷ 8 ∷ 9 ∷ 4 ∷ [])
    ∷ case (put 2 (8 ∷ 9 ∷ []) (1 ∷ 2 ∷ 3 ∷ 4 ∷ [])) (1 ∷ 2 ∷ 8 ∷ 9 ∷ [])
    ∷ case (put 3 (8 ∷ 9 ∷ []) (1 ∷ 2 ∷ 3 ∷ 4 ∷ [])) (1 ∷ 2 ∷ 3 ∷ 4 ∷ [])
    ∷ case (put 4 [] (1 ∷ 2 ∷ 3 ∷ 4 ∷ [])) (1 ∷ 2 ∷ 3 ∷ 4 ∷ [])
    ∷ case (put 5 (8 ∷ 9 ∷ []) (1 ∷ 2 ∷ 3 ∷ 4 ∷ [])) (1 ∷ 2 ∷ 3 ∷ 4 ∷ [])
    ∷ []

abbrev places : List ℕ
places = map (λ (at : ℕ). next at (8 ∷ 9 ∷ []) (1 ∷ 2 ∷ 3 ∷ 4 ∷ [])) (1 ∷ 2 ∷ 3 ∷ 4 ∷ 5 ∷ [])

examples : (map (λ (c : Case). c.written) forms ≡ map (λ (c : Case). c.expected) forms) × (places ≡ 3 ∷ 4 ∷ 3 ∷ 4 ∷ 5 ∷ [])
unfolding big_endian unsigned_form negative_form string_header array_header map_header put next
examples = (refl, refl)
