-- A value read alone as C sees it: its meaning as numbers.
use Rattle.std.specs.Prelude.{ℕ, ◌-◌, Bool, true, false}
use Rattle.msgpack_values.specs.Spoiled.{no_place}
use Rattle.msgpack_values.specs.declared.OptionalNumber.{OptionalNumber}
use Rattle.msgpack_scalars.specs.declared.Int.{Int}
use Rattle.msgpack_scalars.specs.declared.Int.TheVariants.{FromZero, BelowZero}
use Rattle.msgpack_meanings.specs.declared.Alone.{Alone}
use Rattle.msgpack_meanings.specs.declared.Meaning.{Meaning}
use Rattle.msgpack_meanings.specs.declared.Meaning.TheVariants.{Absent, Nil, Boolean, Integer, Float32, Float64, String, Bin, Ext, Array, Map}
use Rattle.msgpack_shown.specs.declared.ValueAnswer.{ValueAnswer}

-- a value of some kind with its bits
abbrev pub by_bits : ℕ → ℕ → ValueAnswer
by_bits k b = record { number = 0; kind = k; length = 0; bits = b; start = 0; size = 0; ext_type = 0; place = no_place }

-- .. or with the start and size of its content, and an ext's type
abbrev pub by_content : ℕ → ℕ → ℕ → ℕ → ValueAnswer
by_content k s z t = record { number = 0; kind = k; length = 0; bits = 0; start = s; size = z; ext_type = t; place = no_place }

unfoldable pub bit : Bool → ℕ
bit true = 1
bit false = 0

-- "the number; the number as 64-bit two's complement": BelowZero m is -1 - m
unfoldable pub integer_shown : Int → ValueAnswer
integer_shown (FromZero i) = by_bits 2 i
integer_shown (BelowZero m) = by_bits 3 (0xffffffffffffffff - m)

-- "`kind`: 0 nil, 1 boolean, 2 integer from 0 up, 3 integer below 0, 4 float 32, 5 float 64, 6 string, 7 bin, 8 ext, 9 array, 10 map.
-- `bits`: 0 or 1; the number; the number as 64-bit two's complement; the float's bits; else 0. `start` and `size`: the content of a
-- string, bin or ext (without its type), the whole encoding of an array or map, else 0. Refused: everything 0 but the number", and the place
unfoldable pub meaning_shown : Meaning → ValueAnswer
meaning_shown Absent = by_bits 0 0
meaning_shown Nil = by_bits 0 0
meaning_shown (Boolean b) = by_bits 1 (bit b)
meaning_shown (Integer z) = integer_shown z
meaning_shown (Float32 f b) = by_bits 4 b
meaning_shown (Float64 f b) = by_bits 5 b
meaning_shown (String s z) = by_content 6 s z 0
meaning_shown (Bin s z) = by_content 7 s z 0
meaning_shown (Ext t s z) = by_content 8 s z t
meaning_shown (Array s z) = by_content 9 s z 0
meaning_shown (Map s z) = by_content 10 s z 0

-- a meaning as it is shown, with the number, the length and the place of an answer
abbrev pub answering : ℕ → ℕ → OptionalNumber → ValueAnswer → ValueAnswer
answering n l p v =
    record { number = n; kind = v.kind; length = l; bits = v.bits; start = v.start; size = v.size; ext_type = v.ext_type; place = p }

unfoldable pub shown : Alone → ValueAnswer
shown a = answering a.number a.length a.place (meaning_shown a.meaning)
