-- The bytes that the writers write.
use Rattle.std.specs.Prelude.{ℕ, zero, suc, ◌+◌, ◌-◌, ◌/◌, ◌%◌, ◌^◌, [], ◌∷◌, ◌++◌, ltb, length}
use Rattle.msgpack_first_bytes.specs.Bytes.{Bytes, pick}

-- the w low bytes of n, the most significant first
unfoldable pub big_endian : ℕ → ℕ → Bytes
big_endian zero n = []
big_endian (suc w) n = big_endian w (n / 256) ++ (n % 256 ∷ [])

-- a first byte, then a number of w bytes
abbrev pub tagged : ℕ → ℕ → ℕ → Bytes
tagged b w n = b ∷ big_endian w n

-- as many bytes of x as hold n, 1, 2, 4 or 8: the first bytes of these forms follow one another, from `first` on
abbrev pub long_form : ℕ → ℕ → ℕ → Bytes
long_form first n x =
    pick (ltb n (2 ^ 8)) (tagged first 1 x)
    (pick (ltb n (2 ^ 16)) (tagged (first + 1) 2 x)
    (pick (ltb n (2 ^ 32)) (tagged (first + 2) 4 x) (tagged (first + 3) 8 x)))

-- "Numbers are written in the shortest form: unsigned forms from 0 up"
unfoldable pub unsigned_form : ℕ → Bytes
unsigned_form n =
    pick (ltb n 128) (n ∷ [])
    (pick (ltb n (2 ^ 8)) (tagged 0xcc 1 n)
    (pick (ltb n (2 ^ 16)) (tagged 0xcd 2 n)
    (pick (ltb n (2 ^ 32)) (tagged 0xce 4 n) (tagged 0xcf 8 n))))

-- "signed forms below 0": the number -1 - m, in two's complement; below -2^63 there is no form
unfoldable pub negative_form : ℕ → Bytes
negative_form m =
    pick (ltb m 32) ((255 - m) ∷ [])
    (pick (ltb m (2 ^ 7)) (tagged 0xd0 1 (2 ^ 8 - 1 - m))
    (pick (ltb m (2 ^ 15)) (tagged 0xd1 2 (2 ^ 16 - 1 - m))
    (pick (ltb m (2 ^ 31)) (tagged 0xd2 4 (2 ^ 32 - 1 - m))
    (pick (ltb m (2 ^ 63)) (tagged 0xd3 8 (2 ^ 64 - 1 - m)) []))))

-- what stands before a string of n bytes
unfoldable pub string_header : ℕ → Bytes
string_header n =
    pick (ltb n 32) ((0xa0 + n) ∷ [])
    (pick (ltb n (2 ^ 8)) (tagged 0xd9 1 n) (pick (ltb n (2 ^ 16)) (tagged 0xda 2 n) (tagged 0xdb 4 n)))

-- a string with its header
abbrev pub string_form : Bytes → Bytes
string_form s = string_header (length s) ++ s

-- a count of an array or a map: the first bytes of its short forms begin at `short`, those of its longer ones at `long`
abbrev pub count_header : ℕ → ℕ → ℕ → Bytes
count_header short long n = pick (ltb n 16) ((short + n) ∷ []) (pick (ltb n (2 ^ 16)) (tagged long 2 n) (tagged (long + 1) 4 n))

unfoldable pub array_header : ℕ → Bytes
array_header = count_header 0x90 0xdc

unfoldable pub map_header : ℕ → Bytes
map_header = count_header 0x80 0xde
