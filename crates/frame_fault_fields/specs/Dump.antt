-- The bytes around a place, in hexadecimal, 16 to a line.
use Rattle.std.specs.Prelude.{ℕ, zero, suc, ◌+◌, ◌-◌, ◌*◌, ◌/◌, ◌%◌, Bool, ◌&&◌, [], ◌∷◌, ◌++◌, leb, ltb, eqb, length, drop, get_or}
use Rattle.msgpack_first_bytes.specs.Bytes.{Bytes, pick}
use Rattle.msgpack_values.specs.declared.OptionalNumber.{OptionalNumber}
use Rattle.frame_listing_fields.specs.Text.{text, decimal}

-- a digit below 16: 0 to 9, then a to f
abbrev pub hex_digit : ℕ → ℕ
hex_digit d = pick (ltb d 10) (48 + d) (87 + d)

abbrev pub hex : ℕ → Bytes
hex b = hex_digit (b / 16) ∷ hex_digit (b % 16) ∷ []

-- whether the place is that of byte i
abbrev pub is_at : OptionalNumber → ℕ → Bool
is_at p i = p.present && eqb p.value i

-- a byte stands between blanks, the one at the place between > and <
unfoldable pub between : Bool → ℕ → Bytes
between m b = pick m (text ">" ++ (hex b ++ text "<")) (text " " ++ (hex b ++ text " "))

-- what comes before byte i where a line begins with it: a new line, and the byte's number at the right of six columns
unfoldable pub column : ℕ → Bytes
column i = text "\n" ++ (drop (length (decimal i)) (text "      ") ++ (decimal i ++ text " "))

abbrev pub margin : ℕ → Bytes
margin i = pick (eqb (i % 16) 0) (column i) []

-- what stands for byte i of the bytes f; past their end nothing, but for the mark where the place is there
unfoldable pub cell : Bytes → OptionalNumber → ℕ → Bytes
cell f p i = pick (ltb i (length f)) (margin i ++ between (is_at p i) (get_or f i 0)) (pick (is_at p i) (margin i ++ text ">  <") [])

-- what stands for n bytes, from byte i on
unfoldable pub cells : Bytes → OptionalNumber → ℕ → ℕ → Bytes
cells f p i zero = []
cells f p i (suc n) = cells f p i n ++ cell f p (i + n)

-- where the dump begins: two lines before the line of the place, or with the first line; with that too where there is no place
unfoldable pub dump_start : OptionalNumber → ℕ
dump_start p = pick p.present (16 * (p.value / 16 - 2)) 0

-- five lines, as far as there are bytes; nothing where they would begin past byte 65,536, where no report has any
unfoldable pub dump : Bytes → OptionalNumber → Bytes
dump f p = pick (leb (dump_start p) 65536) (cells f p (dump_start p) 80) []
