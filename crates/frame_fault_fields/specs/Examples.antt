-- Worked cases, computed.
use Rattle.std.specs.Prelude.{ℕ, zero, suc, List, [], ◌∷◌, ◌++◌, map, ◌≡◌, refl}
use Prim.Native.String.{String}
use Rattle.msgpack_first_bytes.specs.Bytes.{Bytes}
use Rattle.msgpack_values.specs.Spoiled.{no_place, at_place}
use Rattle.msgpack_values.specs.declared.OptionalNumber.{OptionalNumber}
use Rattle.frame_listing_fields.specs.Text.{text, digits, decimal}
use Rattle.frame_fault_fields.specs.Dump.{between, column, cell, cells, dump_start, dump}

-- the bytes 0, 1, 2 and on
up_to : ℕ → Bytes
up_to zero = []
up_to (suc n) = up_to n ++ (n ∷ [])

-- so many of these bytes, the place, and the dump
pub record Case : Type 0 where
  pub bytes : ℕ
  pub place : OptionalNumber
  pub lines : String

abbrev case : ℕ → OptionalNumber → String → Case
case n p s = record { bytes = n; place = p; lines = s }

abbrev cases : List Case
cases =
    -- in the middle of a line
    case 20 (at_place 5) "\n     0  00  01  02  03  04 >05< 06  07  08  09  0a  0b  0c  0d  0e  0f \n    16  10  11  12  13 "
    -- the first byte of a line, and the last of one
    ∷ case 20 (at_place 16) "\n     0  00  01  02  03  04  05  06  07  08  09  0a  0b  0c  0d  0e  0f \n    16 >10< 11  12  13 "
    ∷ case 20 (at_place 15) "\n     0  00  01  02  03  04  05  06  07  08  09  0a  0b  0c  0d  0e >0f<\n    16  10  11  12  13 "
    -- the end of the bytes, in a line and where a new one begins
    ∷ case 20 (at_place 20) "\n     0  00  01  02  03  04  05  06  07  08  09  0a  0b  0c  0d  0e  0f \n    16  10  11  12  13 >  <"
    ∷ case 16 (at_place 16) "\n     0  00  01  02  03  04  05  06  07  08  09  0a  0b  0c  0d  0e  0f \n    16 >  <"
    -- lines before and after are left out
    ∷ case 120 (at_place 70) "\n    32  20  21  22  23  24  25  26  27  28  29  2a  2b  2c  2d  2e  2f \n    48  30  31  32  33  34  35  36  37  38  39  3a  3b  3c  3d  3e  3f \n    64  40  41  42  43  44  45 >46< 47  48  49  4a  4b  4c  4d  4e  4f \n    80  50  51  52  53  54  55  56  57  58  59  5a  5b  5c  5d  5e  5f \n    96  60  61  62  63  64  65  66  67  68  69  6a  6b  6c  6d  6e  6f "
    -- no place
    ∷ case 100 (no_place) "\n     0  00  01  02  03  04  05  06  07  08  09  0a  0b  0c  0d  0e  0f \n    16  10  11  12  13  14  15  16  17  18  19  1a  1b  1c  1d  1e  1f \n    32  20  21  22  23  24  25  26  27  28  29  2a  2b  2c  2d  2e  2f \n    48  30  31  32  33  34  35  36  37  38  39  3a  3b  3c  3d  3e  3f \n    64  40  41  42  43  44  45  46  47  48  49  4a  4b  4c  4d  4e  4f "
    ∷ case 0 (no_place) ""
    ∷ []

examples : map (λ (c : Case). dump (up_to c.bytes) c.place) cases ≡ map (λ (c : Case). text c.lines) cases
unfolding dump dump_start cells cell column between decimal digits up_to
examples = refl
