-- The first byte of a value: the MessagePack specification's table 'Overview', as one decision over ranges, from 00 to ff.
-- 01: "All first bytes 00 to ff are judged ... c1 is broken."
use Rattle.std.specs.Prelude.{ℕ, ◌+◌, ◌-◌, ◌*◌, ◌^◌, leb, eqb, Bool}
use Rattle.msgpack_first_bytes.specs.Bytes.{pick}
use Rattle.msgpack_first_bytes.specs.declared.Kind.{Kind}
use Rattle.msgpack_first_bytes.specs.declared.Kind.TheVariants.{Nil, Boolean, Unsigned, Signed, Float32, Float64, String, Bin, Ext}
use Rattle.msgpack_first_bytes.specs.declared.Form.{Form}
use Rattle.msgpack_first_bytes.specs.declared.Form.TheVariants.{Unused, Scalar, Array, Map}

-- kind, length bytes, and what is due by the first byte alone: bytes (an ext's type is one), or an array's or a map's values
unfoldable pub form_of : ℕ → Form
form_of b =
    pick (leb b 0x7f) (Scalar Unsigned 0 0)  -- positive fixint
    (pick (leb b 0x8f) (Map 0 (2 * (b - 0x80)))  -- fixmap: a key and a value for each entry
    (pick (leb b 0x9f) (Array 0 (b - 0x90))  -- fixarray
    (pick (leb b 0xbf) (Scalar String 0 (b - 0xa0))  -- fixstr
    (pick (leb b 0xc0) (Scalar Nil 0 0)
    (pick (leb b 0xc1) Unused
    (pick (leb b 0xc3) (Scalar Boolean 0 0)
    (pick (leb b 0xc6) (Scalar Bin (2 ^ (b - 0xc4)) 0)  -- bin 8, 16, 32
    (pick (leb b 0xc9) (Scalar Ext (2 ^ (b - 0xc7)) 1)  -- ext 8, 16, 32
    (pick (leb b 0xca) (Scalar Float32 0 4)
    (pick (leb b 0xcb) (Scalar Float64 0 8)
    (pick (leb b 0xcf) (Scalar Unsigned 0 (2 ^ (b - 0xcc)))  -- uint 8, 16, 32, 64
    (pick (leb b 0xd3) (Scalar Signed 0 (2 ^ (b - 0xd0)))  -- int 8, 16, 32, 64
    (pick (leb b 0xd8) (Scalar Ext 0 (1 + 2 ^ (b - 0xd4)))  -- fixext 1, 2, 4, 8, 16
    (pick (leb b 0xdb) (Scalar String (2 ^ (b - 0xd9)) 0)  -- str 8, 16, 32
    (pick (leb b 0xdd) (Array (2 * 2 ^ (b - 0xdc)) 0)  -- array 16, 32
    (pick (leb b 0xdf) (Map (2 * 2 ^ (b - 0xde)) 0)  -- map 16, 32
    (Scalar Signed 0 0)))))))))))))))))  -- negative fixint

-- a number for each kind, by which two are compared
abbrev pub kind_no : Kind → ℕ
kind_no Nil = 0
kind_no Boolean = 1
kind_no Unsigned = 2
kind_no Signed = 3
kind_no Float32 = 4
kind_no Float64 = 5
kind_no String = 6
kind_no Bin = 7
kind_no Ext = 8

unfoldable pub same_kind : Kind → Kind → Bool
same_kind a b = eqb (kind_no a) (kind_no b)
