-- The limits of document 01, 'The frame', each named once; `src/lib.rt` has the same as constants.
use Rattle.std.specs.Prelude.{ℕ}

-- "Size counts all bytes after itself, 1 to 60,000."
abbrev pub max_size : ℕ
max_size = 60000

-- "Header and body have depth at most 16."
abbrev pub max_depth : ℕ
max_depth = 16

-- a value inside them, one less: writing refuses "deeper than 15"
abbrev pub held_depth : ℕ
held_depth = 15

-- "Their keys are unsigned numbers 0 to 127"
abbrev pub max_key : ℕ
max_key = 127

-- "unsigned, at most 4,294,967,295"
abbrev pub max32 : ℕ
max32 = 4294967295

-- "each unsigned to 2^64-1"
abbrev pub max64 : ℕ
max64 = 18446744073709551615

-- "unsigned, 0 or 1"
abbrev pub max_base : ℕ
max_base = 1

-- how many known keys there are: in the header, and in all. The tables of `Keys` have so many lines
abbrev pub header_keys : ℕ
header_keys = 3

abbrev pub known_keys : ℕ
known_keys = 17
