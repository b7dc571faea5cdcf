-- The listing. Document 01: "The listing program reads standard input, at most 65,536 bytes, and writes tab-parted lines."
use Rattle.std.specs.Prelude.{ℕ, zero, suc, ◌-◌, ◌*◌, List, [], ◌∷◌, ◌++◌, leb, eqb, length}
use Rattle.msgpack_first_bytes.specs.Bytes.{Bytes, pick}
use Rattle.msgpack_values.specs.declared.OptionalNumber.{OptionalNumber}
use Rattle.frames.specs.declared.FrameAnswer.{FrameAnswer}
use Rattle.frames.specs.Reading.{frame_read}
use Rattle.frame_listing_fields.specs.Text.{text, decimal}
use Rattle.frame_listing_fields.specs.Names.{kind_of}
use Rattle.frame_listing_fields.specs.Sync.{sync_text}

abbrev pub max_input : ℕ
max_input = 65536

-- "tab-parted": a line of its fields
abbrev pub line : List Bytes → Bytes
line [] = text "\n"
line (f ∷ []) = f ++ text "\n"
line (f ∷ g ∷ fs) = f ++ (text "\t" ++ line (g ∷ fs))

-- the first line
unfoldable pub heading : Bytes
heading = line (text "frame" ∷ text "kind" ∷ text "sync" ∷ text "bytes" ∷ [])

-- the line of a frame: its number, kind, sync and bytes
unfoldable pub frame_line : ℕ → ℕ → OptionalNumber → ℕ → Bytes
frame_line n code sync bytes = line (decimal n ∷ kind_of code ∷ sync_text sync ∷ decimal bytes ∷ [])

-- the last line: how the input ended, and a number
unfoldable pub last_line : Bytes → ℕ → Bytes
last_line how n = line (text "end" ∷ how ∷ decimal n ∷ [])

-- "`end incomplete` with the bytes left, or `end refused` with the number": 1 says that bytes are missing
unfoldable pub refused_line : ℕ → ℕ → Bytes
refused_line number left = pick (eqb number 1) (last_line (text "incomplete") left) (last_line (text "refused") number)

-- the lines of what is left of the input, the frames numbered from n on; its first k bytes belong to the frame before and are passed over
-- "The last line is `end clean 0`" where nothing is left.
unfoldable pub lines : ℕ → ℕ → Bytes → Bytes
lines k n [] = last_line (text "clean") 0
lines (suc k) n (b ∷ s) = lines k n s
lines zero n (b ∷ s) =
    let a : FrameAnswer = frame_read (b ∷ s) in
    pick (eqb a.number 0)
    (frame_line n a.frame.code a.frame.sync a.length ++ lines (a.length - 1) (suc n) s)
    (refused_line a.number (length (b ∷ s)))

-- "for longer input only the first line and `end long 65536`"
unfoldable pub listing : Bytes → Bytes
listing s = heading ++ pick (leb (length s) max_input) (lines 0 1 s) (last_line (text "long") max_input)

-- the lines of any input are no longer than this (the contract of `list`)
abbrev pub room : ℕ
room = 22 * max_input
