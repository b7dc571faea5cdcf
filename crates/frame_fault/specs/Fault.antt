-- The report. Document 02, 3/12: "The night technician gets "4" and sixty thousand bytes."
use Rattle.std.specs.Prelude.{ℕ, zero, suc, ◌+◌, ◌-◌, [], ◌∷◌, ◌++◌, leb, eqb, length, take, Ok, Err}
use Rattle.msgpack_first_bytes.specs.Bytes.{Bytes, pick}
use Rattle.msgpack_values.specs.declared.OptionalNumber.{OptionalNumber}
use Rattle.frames.specs.declared.FrameAnswer.{FrameAnswer}
use Rattle.frames.specs.Reading.{Size, size_of, frame_read}
use Rattle.frame_listing.specs.Listing.{max_input}
use Rattle.frame_listing_fields.specs.Text.{text, decimal}
use Rattle.frame_fault_fields.specs.Words.{words_of}
use Rattle.frame_fault_fields.specs.Dump.{dump}

-- which frame, the first being 1, and the number of its first byte in the input, the first being 0
unfoldable pub frame_line : ℕ → ℕ → Bytes
frame_line n at = text "frame    " ++ (decimal n ++ (text ", from byte " ++ (decimal at ++ text " of the input\n")))

-- why it is refused
unfoldable pub refused_line : ℕ → Bytes
refused_line number = text "refused  " ++ (decimal number ++ (text ", " ++ (words_of number ++ text "\n")))

-- the place, counted from the frame's first byte and from that of the input
unfoldable pub place_line : ℕ → OptionalNumber → Bytes
place_line at p =
    pick p.present
    (text "place    " ++ (decimal p.value ++ (text ", byte " ++ (decimal (at + p.value) ++ text " of the input\n"))))
    (text "place    none\n")

-- the frame's own bytes, at the front of s: those that its size number promises, as far as they are there; else all
unfoldable pub own_by : Bytes → Size → Bytes
own_by s (Ok (n, k)) = take (k + n) s
own_by s (Err (n, k)) = s

abbrev pub own : Bytes → Bytes
own s = own_by s (size_of s)

-- the report on frame n, which is refused; s is the input from its first byte on, and `at` bytes stand before that
unfoldable pub fault : ℕ → ℕ → Bytes → ℕ → OptionalNumber → Bytes
fault n at s number p = frame_line n at ++ (refused_line number ++ (place_line at p ++ (dump (own s) p ++ text "\n")))

unfoldable pub clean_line : ℕ → Bytes
clean_line n = text "frames   " ++ (decimal n ++ text ", none refused\n")

-- the report on what is left of the input, s, after n frames and `at` bytes; the first k bytes of s belong to the frame before and are passed over
unfoldable pub report_from : ℕ → ℕ → ℕ → Bytes → Bytes
report_from k n at [] = clean_line n
report_from (suc k) n at (b ∷ s) = report_from k n (suc at) s
report_from zero n at (b ∷ s) =
    let a : FrameAnswer = frame_read (b ∷ s) in
    pick (eqb a.number 0) (report_from (a.length - 1) (suc n) (suc at) s) (fault (suc n) at (b ∷ s) a.number a.place)

unfoldable pub report : Bytes → Bytes
report s = pick (leb (length s) max_input) (report_from 0 0 0 s) (text "input    over 65,536 bytes, not read\n")

-- no report is longer than this (the contract of `report`)
abbrev pub room : ℕ
room = 600
