-- Worked cases, computed.
use Rattle.std.specs.Prelude.{false, List, [], ◌∷◌, ◌++◌, map, ◌≡◌, refl, leb, length, take}
use Prim.Native.String.{String}
use Rattle.msgpack_first_bytes.specs.Bytes.{Bytes}
use Rattle.msgpack_first_bytes.specs.FirstByte.{form_of, same_kind}
use Rattle.msgpack_numbers.specs.Number.{number as sum}
use Rattle.msgpack_values.specs.Value.{value, one, container, too_deep, by_form, items, sized, payload}
use Rattle.msgpack_scalars.specs.Integer.{due_in, due, natural_of, unsigned_by, unsigned}
use Rattle.msgpack_scalars.specs.Header.{counted, header}
use Rattle.frames.specs.Held.{view, as_number, number_in, is_header, suits, number_or_bytes, value_held, held_at, number_held, place_held}
use Rattle.frames.specs.Keys.{header_items, body_items, optional, code_in, frame_at, empty_frame}
use Rattle.frames.specs.Codes.{codes, among, is_error, required}
use Rattle.frames.specs.Maps.{keyed, entry_at, entries, entries_by, entries_at, keys, has, distinct, find}
use Rattle.frames.specs.Cascade.{check, given, whole}
use Rattle.frames.specs.Reading.{refuse, accept, suited, by_places, by_entries, body_value, body_entries, broken, in_frame, size_by, size_of, by_size, frame_read}
use Rattle.msgpack_values.specs.Spoiled.{spoiled_at}
use Rattle.frame_listing.specs.Listing.{max_input}
use Rattle.frame_listing_fields.specs.Text.{text, digits, decimal}
use Rattle.frame_fault_fields.specs.Dump.{between, column, cell, cells, dump_start, dump}
use Rattle.frame_listing_fields.specs.Names.{name_in}
use Rattle.frame_fault_fields.specs.Words.{refusals, words_of}
use Rattle.frame_fault.specs.Fault.{frame_line, refused_line, place_line, own_by, fault, clean_line, report_from, report}

abbrev ping : Bytes
ping = 0x03 ∷ 0x81 ∷ 0x00 ∷ 0x40 ∷ []

-- the 32-byte select of document 001
abbrev select : Bytes
select =
    0xce ∷ 0x00 ∷ 0x00 ∷ 0x00 ∷ 0x1b ∷ 0x82 ∷ 0x01 ∷ 0x04 ∷ 0x00 ∷ 0x01 ∷ 0x86 ∷ 0x10 ∷ 0xcd ∷ 0x02 ∷ 0x00 ∷ 0x11 ∷ 0x00 ∷ 0x14 ∷ 0x00 ∷ 0x13 ∷ 0x00 ∷ 0x12 ∷ 0xce ∷ 0xff ∷ 0xff ∷ 0xff ∷ 0xff ∷ 0x20 ∷ 0x91 ∷ 0xcd ∷ 0x01 ∷ 0x18 ∷ []

-- the same, its limit's key spoiled
abbrev spoiled : Bytes
spoiled =
    0xce ∷ 0x00 ∷ 0x00 ∷ 0x00 ∷ 0x1b ∷ 0x82 ∷ 0x01 ∷ 0x04 ∷ 0x00 ∷ 0x01 ∷ 0x86 ∷ 0x10 ∷ 0xcd ∷ 0x02 ∷ 0x00 ∷ 0x11 ∷ 0x00 ∷ 0x14 ∷ 0x00 ∷ 0x13 ∷ 0x00 ∷ 0xc1 ∷ 0xce ∷ 0xff ∷ 0xff ∷ 0xff ∷ 0xff ∷ 0x20 ∷ 0x91 ∷ 0xcd ∷ 0x01 ∷ 0x18 ∷ []

-- a string of 13 bytes, of which 12 are there
abbrev short : Bytes
short = 0x0f ∷ 0x81 ∷ 0x00 ∷ 0xad ∷ 0x61 ∷ 0x61 ∷ 0x61 ∷ 0x61 ∷ 0x61 ∷ 0x61 ∷ 0x61 ∷ 0x61 ∷ 0x61 ∷ 0x61 ∷ 0x61 ∷ 0x61 ∷ []

-- arrays in arrays: the seventeenth is one too deep
abbrev deep : Bytes
deep = 0x12 ∷ 0x91 ∷ 0x91 ∷ 0x91 ∷ 0x91 ∷ 0x91 ∷ 0x91 ∷ 0x91 ∷ 0x91 ∷ 0x91 ∷ 0x91 ∷ 0x91 ∷ 0x91 ∷ 0x91 ∷ 0x91 ∷ 0x91 ∷ 0x91 ∷ 0x91 ∷ 0xc0 ∷ []

-- input, and the report
pub record Case : Type 0 where
  pub input : Bytes
  pub report : String

abbrev case : Bytes → String → Case
case s t = record { input = s; report = t }

abbrev cases : List Case
cases =
    -- the place in the second line of the second frame
    case (ping ++ spoiled) "frame    2, from byte 4 of the input\nrefused  4, a value is broken, runs past its bytes or is too deep\nplace    21, byte 25 of the input\n\n     0  ce  00  00  00  1b  82  01  04  00  01  86  10  cd  02  00  11 \n    16  00  14  00  13  00 >c1< ce  ff  ff  ff  ff  20  91  cd  01  18 \n"
    -- the end of the frame, where a value is missing; what follows is not its own
    ∷ case (0x02 ∷ 0x81 ∷ 0x00 ∷ ping) "frame    1, from byte 0 of the input\nrefused  4, a value is broken, runs past its bytes or is too deep\nplace    3, byte 3 of the input\n\n     0  02  81  00 >  <\n"
    -- the end of the frame, where a new line begins
    ∷ case (short) "frame    1, from byte 0 of the input\nrefused  4, a value is broken, runs past its bytes or is too deep\nplace    16, byte 16 of the input\n\n     0  0f  81  00  ad  61  61  61  61  61  61  61  61  61  61  61  61 \n    16 >  <\n"
    -- the container that goes one too deep
    ∷ case (ping ++ (ping ++ deep)) "frame    3, from byte 8 of the input\nrefused  4, a value is broken, runs past its bytes or is too deep\nplace    17, byte 25 of the input\n\n     0  12  91  91  91  91  91  91  91  91  91  91  91  91  91  91  91 \n    16  91 >91< c0 \n"
    -- no place: 1, with a part of its bytes; 2 and 3, with all that is left; 5
    ∷ case (take 20 select) "frame    1, from byte 0 of the input\nrefused  1, the frame has not all come\nplace    none\n\n     0  ce  00  00  00  1b  82  01  04  00  01  86  10  cd  02  00  11 \n    16  00  14  00  13 \n"
    ∷ case (ping ++ (0xa1 ∷ ping)) "frame    2, from byte 4 of the input\nrefused  2, the first byte starts no size number\nplace    none\n\n     0  a1  03  81  00  40 \n"
    ∷ case (0x00 ∷ ping) "frame    1, from byte 0 of the input\nrefused  3, the size is 0 or above 60,000\nplace    none\n\n     0  00  03  81  00  40 \n"
    ∷ case (0x05 ∷ 0x81 ∷ 0x00 ∷ 0x40 ∷ 0x80 ∷ 0x80 ∷ ping) "frame    1, from byte 0 of the input\nrefused  5, bytes remain after the body\nplace    none\n\n     0  05  81  00  40  80  80 \n"
    -- none refused
    ∷ case ([]) "frames   0, none refused\n"
    ∷ case (ping ++ (select ++ ping)) "frames   3, none refused\n"
    ∷ []

examples : map (λ (c : Case). report c.input) cases ≡ map (λ (c : Case). text c.report) cases
unfolding report report_from clean_line fault own_by place_line refused_line frame_line words_of name_in refusals dump dump_start cells cell column between decimal digits spoiled_at frame_read by_size size_of size_by in_frame broken body_entries body_value by_entries by_places suited accept refuse whole given check find distinct has keys entries_at entries_by entries entry_at keyed required is_error among codes empty_frame frame_at code_in optional header_items body_items number_held place_held held_at value_held number_or_bytes suits is_header number_in as_number view value one container too_deep by_form items sized payload sum form_of same_kind unsigned unsigned_by due due_in natural_of header counted
examples = refl

-- input that is too long, whatever it is
too_long : (s : Bytes) → leb (length s) max_input ≡ false → report s ≡ text "input    over 65,536 bytes, not read\n"
unfolding report
too_long s h = rw h
