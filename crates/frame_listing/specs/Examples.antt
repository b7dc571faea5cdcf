-- Worked cases, computed.
use Rattle.std.specs.Prelude.{false, List, [], ◌∷◌, ◌++◌, map, ◌≡◌, refl, leb, length, take}
use Prim.Native.String.{String}
use Rattle.msgpack_first_bytes.specs.Bytes.{Bytes}
use Rattle.msgpack_first_bytes.specs.FirstByte.{form_of, same_kind}
use Rattle.msgpack_numbers.specs.Number.{number as sum}
use Rattle.msgpack_values.specs.Value.{value, one, container, too_deep, by_form, items, sized, payload}
use Rattle.msgpack_scalars.specs.Integer.{due_in, due, natural_of, unsigned_by, unsigned}
use Rattle.msgpack_scalars.specs.Header.{counted, header}
use Rattle.frames.specs.Held.{view, as_number, number_in, is_header, suits, number_or_bytes, value_held, held_at, number_held, place_held}
use Rattle.frames.specs.Keys.{header_items, body_items, optional, code_in, frame_at, empty_frame}
use Rattle.frames.specs.Codes.{codes, among, is_error, required}
use Rattle.frames.specs.Maps.{keyed, entry_at, entries, entries_by, entries_at, keys, has, distinct, find}
use Rattle.frames.specs.Cascade.{check, given, whole}
use Rattle.frames.specs.Reading.{refuse, accept, suited, by_places, by_entries, body_value, body_entries, broken, in_frame, size_by, size_of, by_size, frame_read}
use Rattle.frame_listing_fields.specs.Text.{text, digits, decimal}
use Rattle.frame_listing_fields.specs.Names.{names, name_in, kind_of}
use Rattle.frame_listing_fields.specs.Sync.{sync_text}
use Rattle.frame_listing.specs.Listing.{max_input, heading, frame_line, last_line, refused_line, lines, listing}

-- the 32-byte select of document 001
abbrev select : Bytes
select =
    0xce ∷ 0x00 ∷ 0x00 ∷ 0x00 ∷ 0x1b ∷ 0x82 ∷ 0x01 ∷ 0x04 ∷ 0x00 ∷ 0x01 ∷ 0x86 ∷ 0x10 ∷ 0xcd ∷ 0x02 ∷ 0x00 ∷ 0x11 ∷ 0x00 ∷ 0x14 ∷ 0x00 ∷ 0x13 ∷ 0x00
    ∷ 0x12 ∷ 0xce ∷ 0xff ∷ 0xff ∷ 0xff ∷ 0xff ∷ 0x20 ∷ 0x91 ∷ 0xcd ∷ 0x01 ∷ 0x18 ∷ []

-- "For that select and one more byte `ce`, whole"
as_in_01 : listing (select ++ (0xce ∷ [])) ≡ text "frame\tkind\tsync\tbytes\n1\tselect\t4\t32\nend\tincomplete\t1\n"
unfolding listing lines refused_line last_line frame_line sync_text heading kind_of name_in names decimal digits frame_read by_size size_of size_by in_frame broken body_entries body_value by_entries by_places suited accept refuse whole given check find distinct has keys entries_at entries_by entries entry_at keyed required is_error among codes empty_frame frame_at code_in optional header_items body_items number_held place_held held_at value_held number_or_bytes suits is_header number_in as_number view value one container too_deep by_form items sized payload sum form_of same_kind unsigned unsigned_by due due_in natural_of header counted
as_in_01 = refl

-- input, and the lines after the first
pub record Case : Type 0 where
  pub input : Bytes
  pub lines : String

abbrev case : Bytes → String → Case
case s t = record { input = s; lines = t }

abbrev ping : Bytes
ping = 0x03 ∷ 0x81 ∷ 0x00 ∷ 0x40 ∷ []

abbrev cases : List Case
cases =
    case [] "end\tclean\t0\n"
    ∷ case ping "1\tping\t-\t4\nend\tclean\t0\n"
    ∷ case (select ++ ping) "1\tselect\t4\t32\n2\tping\t-\t4\nend\tclean\t0\n"
    -- 3, though nothing follows; and 1
    ∷ case (ping ++ (0xce ∷ 0x00 ∷ 0x00 ∷ 0xea ∷ 0x61 ∷ [])) "1\tping\t-\t4\nend\trefused\t3\n"
    ∷ case (ping ++ (0xce ∷ 0x00 ∷ 0x00 ∷ 0xea ∷ 0x60 ∷ [])) "1\tping\t-\t4\nend\tincomplete\t5\n"
    -- a frame of which a part is there, and bytes after a refused frame, which are not looked at
    ∷ case (take 31 select) "end\tincomplete\t31\n"
    ∷ case (0x02 ∷ 0xc1 ∷ 0xc1 ∷ ping) "end\trefused\t4\n"
    -- the longest sync, and an error
    ∷ case (0x0d ∷ 0x82 ∷ 0x00 ∷ 0x40 ∷ 0x01 ∷ 0xcf ∷ 0xff ∷ 0xff ∷ 0xff ∷ 0xff ∷ 0xff ∷ 0xff ∷ 0xff ∷ 0xff ∷ []) "1\tping\t18446744073709551615\t14\nend\tclean\t0\n"
    ∷ case (0x08 ∷ 0x81 ∷ 0x00 ∷ 0xcd ∷ 0x8f ∷ 0xff ∷ 0x81 ∷ 0x31 ∷ 0xa0 ∷ []) "1\terror\t-\t9\nend\tclean\t0\n"
    ∷ []

examples : map (λ (c : Case). listing c.input) cases ≡ map (λ (c : Case). heading ++ text c.lines) cases
unfolding listing lines refused_line last_line frame_line sync_text heading kind_of name_in names decimal digits frame_read by_size size_of size_by in_frame broken body_entries body_value by_entries by_places suited accept refuse whole given check find distinct has keys entries_at entries_by entries entry_at keyed required is_error among codes empty_frame frame_at code_in optional header_items body_items number_held place_held held_at value_held number_or_bytes suits is_header number_in as_number view value one container too_deep by_form items sized payload sum form_of same_kind unsigned unsigned_by due due_in natural_of header counted
examples = refl

-- input that is too long, whatever it is
too_long : (s : Bytes) → leb (length s) max_input ≡ false → listing s ≡ text "frame\tkind\tsync\tbytes\nend\tlong\t65536\n"
unfolding listing heading last_line decimal digits
too_long s h = rw h
