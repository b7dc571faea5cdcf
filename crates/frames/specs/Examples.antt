-- Worked cases, computed: what reading answers, by its number; a record read and written. (01's examples marked (P) stand whole in the crate known_examples.)
use Rattle.std.specs.Prelude.{ℕ, true, false, List, [], ◌∷◌, ◌++◌, map, ◌≡◌, refl, take, length}
use Rattle.msgpack_first_bytes.specs.Bytes.{Bytes}
use Rattle.msgpack_first_bytes.specs.FirstByte.{form_of, same_kind}
use Rattle.msgpack_numbers.specs.Number.{number as sum}
use Rattle.msgpack_values.specs.Value.{value, one, container, too_deep, by_form, items, sized, payload}
use Rattle.msgpack_values.specs.Pieces.{joined}
use Rattle.msgpack_values.specs.Spoiled.{no_place, at_place, spoiled_at}
use Rattle.msgpack_scalars.specs.Integer.{due_in, due, natural_of, unsigned_by, unsigned}
use Rattle.msgpack_scalars.specs.Header.{counted, header}
use Rattle.msgpack_writing.specs.Forms.{big_endian, unsigned_form, map_header}
use Rattle.msgpack_values.specs.declared.OptionalNumber.{OptionalNumber}
use Rattle.frames.specs.declared.Place.{Place}
use Rattle.frames.specs.declared.Frame.{Frame}
use Rattle.frames.specs.Held.{view, as_number, number_in, is_header, suits, number_or_bytes, value_held, held_at, number_held, place_held, encoded, is_some, locate}
use Rattle.frames.specs.Keys.{header_items, body_items, optional, code_in, frame_at, nowhere, empty_frame}
use Rattle.frames.specs.Codes.{codes, among, is_error, required}
use Rattle.frames.specs.Maps.{keyed, entry_at, entries, entries_by, entries_at, keys, has, distinct, placed, find}
use Rattle.frames.specs.Cascade.{check, given, whole}
use Rattle.frames.specs.Reading.{refuse, accept, suited, by_places, by_entries, body_value, body_entries, broken, in_frame, size_by, size_of, by_size, frame_read}
use Rattle.frames.specs.Writing.{onto, pairs, flat, map_form, contents, frame_form, is_whole, sound, each, refused, written, write_items, frame_write}

-- bytes, and the number that reading them answers
record Case : Type 0 where
  bytes : Bytes
  number : ℕ

abbrev read : Bytes → ℕ → Case
read s n = record { bytes = s; number = n }

-- the 32-byte select of document 001
abbrev select : Bytes
select =
    0xce ∷ 0x00 ∷ 0x00 ∷ 0x00 ∷ 0x1b ∷ 0x82 ∷ 0x01 ∷ 0x04 ∷ 0x00 ∷ 0x01 ∷ 0x86 ∷ 0x10 ∷ 0xcd ∷ 0x02 ∷ 0x00 ∷ 0x11 ∷ 0x00 ∷ 0x14 ∷ 0x00 ∷ 0x13 ∷ 0x00
    ∷ 0x12 ∷ 0xce ∷ 0xff ∷ 0xff ∷ 0xff ∷ 0xff ∷ 0x20 ∷ 0x91 ∷ 0xcd ∷ 0x01 ∷ 0x18 ∷ []

-- a frame whose contents are these, its size in one byte
abbrev framed : Bytes → Bytes
framed c = length c ∷ c

-- a ping's header, and a value inside 14 arrays
abbrev ping : Bytes
ping = 0x81 ∷ 0x00 ∷ 0x40 ∷ []

abbrev deep : Bytes → Bytes
deep v = 0x91 ∷ 0x91 ∷ 0x91 ∷ 0x91 ∷ 0x91 ∷ 0x91 ∷ 0x91 ∷ 0x91 ∷ 0x91 ∷ 0x91 ∷ 0x91 ∷ 0x91 ∷ 0x91 ∷ 0x91 ∷ v

abbrev cases : List Case
cases =
    -- no size number; sizes that are impossible, though nothing follows; the greatest
    read [] 1
    ∷ read (0xe0 ∷ []) 2
    ∷ read (0x00 ∷ []) 3
    ∷ read (0xce ∷ 0x00 ∷ 0x00 ∷ 0xea ∷ 0x61 ∷ []) 3
    ∷ read (0xce ∷ 0x00 ∷ 0x00 ∷ 0xea ∷ 0x60 ∷ []) 1
    -- the select; its last byte cut off; more bytes after it
    ∷ read select 0
    ∷ read (take 31 select) 1
    ∷ read (select ++ (0xc1 ∷ [])) 0
    -- 001: a response to an insert, and a heartbeat's answer with its size put before it
    ∷ read
    (0xce ∷ 0x00 ∷ 0x00 ∷ 0x00 ∷ 0x20 ∷ 0x83 ∷ 0x00 ∷ 0xce ∷ 0x00 ∷ 0x00 ∷ 0x00 ∷ 0x00 ∷ 0x01 ∷ 0xcf ∷ 0x00 ∷ 0x00 ∷ 0x00 ∷ 0x00 ∷ 0x00 ∷ 0x00 ∷ 0x00
    ∷ 0x53 ∷ 0x05 ∷ 0xce ∷ 0x00 ∷ 0x00 ∷ 0x00 ∷ 0x68 ∷ 0x81 ∷ 0x30 ∷ 0xdd ∷ 0x00 ∷ 0x00 ∷ 0x00 ∷ 0x01 ∷ 0x91 ∷ 0x06 ∷ []) 0
    ∷ read (framed (0x81 ∷ 0x00 ∷ 0x00 ∷ 0x83 ∷ 0x26 ∷ 0x81 ∷ 0x01 ∷ 0x06 ∷ 0x5a ∷ 0x14 ∷ 0x53 ∷ 0x31 ∷ [])) 0
    -- a missing body counts as an empty map
    ∷ read (framed ping) 0
    ∷ read (framed (ping ++ (0x80 ∷ []))) 0
    -- the size number, in any width, cut short; contents that are missing though they would be refused
    ∷ read (0xcd ∷ 0x00 ∷ 0x03 ∷ ping) 0
    ∷ read (0xcd ∷ 0x00 ∷ []) 1
    ∷ read (0xcf ∷ 0x00 ∷ 0x00 ∷ 0x00 ∷ 0x01 ∷ 0x00 ∷ 0x00 ∷ 0x00 ∷ 0x00 ∷ []) 3
    ∷ read (0x02 ∷ 0xc1 ∷ []) 1
    -- 4: broken, past the frame though more bytes are lent, too deep (in the header, in the body)
    ∷ read (framed (0xc1 ∷ [])) 4
    ∷ read (framed (0x81 ∷ 0x00 ∷ []) ++ (0x40 ∷ 0x80 ∷ [])) 4
    ∷ read (framed (0x82 ∷ 0x00 ∷ 0x40 ∷ 0x50 ∷ deep (0x90 ∷ []))) 0
    ∷ read (framed (0x82 ∷ 0x00 ∷ 0x40 ∷ 0x50 ∷ deep (0x91 ∷ 0x90 ∷ []))) 4
    ∷ read (framed (ping ++ (0x81 ∷ 0x50 ∷ deep (0x91 ∷ 0x90 ∷ [])))) 4
    -- 4 in the body comes before 6 in the header, 5 before 6
    ∷ read (framed (0x90 ∷ 0xc1 ∷ [])) 4
    ∷ read (framed (0x90 ∷ 0x80 ∷ 0x00 ∷ [])) 5
    -- 6: no map; a key of 128, one that is signed, one that is no number. 6 in the body comes before 7 in the header
    ∷ read (framed (0x01 ∷ [])) 6
    ∷ read (framed (ping ++ (0x01 ∷ []))) 6
    ∷ read (framed (ping ++ (0x81 ∷ 0xcc ∷ 0x7f ∷ 0x00 ∷ []))) 0
    ∷ read (framed (ping ++ (0x81 ∷ 0xcc ∷ 0x80 ∷ 0x00 ∷ []))) 6
    ∷ read (framed (ping ++ (0x81 ∷ 0xd0 ∷ 0x10 ∷ 0x00 ∷ []))) 6
    ∷ read (framed (ping ++ (0x81 ∷ 0xa0 ∷ 0x00 ∷ []))) 6
    ∷ read (framed (0x82 ∷ 0x00 ∷ 0x40 ∷ 0x00 ∷ 0x40 ∷ 0x81 ∷ 0xff ∷ 0x00 ∷ [])) 6
    -- 7: twice in the header, twice in another width in the body, also an unknown key; once in each is once
    ∷ read (framed (0x82 ∷ 0x00 ∷ 0x40 ∷ 0x00 ∷ 0x40 ∷ [])) 7
    ∷ read (framed (ping ++ (0x82 ∷ 0x50 ∷ 0x00 ∷ 0xcd ∷ 0x00 ∷ 0x50 ∷ 0x00 ∷ []))) 7
    ∷ read (framed (ping ++ (0x81 ∷ 0x00 ∷ 0x00 ∷ []))) 0
    -- 7 comes before 8; 8: absent, not unsigned, unknown; 8 before 9
    ∷ read (framed (0x82 ∷ 0x50 ∷ 0x00 ∷ 0x50 ∷ 0x00 ∷ [])) 7
    ∷ read (framed (0x80 ∷ [])) 8
    ∷ read (framed (0x81 ∷ 0x00 ∷ 0xd0 ∷ 0x40 ∷ [])) 8
    ∷ read (framed (0x81 ∷ 0x00 ∷ 0x0b ∷ [])) 8
    ∷ read (framed (0x81 ∷ 0x00 ∷ 0xcd ∷ 0x90 ∷ 0x00 ∷ 0x81 ∷ 0x31 ∷ 0xa0 ∷ [])) 8
    ∷ read (framed (0x82 ∷ 0x00 ∷ 0x0b ∷ 0x01 ∷ 0xa0 ∷ [])) 8
    -- 9: a sync, an index base, a space, a tuple, a function; in a kind that does not use them; before 10
    ∷ read (framed (0x82 ∷ 0x00 ∷ 0x40 ∷ 0x01 ∷ 0xff ∷ [])) 9
    ∷ read (framed (ping ++ (0x81 ∷ 0x15 ∷ 0x02 ∷ []))) 9
    ∷ read (framed (ping ++ (0x81 ∷ 0x10 ∷ 0xcf ∷ 0x00 ∷ 0x00 ∷ 0x00 ∷ 0x01 ∷ 0x00 ∷ 0x00 ∷ 0x00 ∷ 0x00 ∷ []))) 9
    ∷ read (framed (0x81 ∷ 0x00 ∷ 0x01 ∷ 0x81 ∷ 0x21 ∷ 0x80 ∷ [])) 9
    ∷ read (framed (ping ++ (0x81 ∷ 0x22 ∷ 0xc4 ∷ 0x00 ∷ []))) 9
    -- body keys in a header are unknown there
    ∷ read (framed (0x82 ∷ 0x00 ∷ 0x40 ∷ 0x15 ∷ 0x02 ∷ [])) 0
    -- 10, and an error with its text
    ∷ read (framed (0x81 ∷ 0x00 ∷ 0x01 ∷ [])) 10
    ∷ read (framed (0x81 ∷ 0x00 ∷ 0xcd ∷ 0x8f ∷ 0xff ∷ [])) 10
    ∷ read (framed (0x81 ∷ 0x00 ∷ 0xcd ∷ 0x8f ∷ 0xff ∷ 0x81 ∷ 0x31 ∷ 0xa0 ∷ [])) 0
    -- select, update and delete without index, offset and iterator; 10 for each other key, 9 for an index that is no number
    ∷ read (framed (0x81 ∷ 0x00 ∷ 0x01 ∷ 0x83 ∷ 0x10 ∷ 0x01 ∷ 0x12 ∷ 0x02 ∷ 0x20 ∷ 0x90 ∷ [])) 0
    ∷ read (framed (0x81 ∷ 0x00 ∷ 0x01 ∷ 0x82 ∷ 0x12 ∷ 0x02 ∷ 0x20 ∷ 0x90 ∷ [])) 10
    ∷ read (framed (0x81 ∷ 0x00 ∷ 0x01 ∷ 0x82 ∷ 0x10 ∷ 0x01 ∷ 0x20 ∷ 0x90 ∷ [])) 10
    ∷ read (framed (0x81 ∷ 0x00 ∷ 0x01 ∷ 0x82 ∷ 0x10 ∷ 0x01 ∷ 0x12 ∷ 0x02 ∷ [])) 10
    ∷ read (framed (0x81 ∷ 0x00 ∷ 0x01 ∷ 0x84 ∷ 0x10 ∷ 0x01 ∷ 0x11 ∷ 0xa0 ∷ 0x12 ∷ 0x02 ∷ 0x20 ∷ 0x90 ∷ [])) 9
    ∷ read (framed (0x81 ∷ 0x00 ∷ 0x04 ∷ 0x83 ∷ 0x10 ∷ 0x01 ∷ 0x20 ∷ 0x90 ∷ 0x21 ∷ 0x90 ∷ [])) 0
    ∷ read (framed (0x81 ∷ 0x00 ∷ 0x04 ∷ 0x82 ∷ 0x20 ∷ 0x90 ∷ 0x21 ∷ 0x90 ∷ [])) 10
    ∷ read (framed (0x81 ∷ 0x00 ∷ 0x04 ∷ 0x82 ∷ 0x10 ∷ 0x01 ∷ 0x21 ∷ 0x90 ∷ [])) 10
    ∷ read (framed (0x81 ∷ 0x00 ∷ 0x04 ∷ 0x82 ∷ 0x10 ∷ 0x01 ∷ 0x20 ∷ 0x90 ∷ [])) 10
    ∷ read (framed (0x81 ∷ 0x00 ∷ 0x05 ∷ 0x82 ∷ 0x10 ∷ 0x01 ∷ 0x20 ∷ 0x90 ∷ [])) 0
    ∷ read (framed (0x81 ∷ 0x00 ∷ 0x05 ∷ 0x82 ∷ 0x11 ∷ 0x00 ∷ 0x20 ∷ 0x90 ∷ [])) 10
    ∷ read (framed (0x81 ∷ 0x00 ∷ 0x05 ∷ 0x82 ∷ 0x10 ∷ 0x01 ∷ 0x11 ∷ 0x00 ∷ [])) 10
    ∷ []

examples : map (λ (c : Case). (frame_read c.bytes).number) cases ≡ map (λ (c : Case). c.number) cases
unfolding frame_read by_size size_of size_by in_frame broken body_entries body_value by_entries by_places suited accept refuse whole given check find distinct has keys entries_at entries_by entries entry_at keyed required is_error among codes empty_frame frame_at code_in optional header_items body_items number_held place_held held_at value_held number_or_bytes suits is_header number_in as_number view value one container too_deep by_form items sized payload sum form_of same_kind unsigned unsigned_by due due_in natural_of header counted
examples = refl

-- ---- "A frame refused with 4 gives that place, counted from the frame's start"

-- bytes, and the place that reading them answers
record Spoiled : Type 0 where
  bytes : Bytes
  place : OptionalNumber

abbrev at : Bytes → ℕ → Spoiled
at s p = record { bytes = s; place = at_place p }

abbrev nothing : Bytes → Spoiled
nothing s = record { bytes = s; place = no_place }

abbrev spoiled : List Spoiled
spoiled =
    -- the header's first byte, after a size number of one byte, of five and of nine
    at (framed (0xc1 ∷ [])) 1
    ∷ at (0xce ∷ 0x00 ∷ 0x00 ∷ 0x00 ∷ 0x02 ∷ 0xc1 ∷ 0xc1 ∷ []) 5
    ∷ at (0xcf ∷ 0x00 ∷ 0x00 ∷ 0x00 ∷ 0x00 ∷ 0x00 ∷ 0x00 ∷ 0x00 ∷ 0x01 ∷ 0xc1 ∷ []) 9
    -- the end of the frame that its size promises, though more bytes are lent; also where an unused one stands next
    ∷ at (framed (0x81 ∷ 0x00 ∷ []) ++ (0x40 ∷ 0x80 ∷ [])) 3
    ∷ at (framed (0x81 ∷ 0x00 ∷ []) ++ (0xc1 ∷ [])) 3
    ∷ at (framed (0xa3 ∷ 0x61 ∷ []) ++ (0x62 ∷ [])) 3
    ∷ at (framed (ping ++ (0x81 ∷ 0x50 ∷ 0xa3 ∷ 0x61 ∷ [])) ++ ping) 8
    -- in the body, and the container that goes one too deep, in either
    ∷ at (framed (ping ++ (0x81 ∷ 0x50 ∷ 0xc1 ∷ []))) 6
    ∷ at (framed (0x82 ∷ 0x00 ∷ 0x40 ∷ 0x50 ∷ deep (0x91 ∷ 0x90 ∷ []))) 20
    ∷ at (framed (ping ++ (0x81 ∷ 0x50 ∷ deep (0x91 ∷ 0x90 ∷ [])))) 21
    -- the header is no map, but whole: the place is the body's
    ∷ at (framed (0x90 ∷ 0xc1 ∷ [])) 2
    -- no other refusal has a place, and no frame that is read
    ∷ nothing []
    ∷ nothing (0xc1 ∷ [])
    ∷ nothing (0x00 ∷ [])
    ∷ nothing (0x02 ∷ 0xc1 ∷ [])
    ∷ nothing (framed (0x90 ∷ 0x80 ∷ 0xc1 ∷ []))
    ∷ nothing (framed (0x01 ∷ []))
    ∷ nothing (framed (0x80 ∷ []))
    ∷ nothing (framed ping ++ (0xc1 ∷ []))
    ∷ []

places : map (λ (c : Spoiled). (frame_read c.bytes).place) spoiled ≡ map (λ (c : Spoiled). c.place) spoiled
unfolding frame_read by_size size_of size_by in_frame broken spoiled_at body_entries body_value by_entries by_places suited accept refuse whole given check find distinct has keys entries_at entries_by entries entry_at keyed required is_error among codes empty_frame frame_at code_in optional header_items body_items number_held place_held held_at value_held number_or_bytes suits is_header number_in as_number view value one container too_deep by_form items sized payload sum form_of same_kind unsigned unsigned_by due due_in natural_of header counted
places = refl

-- ---- a record read, and written with its keys rising

abbrev is : ℕ → OptionalNumber
is n = record { present = true; value = n }

abbrev is_not : OptionalNumber
is_not = record { present = false; value = 0 }

-- a select of space 512 with its sync, limit and key; index, offset and iterator alike
abbrev select_of : OptionalNumber → OptionalNumber → ℕ → Place → Frame
select_of sync three limit key =
    record {
      code = 1;
      sync = sync;
      schema_version = is_not;
      space = is 512;
      index = three;
      limit = is limit;
      offset = three;
      iterator = three;
      index_base = is_not;
      key = key;
      tuple = nowhere;
      function = nowhere;
      user = nowhere;
      expression = nowhere;
      ops = nowhere;
      «data» = nowhere;
      error = nowhere;
    }

-- "is read with sync 4, space 512, limit 4,294,967,295"
abbrev selected : Frame
selected = select_of (is 4) (is 0) 4294967295 (placed 28 4)

-- one without index, offset and iterator: "the record still says that it was absent"
abbrev short : Bytes
short = 0xce ∷ 0x00 ∷ 0x00 ∷ 0x00 ∷ 0x0d ∷ 0x81 ∷ 0x00 ∷ 0x01 ∷ 0x83 ∷ 0x10 ∷ 0xcd ∷ 0x02 ∷ 0x00 ∷ 0x12 ∷ 0x05 ∷ 0x20 ∷ 0x91 ∷ 0x07 ∷ []

abbrev short_selected : Frame
short_selected = select_of is_not is_not 5 (placed 16 2)

select_read : (frame_read select ≡ accept 32 selected) × (frame_read short ≡ accept 18 short_selected)
unfolding frame_read by_size size_of size_by in_frame broken body_entries body_value by_entries by_places suited refuse whole given check find distinct has keys entries_at entries_by entries entry_at keyed required is_error among codes empty_frame frame_at code_in optional header_items body_items number_held place_held held_at value_held number_or_bytes suits is_header number_in as_number view value one container too_deep by_form items sized payload sum form_of same_kind unsigned unsigned_by due due_in natural_of header counted
select_read = (refl, refl)

abbrev rising : Bytes
rising =
    0xce ∷ 0x00 ∷ 0x00 ∷ 0x00 ∷ 0x1b ∷ 0x82 ∷ 0x00 ∷ 0x01 ∷ 0x01 ∷ 0x04 ∷ 0x86 ∷ 0x10 ∷ 0xcd ∷ 0x02 ∷ 0x00 ∷ 0x11 ∷ 0x00 ∷ 0x12 ∷ 0xce ∷ 0xff ∷ 0xff
    ∷ 0xff ∷ 0xff ∷ 0x13 ∷ 0x00 ∷ 0x14 ∷ 0x00 ∷ 0x20 ∷ 0x91 ∷ 0xcd ∷ 0x01 ∷ 0x18 ∷ []

-- "so that writing it again leaves it out"
select-written : (frame_write selected select 32 ≡ written rising) × (frame_write selected select 31 ≡ refused 18) × (frame_write short_selected short 18 ≡ written short)
unfolding frame_write write_items each sound is_whole frame_form contents map_form flat pairs onto given check required is_error among codes header_items body_items number_held place_held suits is_header view encoded is_some locate value one container too_deep by_form items sized payload sum form_of same_kind header counted joined big_endian unsigned_form map_header
select-written = (refl, refl, refl)
