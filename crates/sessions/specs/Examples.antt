-- Worked feeds and worked streams, computed.
use Rattle.std.specs.Prelude.{ℕ, zero, suc, ◌≡◌, refl, Bool, true, false, List, [], ◌∷◌, ◌++◌, map, take}
use Rattle.msgpack_first_bytes.specs.Bytes.{Bytes}
use Rattle.msgpack_first_bytes.specs.FirstByte.{form_of, same_kind}
use Rattle.msgpack_numbers.specs.Number.{number as sum}
use Rattle.msgpack_values.specs.Value.{value, one, container, too_deep, by_form, items, sized, payload}
use Rattle.msgpack_values.specs.Spoiled.{no_place, at_place, spoiled_at}
use Rattle.msgpack_values.specs.declared.OptionalNumber.{OptionalNumber}
use Rattle.msgpack_scalars.specs.Integer.{due_in, due, natural_of, unsigned_by, unsigned}
use Rattle.msgpack_scalars.specs.Header.{counted, header}
use Rattle.msgpack_writing.specs.Put.{put}
use Rattle.frames.specs.Held.{view, as_number, number_in, is_header, suits, number_or_bytes, value_held, held_at, number_held, place_held}
use Rattle.frames.specs.Keys.{header_items, body_items, optional, code_in, frame_at, empty_frame}
use Rattle.frames.specs.Codes.{codes, among, is_error, required}
use Rattle.frames.specs.Maps.{keyed, entry_at, entries, entries_by, entries_at, keys, has, distinct, find}
use Rattle.frames.specs.Cascade.{check, given, whole}
use Rattle.frames.specs.Reading.{refuse, accept, suited, by_places, by_entries, body_value, body_entries, broken, in_frame, size_by, size_of, by_size, frame_read}
use Rattle.sessions.specs.Session.{fresh, settled_by, idle, session_after, fed, kept, go_on, carried_on, begun, feed_of, carry_of, view_of}
use Rattle.sessions.specs.declared.Session.{Session}
use Rattle.sessions.specs.declared.SessionAnswer.{SessionAnswer}
use Rattle.sessions.specs.Cutting.{Shown, Seen, adding, frames_from, frames_of, run}

-- ---- feeds

-- so many bytes ee
abbrev filled : ℕ → Bytes
filled zero = []
filled (suc n) = 0xee ∷ filled n

pub data Step : Type 0 where
  feed : Bytes → Step
  reset : Step

-- of a feed: the number, the bytes taken, the offset, the bytes shown, the first six of the carry buffer then, and the place
pub record Line : Type 0 where
  pub number : ℕ
  pub taken : ℕ
  pub offset : ℕ
  pub shown : Bytes
  pub stands : Bytes
  pub place : OptionalNumber

abbrev line : SessionAnswer → Bytes → Bytes → Line
line a p c = record { number = a.number; taken = a.taken; offset = a.offset; shown = view_of a.in_carry a.length p c; stands = take 6 c; place = a.place }

abbrev answers : List Step → Session → Bytes → List Line
answers [] s c = []
answers (reset ∷ xs) s c = answers xs fresh c
answers (feed p ∷ xs) s c = line (feed_of s p c) p (carry_of s p c) ∷ answers xs (feed_of s p c).session (carry_of s p c)

abbrev l : ℕ → ℕ → ℕ → Bytes → Bytes → Line
l number taken offset shown stands = record { number = number; taken = taken; offset = offset; shown = shown; stands = stands; place = no_place }

-- the same with a place
abbrev at : ℕ → Line → Line
at p x = record { number = x.number; taken = x.taken; offset = x.offset; shown = x.shown; stands = x.stands; place = at_place p }

abbrev ping : Bytes
ping = 0x03 ∷ 0x81 ∷ 0x00 ∷ 0x40 ∷ []

-- a session, a carry buffer of so many bytes ee, what is done, and what each feed answers
pub record Case : Type 0 where
  pub session : Session
  pub room : ℕ
  pub steps : List Step
  pub lines : List Line

abbrev from : ℕ → ℕ → ℕ → Session
from offset held refused = record { offset = offset; held = held; refused = refused; place = no_place }

abbrev cases : List Case
cases =
    -- refused with 4 in the carry buffer, at its last byte; repeated
    record {
      session = fresh;
      room = 60009;
      steps = feed (0x02 ∷ 0xc1 ∷ []) ∷ feed (0x00 ∷ 0x03 ∷ []) ∷ feed ping ∷ feed []
          -- a ping over three pieces and an empty one; one that lies in the piece; then refused with 2 in the piece, at its first byte
          ∷ reset ∷ feed (0x03 ∷ []) ∷ feed [] ∷ feed (0x81 ∷ []) ∷ feed (0x00 ∷ 0x40 ∷ 0x03 ∷ []) ∷ feed (0x03 ∷ 0x81 ∷ 0x00 ∷ 0x40 ∷ 0xc4 ∷ []) ∷ feed (0xc4 ∷ 0x00 ∷ []) ∷ feed (0x00 ∷ [])
          -- refused with 3 in the carry buffer, at the last byte of the size number
          ∷ reset ∷ feed (0xce ∷ 0x00 ∷ 0x00 ∷ []) ∷ feed (0xea ∷ 0x61 ∷ 0x00 ∷ []) ∷ [];
      lines = l 1 2 0 [] (0x02 ∷ 0xc1 ∷ filled 4) ∷ at 1 (l 4 1 0 [] (0x02 ∷ 0xc1 ∷ 0x00 ∷ filled 3)) ∷ at 1 (l 4 0 0 [] (0x02 ∷ 0xc1 ∷ 0x00 ∷ filled 3)) ∷ at 1 (l 4 0 0 [] (0x02 ∷ 0xc1 ∷ 0x00 ∷ filled 3))
          ∷ l 1 1 0 [] (0x03 ∷ 0xc1 ∷ 0x00 ∷ filled 3) ∷ l 1 0 0 [] (0x03 ∷ 0xc1 ∷ 0x00 ∷ filled 3) ∷ l 1 1 0 [] (0x03 ∷ 0x81 ∷ 0x00 ∷ filled 3)
          ∷ l 0 2 0 ping (0x03 ∷ 0x81 ∷ 0x00 ∷ 0x40 ∷ filled 2) ∷ l 0 4 4 ping (0x03 ∷ 0x81 ∷ 0x00 ∷ 0x40 ∷ filled 2)
          ∷ l 2 1 8 [] (0x03 ∷ 0x81 ∷ 0x00 ∷ 0x40 ∷ filled 2) ∷ l 2 0 8 [] (0x03 ∷ 0x81 ∷ 0x00 ∷ 0x40 ∷ filled 2)
          ∷ l 1 3 0 [] (0xce ∷ 0x00 ∷ 0x00 ∷ 0x40 ∷ filled 2) ∷ l 3 2 0 [] (0xce ∷ 0x00 ∷ 0x00 ∷ 0xea ∷ 0x61 ∷ filled 1) ∷ [];
    }
    -- "going round from 2^64-1 to 0"
    ∷ record {
      session = from 0xfffffffffffffffe 0 0;
      room = 60009;
      steps = feed ping ∷ feed ping ∷ [];
      lines = l 0 4 0xfffffffffffffffe ping (filled 6) ∷ l 0 4 2 ping (filled 6) ∷ [];
    }
    -- 19 before a refusal that is repeated, which comes where there is room
    ∷ record { session = from 5 0 4; room = 60008; steps = feed ping ∷ []; lines = l 19 0 5 [] (filled 6) ∷ [] }
    ∷ record { session = from 5 0 4; room = 60009; steps = feed ping ∷ []; lines = l 4 0 5 [] (filled 6) ∷ [] }
    -- the second frame of a piece is refused where its bytes end; its place counts from its own start, and is repeated
    ∷ record {
      session = fresh;
      room = 60009;
      steps = feed (ping ++ (0x02 ∷ 0x81 ∷ 0x00 ∷ 0x40 ∷ [])) ∷ feed (0x02 ∷ 0x81 ∷ 0x00 ∷ 0x40 ∷ []) ∷ feed ping ∷ [];
      lines = l 0 4 0 ping (filled 6) ∷ at 3 (l 4 3 4 [] (filled 6)) ∷ at 3 (l 4 0 4 [] (filled 6)) ∷ [];
    }
    -- 19 has no place, though the session has one; that of a session that is handed in is repeated
    ∷ record { session = record { offset = 5; held = 0; refused = 4; place = at_place 3 }; room = 60008; steps = feed ping ∷ []; lines = l 19 0 5 [] (filled 6) ∷ [] }
    ∷ record { session = record { offset = 5; held = 0; refused = 4; place = at_place 3 }; room = 60009; steps = feed ping ∷ []; lines = at 3 (l 4 0 5 [] (filled 6)) ∷ [] }
    -- sessions that no feed left: more is held than there is; a number that no refusal has
    ∷ record { session = from 5 70000 0; room = 60009; steps = feed ping ∷ feed ping ∷ []; lines = l 2 0 5 [] (filled 6) ∷ l 2 0 5 [] (filled 6) ∷ [] }
    ∷ record { session = from 5 0 77; room = 60009; steps = feed ping ∷ []; lines = l 77 0 5 [] (filled 6) ∷ [] }
    ∷ []

worked : map (λ (x : Case). answers x.steps x.session (filled x.room)) cases ≡ map (λ (x : Case). x.lines) cases
unfolding feed_of carry_of begun go_on carried_on kept fed session_after idle settled_by fresh view_of put frame_read by_size size_of size_by in_frame broken spoiled_at body_entries body_value by_entries by_places suited accept refuse whole given check find distinct has keys entries_at entries_by entries entry_at keyed required is_error among codes empty_frame frame_at code_in optional header_items body_items number_held place_held held_at value_held number_or_bytes suits is_header number_in as_number view value one container too_deep by_form items sized payload sum form_of same_kind unsigned unsigned_by due due_in natural_of header counted
worked = refl

-- ---- three cuttings show the same as the uncut bytes

abbrev ping_with_sync : Bytes
ping_with_sync = 0x05 ∷ 0x82 ∷ 0x00 ∷ 0x40 ∷ 0x01 ∷ 0x07 ∷ []

-- refused with 4 at its last byte; what follows is not looked at
abbrev broken_frame : Bytes
broken_frame = 0x02 ∷ 0xc1 ∷ 0x00 ∷ []

abbrev stream : Bytes
stream = ping ++ (ping_with_sync ++ (broken_frame ++ ping))

abbrev times : ℕ → ℕ → List ℕ
times zero n = []
times (suc k) n = n ∷ times k n

-- a frame over three pieces and an empty one; two frames in one piece; a byte at a time, and on after the refusal
abbrev cuttings : List (List ℕ)
cuttings = (1 ∷ 2 ∷ 0 ∷ times 3 17) ∷ times 3 17 ∷ times 15 1 ∷ []

-- of a frame shown: its bytes, code, whether it has a sync, and offset
pub record Frame : Type 0 where
  pub bytes : Bytes
  pub code : ℕ
  pub sync : Bool
  pub offset : ℕ

abbrev frame : Shown → Frame
frame f = record { bytes = f.bytes; code = f.frame.code; sync = f.frame.sync.present; offset = f.offset }

pub record Frames : Type 0 where
  pub frames : List Frame
  pub refused : ℕ
  pub place : OptionalNumber
  pub offset : ℕ

abbrev frames : Seen → Frames
frames r = record { frames = map frame r.frames; refused = r.refused; place = r.place; offset = r.offset }

abbrev expected : Frames
expected =
    record {
      frames = record { bytes = ping; code = 0x40; sync = false; offset = 0 } ∷ record { bytes = ping_with_sync; code = 0x40; sync = true; offset = 4 } ∷ [];
      refused = 4;
      place = at_place 1;
      offset = 10;
    }

same : frames (frames_of stream) ∷ map (λ (ns : List ℕ). frames (run ns stream fresh (filled 60009)).seen) cuttings ≡ expected ∷ map (λ (ns : List ℕ). expected) cuttings
unfolding frames_of frames_from run adding feed_of carry_of begun go_on carried_on kept fed session_after idle settled_by fresh view_of put frame_read by_size size_of size_by in_frame broken spoiled_at body_entries body_value by_entries by_places suited accept refuse whole given check find distinct has keys entries_at entries_by entries entry_at keyed required is_error among codes empty_frame frame_at code_in optional header_items body_items number_held place_held held_at value_held number_or_bytes suits is_header number_in as_number view value one container too_deep by_form items sized payload sum form_of same_kind unsigned unsigned_by due due_in natural_of header counted
same = refl
