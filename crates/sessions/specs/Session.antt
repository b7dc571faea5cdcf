-- A session. Document 02, 1/12: "a session that is fed bytes as they come and answers frame by frame, with the count of bytes it took."
use Rattle.std.specs.Prelude.{ℕ, ◌+◌, ◌-◌, ◌%◌, ◌^◌, Bool, false, ◌&&◌, not, [], ◌++◌, ltb, eqb, length, take, Ok, Err}
use Rattle.msgpack_first_bytes.specs.Bytes.{Bytes, pick}
use Rattle.msgpack_values.specs.Spoiled.{no_place}
use Rattle.msgpack_values.specs.declared.OptionalNumber.{OptionalNumber}
use Rattle.msgpack_writing.specs.Put.{put}
use Rattle.frames.specs.Keys.{empty_frame}
use Rattle.frames.specs.Reading.{size_of, frame_read, Size}
use Rattle.frames.specs.declared.FrameAnswer.{FrameAnswer}
use Rattle.sessions.specs.declared.Session.{Session}
use Rattle.sessions.specs.declared.SessionOpening.{SessionOpening}
use Rattle.sessions.specs.declared.SessionAnswer.{SessionAnswer}

-- "19, a carry buffer under 60,009 bytes"; `src/lib.rt` has the same as a constant
abbrev pub carry_room : ℕ
carry_room = 60009

-- "going round from 2^64-1 to 0"
abbrev pub round : ℕ → ℕ
round n = n % 2 ^ 64

-- "an opening or reset"; "a reset, which drops the begun frame"
unfoldable pub fresh : Session
fresh = record { offset = 0; held = 0; refused = 0; place = no_place }

unfoldable pub opening : Bytes → SessionOpening
opening c = record { number = pick (ltb (length c) carry_room) 19 0; session = fresh }

-- "takes up to the byte that settles it: first for 2, size's last for 3, frame's last otherwise": how many bytes these are
unfoldable pub settled_by : Size → ℕ
settled_by (Ok (n, k)) = k + n
settled_by (Err (n, k)) = k

-- "repeats that answer, takes 0 bytes and changes nothing", its place too; 19 too takes and changes nothing
unfoldable pub idle : ℕ → OptionalNumber → Session → SessionAnswer
idle n p s = record { number = n; in_carry = false; taken = 0; offset = s.offset; length = 0; frame = empty_frame; session = s; place = p }

-- ---- the frame at hand: so many bytes of it were held and so many arrived, the first `stop` of all these settle it, and reading them answers a

-- "offset, which is the length of all frames answered since then": a frame that is answered is counted, and held no more
-- one not settled yet "goes on"; of a refused one number and place are kept, and its bytes where they are in the carry buffer
unfoldable pub session_after : Session → ℕ → ℕ → ℕ → ℕ → ℕ → OptionalNumber → Session
session_after s held arrived stop number size place =
    pick (eqb number 0) (record { offset = round (s.offset + size); held = 0; refused = 0; place = no_place })
    (pick (eqb number 1) (record { offset = s.offset; held = held + arrived; refused = 0; place = no_place })
    (record { offset = s.offset; held = pick (eqb held 0) 0 stop; refused = number; place = place }))

-- "a feed that can't settle its frame yet answers 1, takes all": reading its bytes answers 1
-- 02, 3/12: "A frame refused with 4 gives that place": as reading it gives it
unfoldable pub fed : Session → ℕ → ℕ → ℕ → FrameAnswer → SessionAnswer
fed s held arrived stop a =
    record {
      number = a.number;
      in_carry = eqb a.number 0 && ltb 0 held;
      taken = pick (eqb a.number 1) arrived (stop - held);
      offset = s.offset;
      length = a.length;
      frame = a.frame;
      session = session_after s held arrived stop a.number a.length a.place;
      place = a.place;
    }

-- "The taken bytes of a frame not settled in its first piece stand at the carry buffer's start, refused or not;
-- demand 1 allows this one change, and the rest of it keeps its bytes."
unfoldable pub kept : ℕ → Bytes → ℕ → Bool → Bytes → Bytes
kept held p stop settled c = put held (pick settled (pick (eqb held 0) [] (take (stop - held) p)) p) c

-- ---- a feed: b is the begun frame, p the piece, c the carry buffer

-- "Demand 2 reads per frame": the begun frame and the piece are read as one
unfoldable pub go_on : Session → Bytes → Bytes → SessionAnswer
go_on s b p = fed s (length b) (length p) (settled_by (size_of (b ++ p))) (frame_read (b ++ p))

-- what it leaves in the carry buffer; a frame is settled where reading does not answer 1
unfoldable pub carried_on : Bytes → Bytes → Bytes → Bytes
carried_on b p c = kept (length b) p (settled_by (size_of (b ++ p))) (not (eqb (frame_read (b ++ p)).number 1)) c

-- the begun frame stands "at the carry buffer's start"
unfoldable pub begun : Session → Bytes → Bytes
begun s c = take s.held c

-- "19, ... at opening or feed, before all others, changing nothing"; "After a refused frame each feed repeats that answer"
unfoldable pub feed_of : Session → Bytes → Bytes → SessionAnswer
feed_of s p c =
    pick (ltb (length c) carry_room) (idle 19 no_place s)
    (pick (eqb s.refused 0) (go_on s (begun s c) p) (idle s.refused s.place s))

-- ".. takes 0 bytes and changes nothing": the carry buffer after the feed, in the same three cases
unfoldable pub carry_of : Session → Bytes → Bytes → Bytes
carry_of s p c =
    pick (ltb (length c) carry_room) c
    (pick (eqb s.refused 0) (carried_on (begun s c) p c) c)

-- "A frame that lies whole in the new piece is shown there; one begun earlier is shown from the carry buffer we lend."
unfoldable pub view_of : Bool → ℕ → Bytes → Bytes → Bytes
view_of in_carry n p c = take n (pick in_carry c p)
