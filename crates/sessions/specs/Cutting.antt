-- The same bytes, cut in any way. Document 02, 1/12: "From an opening or reset, each feed given the session the last one left and a piece from
-- the first byte not yet taken, carry buffer untouched between feeds, until all is taken or a frame refused, cutting the same bytes elsewhere
-- gives the same frames and the same refusal at the same offset".
use Rattle.std.specs.Prelude.{ℕ, zero, suc, ◌+◌, ◌-◌, ◌≤◌, ◌≡◌, ◌⊎◌, List, [], ◌∷◌, eqb, length, take, drop}
use Rattle.msgpack_first_bytes.specs.Bytes.{Bytes, pick}
use Rattle.msgpack_values.specs.Spoiled.{no_place}
use Rattle.msgpack_values.specs.declared.OptionalNumber.{OptionalNumber}
use Rattle.frames.specs.Reading.{frame_read}
use Rattle.frames.specs.declared.Frame.{Frame}
use Rattle.frames.specs.declared.FrameAnswer.{FrameAnswer}
use Rattle.sessions.specs.Session.{carry_room, round, fresh, feed_of, carry_of, view_of}
use Rattle.sessions.specs.declared.Session.{Session}
use Rattle.sessions.specs.declared.SessionAnswer.{SessionAnswer}

-- a frame as it is shown: its bytes, its record, and the offset at which it begins
pub record Shown : Type 0 where
  pub bytes : Bytes
  pub frame : Frame
  pub offset : ℕ

-- the frames in their order; then the number of a refused one, or 0, and its place; and the offset then, the length of all these frames,
-- going round
pub record Seen : Type 0 where
  pub frames : List Shown
  pub refused : ℕ
  pub place : OptionalNumber
  pub offset : ℕ

abbrev pub none : ℕ → OptionalNumber → ℕ → Seen
none n p o = record { frames = []; refused = n; place = p; offset = o }

abbrev pub before : Shown → Seen → Seen
before f r = record { frames = f ∷ r.frames; refused = r.refused; place = r.place; offset = r.offset }

-- ---- the uncut bytes, one frame after the other as `frame_read` reads it

-- what is shown after frames of o bytes in all; of the bytes here, the first k belong to the last of them and are passed over
-- "offset, which is the length of all frames answered since then, going round from 2^64-1 to 0"
unfoldable pub frames_from : ℕ → ℕ → Bytes → Seen
frames_from k o [] = none 0 no_place (round o)
frames_from (suc k) o (b ∷ s) = frames_from k o s
frames_from zero o (b ∷ s) =
    let a : FrameAnswer = frame_read (b ∷ s) in
    pick (eqb a.number 0)
    (before (record { bytes = take a.length (b ∷ s); frame = a.frame; offset = round o }) (frames_from (a.length - 1) (o + a.length) s))
    (pick (eqb a.number 1) (none 0 no_place (round o)) (none a.number a.place (round o)))

unfoldable pub frames_of : Bytes → Seen
frames_of s = frames_from 0 0 s

-- ---- a run of feeds

-- what it shows, and how many bytes it takes
pub record Run : Type 0 where
  pub seen : Seen
  pub taken : ℕ

-- an answer to the piece p, which leaves the carry buffer c, and then the run r: a frame is shown, a begun one is not yet, a refused one ends it
unfoldable pub adding : SessionAnswer → Bytes → Bytes → Run → Run
adding a p c r =
    record {
      seen = pick (eqb a.number 0)
          (before (record { bytes = view_of a.in_carry a.length p c; frame = a.frame; offset = a.offset }) r.seen)
          (pick (eqb a.number 1) r.seen (none a.number a.place a.offset));
      taken = a.taken + r.taken;
    }

-- the bytes b by pieces, one number for each feed: how many bytes its piece has, of those not yet taken; none, and more than there are, are allowed
unfoldable pub run : List ℕ → Bytes → Session → Bytes → Run
run [] b s c = record { seen = none 0 no_place s.offset; taken = 0 }
run (n ∷ ns) b s c =
    let p : Bytes = take n b in
    let a : SessionAnswer = feed_of s p c in
    adding a p (carry_of s p c) (run ns (drop a.taken b) a.session (carry_of s p c))

-- "until all is taken or a frame refused"
abbrev pub Finished : Bytes → Run → Type 0
Finished b r = (length b ≤ r.taken) ⊎ (r.seen.refused ≡ 0 → ⊥)

-- from an opening or a reset: what was shown is at each time what the bytes taken show, and at the end what all of them show
pub record Faithful (ns : List ℕ) (b c : Bytes) : Type 0 where
  pub so_far : (run ns b fresh c).seen ≡ frames_of (take (run ns b fresh c).taken b)
  pub at_end : Finished b (run ns b fresh c) → (run ns b fresh c).seen ≡ frames_of b

abbrev pub EveryCutting : Type 0
EveryCutting = (ns : List ℕ) (b c : Bytes) → carry_room ≤ length c → Faithful ns b c

-- "cutting the same bytes elsewhere gives the same"
abbrev pub AnyTwo : Type 0
AnyTwo = (ns ms : List ℕ) (b c d : Bytes) → carry_room ≤ length c → carry_room ≤ length d
    → Finished b (run ns b fresh c) → Finished b (run ms b fresh d) → (run ns b fresh c).seen ≡ (run ms b fresh d).seen
