-- "Reading what was written gives the same numbers and the same bytes per view. A frame the writer made is written again identically."
use Rattle.std.specs.Prelude.{◌≤◌, ◌≡◌, ◌++◌, length, take, drop}
use Rattle.msgpack_first_bytes.specs.Bytes.{Bytes}
use Rattle.frames.specs.declared.Frame.{Frame}
use Rattle.frames.specs.Keys.{header_items, body_items}
use Rattle.frames.specs.Reading.{frame_read}
use Rattle.frames.specs.Writing.{frame_write_call}

-- w was written of the record r, whose places are of the bytes s. Items hold a record's numbers and, of each place, the bytes of its view
pub record RoundTrip (r : Frame) (s w : Bytes) : Type 0 where
  pub accepted : (frame_read w).number ≡ 0
  pub whole : (frame_read w).length ≡ length w
  pub header : header_items (frame_read w).frame ≡ header_items r
  pub body : body_items (frame_read w).frame w ≡ body_items r s
  -- wherever it stands at the front: what follows does not matter
  pub followed : (t : Bytes) → frame_read (w ++ t) ≡ frame_read w
  pub again : (old : Bytes) → length w ≤ length old
      → frame_write_call (frame_read w).frame w old ≡ record { number = 0; length = length w; buffer = w ++ drop (length w) old }

-- for every record, the bytes of its places and every lent buffer: what the call wrote, where it answers 0
abbrev pub RoundTrips : Type 0
RoundTrips =
    (r : Frame) (s old : Bytes) → (frame_write_call r s old).number ≡ 0
    → RoundTrip r s (take (frame_write_call r s old).length (frame_write_call r s old).buffer)
