-- Document 02, 2/12: "The frames refused only for this are now read". Reading and writing held against the required keys of document 01.
use Rattle.std.specs.Prelude.{ℕ, ◌≡◌, Bool, true, false, not, ◌&&◌, ◌||◌, List, [], ◌∷◌, eqb}
use Rattle.std.proofs.Math.Option.{Option}
use Rattle.msgpack_first_bytes.specs.Bytes.{Bytes, pick}
use Rattle.frames.specs.declared.Frame.{Frame}
use Rattle.frames.specs.declared.FrameAnswer.{FrameAnswer}
use Rattle.frames.specs.Keys.{header_items, body_items}
use Rattle.frames.specs.Codes.{Code, code, required_in, required}
use Rattle.frames.specs.Reading.{refuse, frame_read}
use Rattle.frames.specs.Writing.{Outcome, refused, written, write_items, frame_write}
use Rattle.frame_absent_keys.specs.Apart.{apart, read_by}

-- document 01: "Codes and required body keys"
abbrev pub codes_before : List Code
codes_before =
    code 0x01 (0x10 ∷ 0x11 ∷ 0x12 ∷ 0x13 ∷ 0x14 ∷ 0x20 ∷ [])  -- select
    ∷ code 0x02 (0x10 ∷ 0x21 ∷ [])  -- insert
    ∷ code 0x03 (0x10 ∷ 0x21 ∷ [])  -- replace
    ∷ code 0x04 (0x10 ∷ 0x11 ∷ 0x20 ∷ 0x21 ∷ [])  -- update
    ∷ code 0x05 (0x10 ∷ 0x11 ∷ 0x20 ∷ [])  -- delete
    ∷ code 0x06 (0x22 ∷ 0x21 ∷ [])  -- call_16
    ∷ code 0x0a (0x22 ∷ 0x21 ∷ [])  -- call
    ∷ code 0x07 (0x23 ∷ 0x21 ∷ [])  -- auth
    ∷ code 0x08 (0x27 ∷ 0x21 ∷ [])  -- eval
    ∷ code 0x09 (0x10 ∷ 0x21 ∷ 0x28 ∷ [])  -- upsert
    ∷ code 0x40 []  -- ping
    ∷ code 0x00 []  -- ok
    ∷ []

unfoldable pub required_before : ℕ → Option (List ℕ)
required_before c = required_in codes_before c

-- one of the three is absent where the kind required it
unfoldable pub leaves_out : Frame → Bool
leaves_out r =
    pick (eqb r.code 0x01) (not (r.index.present && (r.offset.present && r.iterator.present)))
    (pick (eqb r.code 0x04 || eqb r.code 0x05) (not r.index.present) false)

-- 10 comes last in reading: what it does not refuse any more is accepted
unfoldable pub read_before : FrameAnswer → FrameAnswer
read_before a = pick (eqb a.number 0 && leaves_out a.frame) (refuse 10) a

-- in writing 3 and 18 come after it: what it does not refuse any more may still get one of these
unfoldable pub passes_ten : Outcome → Bool
passes_ten (written w) = true
passes_ten (refused n) = eqb n 3 || eqb n 18

unfoldable pub written_before : Frame → Outcome → Outcome
written_before r o = pick (passes_ten o && leaves_out r) (refused 10) o

pub record Narrowed : Type 0 where
  -- by what is required now, the two parts are the reading that the calls promise
  pub now : (s : Bytes) → read_by required (apart s) ≡ frame_read s
  -- by what document 01 requires, each frame and each record is answered as now, or refused with 10 for one of the three
  pub reading : (s : Bytes) → read_by required_before (apart s) ≡ read_before (frame_read s)
  pub writing : (r : Frame) (s : Bytes) (room : ℕ)
      → write_items (required_before r.code) (header_items r) (body_items r s) room ≡ written_before r (frame_write r s room)
