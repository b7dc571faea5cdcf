-- 01, 'From the yard: known examples': "Marked (P): proved together, as one statement over a table of these cases."
use Rattle.std.specs.Prelude.{ℕ, false, List, [], ◌∷◌, replicate}
use Rattle.msgpack_first_bytes.specs.Bytes.{Bytes}
use Rattle.frames.specs.Reading.{frame_read}
use Rattle.msgpack_values.specs.declared.OptionalNumber.{OptionalNumber}
use Rattle.frames.specs.declared.Place.{Place}
use Rattle.frames.specs.declared.FrameAnswer.{FrameAnswer}
use Rattle.tuples.specs.Call.{Result, update_call, undo_call}
use Rattle.tuples.specs.Examples.{room, accepted, refused}

-- bytes, and what reading a frame of them answers; or a tuple and a list, and what the update call and the undo call answer on them
pub data Case : Type 0 where
  frame : Bytes → FrameAnswer → Case
  change : Bytes → Bytes → Result → Result → Case

-- the case of the same inputs that the calls make, from index base 0 and with a buffer of 16 bytes ee
abbrev pub answered : Case → Case
answered (frame s due) = frame s (frame_read s)
answered (change t l due undo_due) = change t l (update_call t l 0 room) (undo_call t l 0 room)

-- "A refusal answers its number, with length 0 and an empty record"
abbrev pub absent : OptionalNumber
absent = record { present = false; value = 0 }

abbrev pub nowhere : Place
nowhere = record { present = false; start = 0; length = 0 }

abbrev pub refused_frame : ℕ → FrameAnswer
refused_frame n =
    record {
      number = n;
      length = 0;
      frame = record {
        code = 0;
        sync = absent;
        schema_version = absent;
        space = absent;
        index = absent;
        limit = absent;
        offset = absent;
        iterator = absent;
        index_base = absent;
        key = nowhere;
        tuple = nowhere;
        function = nowhere;
        user = nowhere;
        expression = nowhere;
        ops = nowhere;
        «data» = nowhere;
        error = nowhere;
      };
      place = absent;
    }

-- inputs and answers; `accepted w` is 0, operation 0, the length of w, and the buffer with w at its front; `refused k i` has the buffer as lent; both are without a place
abbrev pub table : List Case
table =
    -- no bytes: 1. `00`: 3. `e0`: 2
    frame [] (refused_frame 1)
    ∷ frame (0x00 ∷ []) (refused_frame 3)
    ∷ frame (0xe0 ∷ []) (refused_frame 2)
    -- `ce 00 00 ea 61` (60,001): 3, though nothing follows; `ce 00 00 ea 60`: 1
    ∷ frame (0xce ∷ 0x00 ∷ 0x00 ∷ 0xea ∷ 0x61 ∷ []) (refused_frame 3)
    ∷ frame (0xce ∷ 0x00 ∷ 0x00 ∷ 0xea ∷ 0x60 ∷ []) (refused_frame 1)
    -- `93 05 a2 61 62 c3` with `91 93 a1 5e 00 01` gives `93 04 a2 61 62 c3`, undo `91 93 a1 3d 00 05`
    ∷ change (0x93 ∷ 0x05 ∷ 0xa2 ∷ 0x61 ∷ 0x62 ∷ 0xc3 ∷ []) (0x91 ∷ 0x93 ∷ 0xa1 ∷ 0x5e ∷ 0x00 ∷ 0x01 ∷ [])
    (accepted (0x93 ∷ 0x04 ∷ 0xa2 ∷ 0x61 ∷ 0x62 ∷ 0xc3 ∷ []))
    (accepted (0x91 ∷ 0x93 ∷ 0xa1 ∷ 0x3d ∷ 0x00 ∷ 0x05 ∷ []))
    -- `91 cd 00 05`, plus 1 on field 0: `91 06`; undo `91 93 a1 3d 00 cd 00 05`
    ∷ change (0x91 ∷ 0xcd ∷ 0x00 ∷ 0x05 ∷ []) (0x91 ∷ 0x93 ∷ 0xa1 ∷ 0x2b ∷ 0x00 ∷ 0x01 ∷ [])
    (accepted (0x91 ∷ 0x06 ∷ []))
    (accepted (0x91 ∷ 0x93 ∷ 0xa1 ∷ 0x3d ∷ 0x00 ∷ 0xcd ∷ 0x00 ∷ 0x05 ∷ []))
    -- `93 01 02 03` with `91 93 a1 23 01 05`: `91 01`; undo `92 93 a1 21 01 03 93 a1 21 01 02`
    ∷ change (0x93 ∷ 0x01 ∷ 0x02 ∷ 0x03 ∷ []) (0x91 ∷ 0x93 ∷ 0xa1 ∷ 0x23 ∷ 0x01 ∷ 0x05 ∷ [])
    (accepted (0x91 ∷ 0x01 ∷ []))
    (accepted (0x92 ∷ 0x93 ∷ 0xa1 ∷ 0x21 ∷ 0x01 ∷ 0x03 ∷ 0x93 ∷ 0xa1 ∷ 0x21 ∷ 0x01 ∷ 0x02 ∷ []))
    -- `91 01` with `91 93 a1 3d 01 09`: `92 01 09`; undo `91 93 a1 23 01 01`
    ∷ change (0x91 ∷ 0x01 ∷ []) (0x91 ∷ 0x93 ∷ 0xa1 ∷ 0x3d ∷ 0x01 ∷ 0x09 ∷ [])
    (accepted (0x92 ∷ 0x01 ∷ 0x09 ∷ []))
    (accepted (0x91 ∷ 0x93 ∷ 0xa1 ∷ 0x23 ∷ 0x01 ∷ 0x01 ∷ []))
    -- `91 a3 61 62 63` with `91 95 a1 3a 00 01 01 a2 58 59`: `91 a4 61 58 59 63`
    ∷ change (0x91 ∷ 0xa3 ∷ 0x61 ∷ 0x62 ∷ 0x63 ∷ []) (0x91 ∷ 0x95 ∷ 0xa1 ∷ 0x3a ∷ 0x00 ∷ 0x01 ∷ 0x01 ∷ 0xa2 ∷ 0x58 ∷ 0x59 ∷ [])
    (accepted (0x91 ∷ 0xa4 ∷ 0x61 ∷ 0x58 ∷ 0x59 ∷ 0x63 ∷ []))
    (accepted (0x91 ∷ 0x93 ∷ 0xa1 ∷ 0x3d ∷ 0x00 ∷ 0xa3 ∷ 0x61 ∷ 0x62 ∷ 0x63 ∷ []))
    -- `91 00` minus 1: `91 ff`
    ∷ change (0x91 ∷ 0x00 ∷ []) (0x91 ∷ 0x93 ∷ 0xa1 ∷ 0x2d ∷ 0x00 ∷ 0x01 ∷ [])
    (accepted (0x91 ∷ 0xff ∷ []))
    (accepted (0x91 ∷ 0x93 ∷ 0xa1 ∷ 0x3d ∷ 0x00 ∷ 0x00 ∷ []))
    -- `91 cf` and eight `ff`, plus 1: 15 at 0
    ∷ change (0x91 ∷ 0xcf ∷ replicate 8 0xff) (0x91 ∷ 0x93 ∷ 0xa1 ∷ 0x2b ∷ 0x00 ∷ 0x01 ∷ []) (refused 15 0) (refused 15 0)
    -- `90` with an empty list `90`: `90`
    ∷ change (0x90 ∷ []) (0x90 ∷ []) (accepted (0x90 ∷ [])) (accepted (0x90 ∷ []))
    ∷ []
