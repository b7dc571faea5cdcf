-- Reading in two parts: 1 to 7, which take the frame apart, and 8 to 10 by any lists of required keys.
-- With the lists of `Codes` the two are `frame_read`: a part of the claim in `Before`.
use Rattle.std.specs.Prelude.{ℕ, ◌+◌, ◌&&◌, List, [], leb, eqb, length, take, drop, Ok, Err}
use Rattle.std.proofs.Math.Option.{Option}
use Rattle.msgpack_first_bytes.specs.Bytes.{Bytes}
use Rattle.msgpack_values.specs.Value.{value}
use Rattle.msgpack_values.specs.Spoiled.{no_place}
use Rattle.msgpack_values.specs.declared.OptionalNumber.{OptionalNumber}
use Rattle.frames.specs.declared.FrameAnswer.{FrameAnswer}
use Rattle.frames.specs.Reading.{Size, refuse_at, by_places, body_value, body_entries, broken, size_of}
use Rattle.frames.specs.Limits.{max_depth, held_depth}
use Rattle.frames.specs.Cascade.{check, given, whole}
use Rattle.frames.specs.Maps.{Entry, entries_at, keys, distinct, find}

-- the number of a refusal and its place, or the frame's bytes with the entries of its header and its body
pub data Apart : Type 0 where
  stops_at : ℕ → OptionalNumber → Apart
  maps : Bytes → List Entry → List Entry → Apart

abbrev pub stops : ℕ → Apart
stops n = stops_at n no_place

-- header or body at `at` is broken
abbrev pub breaks : Bytes → ℕ → Apart
breaks s at = stops_at 4 (broken s at).place

-- s is one frame, its header from `at` on
unfoldable pub contents_apart : Bytes → ℕ → Apart
contents_apart s at =
    whole (breaks s at) (value max_depth (drop at s)) (λ h.
    whole (breaks s (at + h)) (body_value (drop (at + h) s)) (λ b.
    check (stops 5) (eqb (at + h + b) (length s))
    (given (stops 6) (entries_at held_depth s at) (λ hs.
    given (stops 6) (body_entries s (at + h) (drop (at + h) s)) (λ bs.
    check (stops 7) (distinct (keys hs) && distinct (keys bs))
    (maps s hs bs))))))

unfoldable pub apart_by : Bytes → Size → Apart
apart_by s (Err (n, k)) = stops n
apart_by s (Ok (n, k)) = check (stops 1) (leb (k + n) (length s)) (contents_apart (take (k + n) s) k)

-- the frame at the front of s
unfoldable pub apart : Bytes → Apart
apart s = apart_by s (size_of s)

-- the keys that stand in its body
unfoldable pub body_keys : Apart → List ℕ
body_keys (stops_at n p) = []
body_keys (maps s hs bs) = keys bs

-- 8 to 10, and the record, by what each code requires
unfoldable pub read_by : (ℕ → Option (List ℕ)) → Apart → FrameAnswer
read_by needed (stops_at n p) = refuse_at n p
read_by needed (maps s hs bs) = by_places needed s (find hs) (find bs)
