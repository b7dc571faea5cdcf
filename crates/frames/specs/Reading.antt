-- Reading a frame. "Order in reading: 2 on the first byte, 1 for an unfinished size number, 3, 1 for missing contents, then 4 to 10;
-- each over the whole header and then the whole body before the next."
use Rattle.std.specs.Prelude.{ℕ, ◌+◌, Bool, ◌&&◌, List, [], ◌∷◌, leb, eqb, length, take, drop, Ok, Err, Result}
use Rattle.std.proofs.Math.Option.{Option, some}
use Rattle.msgpack_first_bytes.specs.Bytes.{Bytes, pick}
use Rattle.msgpack_values.specs.Value.{value, Read}
use Rattle.msgpack_values.specs.Spoiled.{no_place, spoiled_at}
use Rattle.msgpack_values.specs.declared.OptionalNumber.{OptionalNumber}
use Rattle.msgpack_scalars.specs.Integer.{unsigned, Natural}
use Rattle.frames.specs.declared.Place.{Place}
use Rattle.frames.specs.declared.Frame.{Frame}
use Rattle.frames.specs.declared.Line.{Line}
use Rattle.frames.specs.declared.FrameAnswer.{FrameAnswer}
use Rattle.frames.specs.Limits.{max_size, max_depth, held_depth}
use Rattle.frames.specs.Held.{all, suits, held_at}
use Rattle.frames.specs.Keys.{code_in, frame_at, empty_frame, header_table, body_table}
use Rattle.frames.specs.Codes.{required}
use Rattle.frames.specs.Maps.{Entry, entries_at, keys, distinct, find}
use Rattle.frames.specs.Cascade.{check, given, whole}
use Rattle.msgpack_scalars.specs.declared.NoNumber.TheVariants.{Cut, Other}

-- so many bytes are promised from a place on; or the number of the refusal, and how many bytes settle that
abbrev pub Size : Type 0
Size = Result (ℕ × ℕ) (ℕ × ℕ)

-- "A refusal answers its number, with length 0 and an empty record"
abbrev pub refuse_at : ℕ → OptionalNumber → FrameAnswer
refuse_at n p = record { number = n; length = 0; frame = empty_frame; place = p }

-- .. without a place: every number but 4
unfoldable pub refuse : ℕ → FrameAnswer
refuse n = refuse_at n no_place

-- "An accepted call answers 0 with the length written or the record."
unfoldable pub accept : ℕ → Frame → FrameAnswer
accept n r = record { number = 0; length = n; frame = r; place = no_place }

-- 9, over a table of known keys, each where f says that it stands
unfoldable pub suited : List Line → Bytes → (ℕ → Place) → Bool
suited xs s f = all (λ (x : Line). suits x.rule (held_at x.rule s (f x.key))) xs

-- 8 to 10, and the record: by what each code requires, and by where each key's value stands in the header (f) and in the body (g)
unfoldable pub by_places : (ℕ → Option (List ℕ)) → Bytes → (ℕ → Place) → (ℕ → Place) → FrameAnswer
by_places needed s f g =
    given (refuse 8) (code_in s f) (λ code.
    given (refuse 8) (needed code) (λ needs.
    check (refuse 9) (suited header_table s f && suited body_table s g)
    (check (refuse 10) (all (λ (k : ℕ). (g k).present) needs)
    (accept (length s) (frame_at code s f g)))))

-- 6 and 7, by the entries of header and body
unfoldable pub by_entries : Bytes → Option (List Entry) → Option (List Entry) → FrameAnswer
by_entries s header body =
    given (refuse 6) header (λ hs.
    given (refuse 6) body (λ bs.
    check (refuse 7) (distinct (keys hs) && distinct (keys bs))
    (by_places required s (find hs) (find bs))))

-- "A missing body counts as an empty map."
unfoldable pub body_value : Bytes → Read
body_value [] = Ok 0
body_value (b ∷ s) = value max_depth (b ∷ s)

unfoldable pub body_entries : Bytes → ℕ → Bytes → Option (List Entry)
body_entries s at [] = some []
body_entries s at (b ∷ t) = entries_at held_depth s at

-- 4, where the header or the body at `at` is broken. 02, 3/12: "A frame refused with 4 gives that place, counted from the frame's start."
unfoldable pub broken : Bytes → ℕ → FrameAnswer
broken s at = refuse_at 4 (spoiled_at max_depth at s)

-- 4 and 5: s is one frame and nothing more, its header from `at` on; then the rest
unfoldable pub in_frame : Bytes → ℕ → FrameAnswer
in_frame s at =
    whole (broken s at) (value max_depth (drop at s)) (λ h.
    whole (broken s (at + h)) (body_value (drop (at + h) s)) (λ b.
    check (refuse 5) (eqb (at + h + b) (length s))
    (by_entries s (entries_at held_depth s at) (body_entries s (at + h) (drop (at + h) s)))))

-- 2, 1 and 3 for the size number, each with how many bytes settle it: the first alone, none yet, all of the number
unfoldable pub size_by : Natural → Size
size_by (Err Other) = Err (2, 1)
size_by (Err Cut) = Err (1, 0)
size_by (Ok (n, k)) = pick (leb 1 n && leb n max_size) (Ok (n, k)) (Err (3, k))

unfoldable pub size_of : Bytes → Size
size_of s = size_by (unsigned s)

-- 1 for the bytes that it promises. "Reading takes the first frame of the lent bytes, tells its length and judges nothing after it": the rest is cut off
unfoldable pub by_size : Bytes → Size → FrameAnswer
by_size s (Err (n, k)) = refuse n
by_size s (Ok (n, k)) = check (refuse 1) (leb (k + n) (length s)) (in_frame (take (k + n) s) k)

unfoldable pub frame_read : Bytes → FrameAnswer
frame_read s = by_size s (size_of s)
