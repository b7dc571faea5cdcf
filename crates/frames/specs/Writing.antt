-- Writing a frame. "In writing: 8, 4 (a place that is outside its bytes, not one whole value, or deeper than 15), 9, 10, 3, 18."
use Rattle.std.specs.Prelude.{ℕ, Bool, true, false, ◌&&◌, List, [], ◌∷◌, ◌++◌, leb, eqb, length, drop, Ok, Err}
use Rattle.std.proofs.Math.Option.{Option, none, some}
use Rattle.msgpack_first_bytes.specs.Bytes.{Bytes}
use Rattle.msgpack_values.specs.Value.{value, Read}
use Rattle.msgpack_values.specs.Pieces.{joined}
use Rattle.msgpack_writing.specs.Forms.{tagged, map_header}
use Rattle.frames.specs.declared.Frame.{Frame}
use Rattle.frames.specs.Limits.{max_size, held_depth}
use Rattle.frames.specs.Held.{all, Held, absent, outside, number, bytes, suits, encoded, is_some, Item, locate}
use Rattle.frames.specs.Keys.{header_items, body_items}
use Rattle.frames.specs.Codes.{required}
use Rattle.frames.specs.Cascade.{check, given}

-- ---- the bytes: "header keys and body keys rising, known present keys only, numbers shortest, values copied"

-- a key with the encoding of what it holds
pub record Pair : Type 0 where
  pub key : ℕ
  pub bytes : Bytes

abbrev pub pair : ℕ → Bytes → Pair
pair k v = record { key = k; bytes = v }

unfoldable pub onto : ℕ → Option Bytes → List Pair → List Pair
onto k none ps = ps
onto k (some v) ps = pair k v ∷ ps

unfoldable pub pairs : List Item → List Pair
pairs [] = []
pairs (x ∷ xs) = onto x.key (encoded x.held) (pairs xs)

-- keys below 128 are one byte each
unfoldable pub flat : List Pair → List Bytes
flat [] = []
flat (p ∷ ps) = (p.key ∷ []) ∷ p.bytes ∷ flat ps

-- "An empty body is written as `80`."
unfoldable pub map_form : List Pair → Bytes
map_form ps = map_header (length ps) ++ joined (flat ps)

unfoldable pub contents : List Item → List Item → Bytes
contents hs bs = map_form (pairs hs) ++ map_form (pairs bs)

-- "It writes the size as `ce` and four bytes"
unfoldable pub frame_form : Bytes → Bytes
frame_form c = tagged 0xce 4 (length c) ++ c

-- ---- the judgement

-- 4: exactly one whole value, within its bytes, of depth at most 15
unfoldable pub is_whole : Read → ℕ → Bool
is_whole (Ok k) n = eqb k n
is_whole (Err p) n = false

unfoldable pub sound : Held → Bool
sound absent = true
sound outside = false
sound (number n) = true
sound (bytes v) = is_whole (value held_depth v) (length v)

pub data Outcome : Type 0 where
  refused : ℕ → Outcome
  written : Bytes → Outcome

unfoldable pub each : (Item → Bool) → List Item → List Item → Bool
each p hs bs = all p hs && all p bs

-- a frame whose code requires these keys (none: an unknown code), with the items hs in its header and bs in its body, into a buffer of `room` bytes
unfoldable pub write_items : Option (List ℕ) → List Item → List Item → ℕ → Outcome
write_items needed hs bs room =
    given (refused 8) needed (λ needs.
    check (refused 4) (each (λ (x : Item). sound x.held) hs bs)
    (check (refused 9) (each (λ (x : Item). suits x.rule x.held) hs bs)
    (check (refused 10) (all (λ (k : ℕ). is_some (encoded (locate bs k))) needs)
    (check (refused 3) (leb (length (contents hs bs)) max_size)
    (check (refused 18) (leb (length (frame_form (contents hs bs))) room)
    (written (frame_form (contents hs bs))))))))

-- of the record r, whose places are of the bytes s
unfoldable pub frame_write : Frame → Bytes → ℕ → Outcome
frame_write r s room = write_items (required r.code) (header_items r) (body_items r s) room

-- ---- what the caller sees: the answer, and the lent buffer afterwards

pub record Call : Type 0 where
  pub number : ℕ
  pub length : ℕ
  pub buffer : Bytes

-- "A refusal answers its number, with length 0 ...; buffers keep their bytes"; "bytes past the written length are unchanged"
unfoldable pub call_of : Bytes → Outcome → Call
call_of old (refused n) = record { number = n; length = 0; buffer = old }
call_of old (written w) = record { number = 0; length = length w; buffer = w ++ drop (length w) old }

unfoldable pub frame_write_call : Frame → Bytes → Bytes → Call
frame_write_call r s old = call_of old (frame_write r s (length old))
