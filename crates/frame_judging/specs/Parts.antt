-- Inner: a run of the record's items, and the bytes of its pairs.
use Rattle.std.specs.Prelude.{ℕ, List, [], ◌∷◌}
use Rattle.std.proofs.Math.Option.{Option, none, some}
use Rattle.std.proofs.Math.Seq.{slice}
use Rattle.msgpack_first_bytes.specs.Bytes.{Bytes}
use Rattle.msgpack_values.specs.Pieces.{joined}
use Rattle.frames.specs.declared.Frame.{Frame}
use Rattle.frames.specs.Held.{Item}
use Rattle.frames.specs.Writing.{pairs, flat}
use Rattle.frames.specs.Limits.{header_keys, known_keys}
use Rattle.frames.specs.Keys.{header_items, body_items}
use Rattle.frame_items.specs.Content.{all_items}
use Rattle.frame_judging.specs.declared.Part.{Part}
use Rattle.frame_judging.specs.declared.Part.TheVariants.{Header, Body}

-- the known keys of a part, counted through header and body, and what a record holds under them
abbrev pub keys_of : Part → ℕ × ℕ
keys_of Header = (0, header_keys)
keys_of Body = (header_keys, known_keys)

abbrev pub items_of : Part → Frame → Bytes → List Item
items_of Header r s = header_items r
items_of Body r s = body_items r s

-- the known keys of a record from one on and up to another, counted through header and body
unfoldable pub items_between : ℕ → ℕ → Frame → Bytes → List Item
items_between from to r s = slice from to (all_items r s)

-- a key with its value's bytes
unfoldable pub pair_of : ℕ → Option Bytes → Bytes
pair_of k none = []
pair_of k (some v) = k ∷ v

-- the pairs of items, one after the other
unfoldable pub pair_bytes : List Item → Bytes
pair_bytes xs = joined (flat (pairs xs))
