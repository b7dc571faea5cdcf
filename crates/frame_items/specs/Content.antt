-- Inner: the known keys of a record one by one, header and then body, as the code holds them.
use Rattle.std.specs.Prelude.{ℕ, ◌+◌, Bool, true, false, List, ◌++◌, leb, length, get_or}
use Rattle.std.proofs.Math.Option.{Option, none, some}
use Rattle.msgpack_first_bytes.specs.Bytes.{Bytes, pick}
use Rattle.frames.specs.declared.Frame.{Frame}
use Rattle.msgpack_values.specs.declared.OptionalNumber.{OptionalNumber}
use Rattle.frames.specs.declared.Place.{Place}
use Rattle.frames.specs.declared.Rule.TheVariants.{Anything}
use Rattle.frames.specs.Limits.{max_size}
use Rattle.frames.specs.Held.{Held, absent, outside, number, bytes, view, Item, item}
use Rattle.frames.specs.Keys.{header_items, body_items, header_fields, body_fields}
use Rattle.frame_rules.specs.Needs.{line_at}
use Rattle.frame_items.specs.declared.Content.{Content}
use Rattle.frame_items.specs.declared.Content.TheVariants.{Absent, Outside, Number, View}
use Rattle.frame_items.specs.declared.KnownKey.{KnownKey}

-- what a content stands for, a view being of the bytes s
unfoldable pub held_of : Bytes → Content → Held
held_of s Absent = absent
held_of s Outside = outside
held_of s (Number n) = number n
held_of s (View p) = bytes (view s p)

unfoldable pub item_of : Bytes → KnownKey → Item
item_of s k = item k.key k.rule (held_of s k.content)

-- header and then body
unfoldable pub all_items : Frame → Bytes → List Item
all_items r s = header_items r ++ body_items r s

abbrev pub blank : Item
blank = item 0 Anything absent

-- a number of a record, and a place
unfoldable pub number_content : OptionalNumber → Content
number_content n = pick n.present (Number n.value) Absent

unfoldable pub place_content : Bytes → Place → Content
place_content s p = pick p.present (pick (leb (p.start + p.length) (length s)) (View p) Outside) Absent

-- what a record holds, in the order of the tables; past the last nothing
abbrev pub all_contents : Frame → Bytes → List Content
all_contents r s = header_fields Number number_content r ++ body_fields number_content (place_content s) r

unfoldable pub content_at : Frame → Bytes → ℕ → Content
content_at r s i = get_or (all_contents r s) i Absent

-- the i-th known key, what it must hold and what it holds
unfoldable pub known_key_at : Frame → Bytes → ℕ → KnownKey
known_key_at r s i = record { key = (line_at i).key; rule = (line_at i).rule; content = content_at r s i }

-- whether a pair is written
unfoldable pub is_written : Content → Bool
is_written Absent = false
is_written Outside = false
is_written (Number n) = true
is_written (View p) = true

-- how long a pair is: its key is one byte
unfoldable pub pair_length : Option Bytes → ℕ
pair_length none = 0
pair_length (some v) = length v + 1

-- lengths are counted up to the first that no frame has, so that no sum can wrap
unfoldable pub capped : ℕ → ℕ
capped n = pick (leb n max_size) n (max_size + 1)
