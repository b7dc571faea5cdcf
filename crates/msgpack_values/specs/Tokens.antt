-- Inner: what the reader finds at a place before it goes down. Only contracts of inner functions name it.
use Rattle.std.specs.Prelude.{ℕ, ◌+◌, ◌-◌, ◌*◌, ◌<◌, ◌≤◌, ◌≡◌, leb, eqb, length, take, drop, get_or, Ok, Err, Result}
use Rattle.msgpack_first_bytes.specs.Bytes.{Bytes, pick}
use Rattle.msgpack_first_bytes.specs.Entry.{length_bytes, kind_digit, fixed_payload, entry_of, array_of_one}
use Rattle.msgpack_numbers.specs.Number.{number}
use Rattle.msgpack_values.specs.Value.{shift, items, value, Read}
use Rattle.msgpack_values.specs.declared.Token.{Token}
use Rattle.msgpack_values.specs.declared.Token.TheVariants as T
use Rattle.msgpack_values.specs.declared.Item.{Item}
use Rattle.msgpack_values.specs.declared.Item.TheVariants as I
use Rattle.msgpack_values.specs.declared.Inner.{Inner}
use Rattle.msgpack_values.specs.declared.Run.{Run}

-- the entry of the first byte at a place; past the end that of the unused byte
unfoldable pub first_byte_entry : Bytes → ℕ → ℕ
first_byte_entry s at = pick (leb (length s) at) 0x0f00 (entry_of (get_or s at 0))

-- the widths of a length and of a count: 1, 2 and 4
abbrev pub Width : ℕ → Type 0
Width w = (1 ≤ w) × ((w ≤ 4) × (w ≡ 3 → ⊥))

-- an entry with count bytes tells no values by itself
abbrev pub Counts : ℕ → Type 0
Counts e = 0 < length_bytes e → Width (length_bytes e) × (fixed_payload e ≡ 0)

-- the values that a container holds, by its entry and the bytes after its first: two for each count of a map
unfoldable pub values_of : ℕ → Bytes → ℕ
values_of e s = number (take (length_bytes e) s) * pick (eqb (kind_digit e) 9) 1 2 + fixed_payload e

-- what stands at a place, or the place of the byte that spoils it
abbrev pub Found : Type 0
Found = Result Token ℕ

unfoldable pub token_of : Read → Found
token_of (Ok n) = Ok (T.Past n)
token_of (Err p) = Err p

-- the value from `at` to e has one length byte: whatever begins with its first two bytes, and has room, ends as far on
pub record Heads (s : Bytes) (at e : ℕ) : Type 0 where
  pub head : at + 2 ≤ e
  pub room : e ≤ length s
  pub alike : (p d : ℕ) → p + (e - at) ≤ length s → get_or s p 0 ≡ get_or s at 0 → get_or s (p + 1) 0 ≡ get_or s (at + 1) 0
      → Ok (p + (e - at)) ≡ shift p (value d (drop p s))

-- a token tells the answer q of the value at a place, of depth at most d: it is known, or that of n values further on, less deep
abbrev pub Tells : Bytes → ℕ → ℕ → Read → Found → Type 0
Tells s at d q (Ok (T.Past e)) = Ok e ≡ q
Tells s at d q (Ok (T.Headed h e)) = (Ok e ≡ q) × Heads s h e
Tells s at d q (Ok (T.Holds n from d')) = (d' < d) × ((at < from) × (q ≡ shift from (items (value d') n (drop from s))))
Tells s at d q (Err p) = Err p ≡ q

-- an item that is read tells the answer
abbrev pub Reads : Bytes → Read → Result Item ℕ → Type 0
Reads s q (Ok (I.Past e)) = Ok e ≡ q
Reads s q (Ok (I.Headed h e)) = (Ok e ≡ q) × Heads s h e
Reads s q (Err p) = Err p ≡ q

-- each byte from a place up to another begins an array of one
pub record Ones (s : Bytes) (at end : ℕ) : Type 0 where
  pub further : at ≤ end
  pub each : (p : ℕ) → at ≤ p → p < end → entry_of (get_or s p 0) ≡ array_of_one

-- what is inside arrays of one has their answer, and its entry
pub record Inside (s : Bytes) (at d : ℕ) (r : Inner) : Type 0 where
  pub further : at ≤ r.at
  pub deep : r.depth ≤ d
  pub same : shift r.at (value r.depth (drop r.at s)) ≡ shift at (value d (drop at s))
  pub told : r.entry ≡ first_byte_entry s r.at

-- an item with these first two bytes and this length stands at a place, and is not the last
pub record Same (s : Bytes) (at first second n left : ℕ) : Type 0 where
  pub room : at + n ≤ length s
  pub first-is : get_or s at 0 ≡ first
  pub second_is : get_or s (at + 1) 0 ≡ second
  pub more : 1 < left

-- a run ends where reading the same values one after the other goes on
pub record Ran (s : Bytes) (next left : ℕ) (r : Run) : Type 0 where
  pub further : next ≤ r.end
  pub one : 0 < r.left
  pub fewer : r.left ≤ left
  pub same : (d : ℕ) → shift r.end (items (value d) (r.left - 1) (drop r.end s)) ≡ shift next (items (value d) (left - 1) (drop next s))
