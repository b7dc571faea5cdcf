-- Inner: a line at a time.
use Rattle.std.specs.Prelude.{◌≡◌, ℕ, zero, suc, ◌*◌, ◌≤◌, [], ◌++◌, length, take, drop}
use Rattle.msgpack_first_bytes.specs.Bytes.{Bytes}
use Rattle.frame_listing.specs.Listing.{lines}
use Rattle.frame_listing.specs.declared.Line.{Line}

-- what follows the line of frame n of s, which has k bytes; after the last line, where k is 0, nothing
unfoldable pub after : ℕ → ℕ → Bytes → Bytes
after zero n s = []
after (suc k) n s = lines 0 (suc n) (drop (suc k) s)

-- how long a line is at most: 21 bytes for each byte of its frame; 23 for the last one
unfoldable pub most : ℕ → ℕ
most zero = 23
most (suc k) = 21 * suc k

-- the first line of the lines of s stands at the front of a buffer
pub record First (n : ℕ) (s : Bytes) (r : Line) (buffer : Bytes) : Type 0 where
  pub is : lines 0 n s ≡ take r.length buffer ++ after r.bytes n s
  pub short : r.length ≤ most r.bytes
  pub fits : r.length ≤ length buffer
  pub within : r.bytes ≤ length s
