-- Inner: a field of the tuple under work is a place: where its bytes stand, and how many they are. They stand in the caller's tuple, in the
-- caller's list, or in a work array for what was computed; and no byte of a field moves before the result is written.
use Rattle.std.specs.Prelude.{◌≡◌, List, [], ◌∷◌, map, ℕ, ◌+◌, ◌-◌, ◌*◌, ◌/◌, ◌%◌, ◌<◌, ltb, length, take, drop}
use Rattle.msgpack_first_bytes.specs.Bytes.{Bytes, pick}
use Rattle.tuples.specs.Tuple.{Fields}

-- where the list and the work array begin in the numbering of the starts; the tuple begins at 0. Past the end of each is a gap.
abbrev pub in_list : ℕ
in_list = 20480

abbrev pub in_work : ℕ
in_work = 57344

-- 17 bits of start, 15 bits of length
unfoldable pub place_of : ℕ → ℕ → ℕ
place_of at n = at % 131072 * 32768 + n % 32768

unfoldable pub start_of : ℕ → ℕ
start_of p = p / 32768

unfoldable pub length_of : ℕ → ℕ
length_of p = p % 32768

-- n bytes from a start on, of the tuple t, the list l or the work array w
unfoldable pub bytes_from : Bytes → Bytes → Bytes → ℕ → ℕ → Bytes
bytes_from t l w at n =
    pick (ltb at in_list) (take n (drop at t)) (pick (ltb at in_work) (take n (drop (at - in_list) l)) (take n (drop (at - in_work) w)))

unfoldable pub bytes_at : Bytes → Bytes → Bytes → ℕ → Bytes
bytes_at t l w p = bytes_from t l w (start_of p) (length_of p)

-- THE FIELDS of places
unfoldable pub fields_in : Bytes → Bytes → Bytes → List ℕ → Fields
fields_in t l w ps = map (bytes_at t l w) ps

-- the tuple and the list end before the next source begins
pub record Sources (t l : Bytes) : Type 0 where
  pub tuple : length t < in_list
  pub list : length l + in_list < in_work

-- ---- places side by side

-- they lie one behind the other from a on
unfoldable pub Chain : ℕ → List ℕ → Type 0
Chain a [] = Unit {0}
Chain a (p ∷ ps) = (start_of p ≡ a) × Chain (a + length_of p) ps

unfoldable pub sum : List ℕ → ℕ
sum [] = 0
sum (k ∷ ks) = k + sum ks

-- fields that stand back to back from a on
unfoldable pub places_at : ℕ → Fields → List ℕ
places_at a [] = []
places_at a (x ∷ xs) = place_of a (length x) ∷ places_at (a + length x) xs
