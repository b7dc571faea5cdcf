-- Inner: four entries as one number, by which the table is looked up. Only contracts of inner functions name it.
use Rattle.std.specs.Prelude.{ℕ, ◌+◌, ◌*◌, List, get_or}
use Rattle.msgpack_first_bytes.specs.Entry.{entry_of}

abbrev joined : ℕ → ℕ → ℕ → ℕ → ℕ
joined a b c d = ((d * 65536 + c) * 65536 + b) * 65536 + a

-- of a table, from a place on
unfoldable pub four : List ℕ → ℕ → ℕ
four t i = joined (get_or t i 0) (get_or t (i + 1) 0) (get_or t (i + 2) 0) (get_or t (i + 3) 0)

-- of the first bytes from 0x80 on, by the decision over ranges
unfoldable pub row_of : ℕ → ℕ
row_of k = let b = 0x80 + 4 * k in joined (entry_of b) (entry_of (b + 1)) (entry_of (b + 2)) (entry_of (b + 3))
