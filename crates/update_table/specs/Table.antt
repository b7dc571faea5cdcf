-- Inner: the table of the fields of a tuple under work: n entries from `head` on, with free ones to both sides, so that of the entries the
-- fewer make way.
use Rattle.std.specs.Prelude.{ℕ, suc, ◌+◌, ◌-◌, Bool, ◌&&◌, List, ◌∷◌, ◌++◌, leb, ltb, length, take, drop}
use Rattle.msgpack_first_bytes.specs.Bytes.{pick}

-- the entries in use
unfoldable pub window : ℕ → ℕ → List ℕ → List ℕ
window head n table = take n (drop head table)

-- ---- one entry more, before entry f

-- whether the n from `head` on, of a table of `room`, have an entry f and a free one on each side
unfoldable pub opens : ℕ → ℕ → ℕ → ℕ → Bool
opens room head n f = leb f n && (ltb 0 head && ltb (head + n) room)

-- the table with p there; as it was where it has no room
unfoldable pub added : ℕ → ℕ → ℕ → ℕ → List ℕ → List ℕ
added head n f p table =
    pick (opens (length table) head n f)
    (pick (ltb f (n - f))
    (take (head - 1) table ++ (take f (drop head table) ++ (p ∷ drop (head + f) table)))
    (take (head + f) table ++ (p ∷ (take (n - f) (drop (head + f) table) ++ drop (suc (head + n)) table))))
    table

-- where its entries begin then
unfoldable pub head_added : ℕ → ℕ → ℕ → ℕ → ℕ
head_added room head n f = pick (opens room head n f) (pick (ltb f (n - f)) (head - 1) head) head

-- ---- m entries less, from entry f on

unfoldable pub closes : ℕ → ℕ → ℕ → ℕ → ℕ → Bool
closes room head n f m = leb (f + m) n && leb (head + n) room

unfoldable pub removed : ℕ → ℕ → ℕ → ℕ → List ℕ → List ℕ
removed head n f m table =
    pick (closes (length table) head n f m)
    (pick (ltb f (n - (f + m)))
    (take (head + m) table ++ (take f (drop head table) ++ drop (head + m + f) table))
    (take (head + f) table ++ (take (n - (f + m)) (drop (head + (f + m)) table) ++ drop (head + (n - m)) table)))
    table

unfoldable pub head_removed : ℕ → ℕ → ℕ → ℕ → ℕ → ℕ
head_removed room head n f m = pick (closes room head n f m) (pick (ltb f (n - (f + m))) (head + m) head) head
