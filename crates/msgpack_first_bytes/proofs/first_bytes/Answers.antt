-- The whole table by one test that antt computes, an entry after the other; the lemma that makes it the rule at each entry.
use Prim.Native.Nat.{ℕ}
use mathlib.Core.Path.{◌≡◌, refl}
use mathlib.Core.Bool.{Bool}
use mathlib.Core.List.{List}
use lib.Dec.{T, eqb, eqb→eq}
use lib.ListN.{length, get_or}
use Rattle.msgpack_first_bytes.specs.FirstByte.{form_of}
use Rattle.msgpack_first_bytes.specs.Entry.{entry_by, entry_of, Told}
use Rattle.msgpack_first_bytes.proofs.Range.{each, each_at}
use Rattle.msgpack_first_bytes.proofs.first_bytes.Goals as goal

-- an entry says what the decision says
abbrev right : ℕ → ℕ → Bool
right b x = eqb x (entry_of b)

-- a table of 256 entries that passes the test says it of each first byte
told : (t : List ℕ) → 256 ≡ length t → T (each right 0 t) → Told t
unfolding Told
told t n p b h = eqb→eq (get_or t b 0) (entry_of b) (each_at right t p b (rw n at h))

pub returns : goal.returns
unfolding entry_of entry_by form_of
returns c = told _ refl tt
