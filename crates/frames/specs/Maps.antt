-- A map of a frame as a list of entries: each key, and where its value stands.
use Rattle.std.specs.Prelude.{ℕ, zero, suc, ◌+◌, Bool, true, false, not, ◌&&◌, ◌||◌, List, [], ◌∷◌, leb, eqb, drop, Some, None, Ok, Err}
use Rattle.std.proofs.Math.Option.{Option, none, some}
use Rattle.msgpack_first_bytes.specs.Bytes.{Bytes, pick}
use Rattle.msgpack_values.specs.Value.{value}
use Rattle.msgpack_scalars.specs.Start.{map_by}
use Rattle.msgpack_scalars.specs.Integer.{unsigned, Natural}
use Rattle.msgpack_scalars.specs.Header.{header, Header}
use Rattle.frames.specs.declared.Place.{Place}
use Rattle.frames.specs.Limits.{max_key}
use Rattle.frames.specs.Keys.{nowhere}
use Rattle.frames.specs.Cascade.{check, given, whole}

pub record Entry : Type 0 where
  pub key : ℕ
  pub start : ℕ
  pub length : ℕ

abbrev pub entry : ℕ → ℕ → ℕ → Entry
entry k a n = record { key = k; start = a; length = n }

-- "Their keys are unsigned numbers 0 to 127"; a key in a signed form is none
unfoldable pub keyed : {A : Type 0} → Natural → (ℕ → ℕ → Option A) → Option A
keyed (Err e) next = none
keyed (Ok (k, l)) next = check none (leb k max_key) (next k l)

-- the entry at `at`, its value of depth at most d: none where its key is no key (the values of a whole map are whole)
unfoldable pub entry_at : ℕ → Bytes → ℕ → Option Entry
entry_at d s at = keyed (unsigned (drop at s)) (λ k l. whole none (value d (drop (at + l) s)) (λ m. some (entry k (at + l) m)))

-- n entries from `at` on
unfoldable pub entries : ℕ → Bytes → ℕ → ℕ → Option (List Entry)
entries d s zero at = some []
entries d s (suc n) at =
    given none (entry_at d s at) (λ e.
    given none (entries d s n (e.start + e.length)) (λ es.
    some (e ∷ es)))

unfoldable pub entries_by : ℕ → Bytes → ℕ → Header → Option (List Entry)
entries_by d s at (Some (n, l)) = entries d s n (at + l)
entries_by d s at None = none

-- the entries of the value at `at`: none also where it is no map
unfoldable pub entries_at : ℕ → Bytes → ℕ → Option (List Entry)
entries_at d s at = entries_by d s at (header map_by (drop at s))

-- "No key number, in any width, stands twice"
unfoldable pub keys : List Entry → List ℕ
keys [] = []
keys (e ∷ es) = e.key ∷ keys es

unfoldable pub has : ℕ → List ℕ → Bool
has k [] = false
has k (x ∷ xs) = eqb k x || has k xs

unfoldable pub distinct : List ℕ → Bool
distinct [] = true
distinct (x ∷ xs) = not (has x xs) && distinct xs

-- where a key's value stands
abbrev pub placed : ℕ → ℕ → Place
placed a n = record { present = true; start = a; length = n }

unfoldable pub find : List Entry → ℕ → Place
find [] k = nowhere
find (e ∷ es) k = pick (eqb k e.key) (placed e.start e.length) (find es k)
