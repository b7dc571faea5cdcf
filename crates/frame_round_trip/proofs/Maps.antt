-- A map that was written of pairs is one value, and is read as entries that hold the same bytes, at any depth. Assumes nothing.
use Rattle.std.specs.Prelude.{Ok}
use Prim.Native.Nat.{ℕ, suc, ◌+◌, ◌*◌, ◌^◌, ◌≤◌, ◌<◌}
use mathlib.Core.Path.{◌≡◌, refl, sym, ap, ◌∙◌}
use mathlib.Core.Bool.{Bool, true, false}
use mathlib.Core.List.{List, [], ◌∷◌, ◌++◌, append_assoc}
use mathlib.Core.Option.{Option, none, some}
use native.Mathlib.Omega.{arith}
use borrow.Author.Tests.{le-leb}
use lib.Dec.{eqb}
use lib.ListN.{length, drop, length-append, length-drop}
use lib.Seq.{take-length, take-append_seam, drop-append_seam, drop-drop}
use Rattle.msgpack_first_bytes.specs.Bytes.{Bytes, pick}
use Rattle.msgpack_values.specs.Value.{value}
use Rattle.msgpack_values.specs.Pieces.{joined, Each}
use Rattle.msgpack_values.proofs.Local.{value_local, value_pos}
use Rattle.msgpack_writing.specs.Forms.{map_header}
use Rattle.msgpack_read_back.proofs.Back as back
use Rattle.frames.specs.declared.Place.{Place}
use Rattle.frames.specs.Limits.{max_key}
use Rattle.frames.specs.Held.{view}
use Rattle.frames.specs.Maps.{Entry, entry, keyed, entry_at, entries, entries_by, entries_at, placed, find}
use Rattle.frames.specs.Cascade.{check, given, whole}
use Rattle.frames.specs.Writing.{Pair, flat, map_form}
use Rattle.frame_round_trip.proofs.Numbers.{key-whole, key-read}

abbrev pub All : {A : Type 0} → (A → Type 0) → List A → Type 0
All P [] = Unit {0}
All P (x ∷ xs) = P x × All P xs

-- a key below 128, and one whole value
pub record Fine (d : ℕ) (p : Pair) : Type 0 where
  pub low : p.key < 128
  pub single : value d p.bytes ≡ Ok (length p.bytes)

-- ---- the map is one value

each-flat : (d : ℕ) (ps : List Pair) → All (Fine d) ps → Each (value d) (flat ps)
unfolding flat
each-flat d [] h = Each.none
each-flat d (p ∷ ps) h = Each.more (key-whole d p.key h.0.low) (Each.more h.0.single (each-flat d ps h.1))

flat-length : (ps : List Pair) → length (flat ps) ≡ 2 * length ps
unfolding flat
flat-length [] = refl
flat-length (p ∷ ps) = let h = flat-length ps in omega arith

pub map_whole : (d : ℕ) (ps : List Pair) (t : Bytes) → All (Fine d) ps → length ps < 2 ^ 32 → value (suc d) (map_form ps ++ t) ≡ Ok (length (map_form ps))
unfolding map_form
map_whole d ps t h l = back.map_whole d (length ps) (flat ps) t (each-flat d ps h) (flat-length ps) l

-- ---- its entries

-- where the values of pairs stand that begin at `at`
unfoldable pub located : ℕ → List Pair → List Entry
located at [] = []
located at (p ∷ ps) = entry p.key (at + 1) (length p.bytes) ∷ located (at + 1 + length p.bytes) ps

-- s holds v at `at`, and then m
abbrev pub Behind : Bytes → ℕ → Bytes → Type 0
Behind s at m = drop at s ≡ m

pub behind : (s : Bytes) (at : ℕ) (v m : Bytes) → Behind s at (v ++ m) → Behind s (at + length v) m
behind s at v m e = sym (drop-drop (length v) at s) ∙ ap (drop (length v)) e ∙ drop-append_seam v m

-- the first pair, then the others
module _ (s : Bytes) (at : ℕ) (p : Pair) (ps : List Pair) (t : Bytes) (e : Behind s at (joined (flat (p ∷ ps)) ++ t)) where
  rest : Bytes
  rest = joined (flat ps) ++ t

  from_key : Behind s at (p.key ∷ (p.bytes ++ rest))
  unfolding flat joined rest
  from_key = e ∙ ap (◌∷◌ p.key) (append_assoc p.bytes (joined (flat ps)) t)

  from-value : Behind s (at + 1) (p.bytes ++ rest)
  from-value = behind s at (p.key ∷ []) (p.bytes ++ rest) from_key

  from_next : Behind s (at + 1 + length p.bytes) rest
  from_next = behind s (at + 1) p.bytes rest from-value

single_front : (d : ℕ) (v t : Bytes) → value d v ≡ Ok (length v) → value d (v ++ t) ≡ Ok (length v)
single_front d v t h = rw (take-length v) at (value_local d v t (length v) h)

entry-located : (d : ℕ) (s : Bytes) (at : ℕ) (p : Pair) (ps : List Pair) (t : Bytes) → Fine d p → Behind s at (joined (flat (p ∷ ps)) ++ t)
    → entry_at d s at ≡ some (entry p.key (at + 1) (length p.bytes))
unfolding entry_at keyed check whole
entry-located d s at p ps t f e =
    let l = f.low in
    rw (from_key s at p ps t e, key-read p.key (p.bytes ++ rest s at p ps t e) l, le-leb p.key max_key (omega arith), from-value s at p ps t e, single_front d p.bytes (rest s at p ps t e) f.single)

entries-located : (d : ℕ) (s : Bytes) (ps : List Pair) (at : ℕ) (t : Bytes) → All (Fine d) ps → Behind s at (joined (flat ps) ++ t)
    → entries d s (length ps) at ≡ some (located at ps)
unfolding entries given located rest
entries-located d s [] at t h e = refl
entries-located d s (p ∷ ps) at t h e =
    rw (entry-located d s at p ps t h.0 e, entries-located d s ps (at + 1 + length p.bytes) t h.1 (from_next s at p ps t e))

pub map-entries : (d : ℕ) (s : Bytes) (at : ℕ) (ps : List Pair) (t : Bytes) → All (Fine d) ps → length ps < 2 ^ 32 → Behind s at (map_form ps ++ t)
    → entries_at d s at ≡ some (located (at + length (map_header (length ps))) ps)
unfolding entries_at entries_by map_form
map-entries d s at ps t h l e =
    let b = e ∙ append_assoc (map_header (length ps)) (joined (flat ps)) t in
    rw (b, back.map-header-back (length ps) (joined (flat ps) ++ t) l)
    (entries-located d s ps (at + length (map_header (length ps))) t h (behind s at (map_header (length ps)) (joined (flat ps) ++ t) b))

-- ---- what stands at a place

pub record Holds (s : Bytes) (p : Place) (v : Bytes) : Type 0 where
  pub present : p.present ≡ true
  pub inside : p.start + p.length ≤ length s
  pub same : view s p ≡ v

abbrev pub Stands : Bytes → Place → Option Bytes → Type 0
Stands s p none = p.present ≡ false
Stands s p (some v) = Holds s p v

unfoldable pub seek : List Pair → ℕ → Option Bytes
seek [] k = none
seek (p ∷ ps) k = pick (eqb k p.key) (some p.bytes) (seek ps k)

holds : (s : Bytes) (a : ℕ) (v m : Bytes) → 1 ≤ length v → Behind s a (v ++ m) → Holds s (placed a (length v)) v
unfolding view
holds s a v m h e =
    let l = simp (length-drop, length-append) at (ap length e) in
    record { present = refl; inside = omega arith; same = rw e (take-append_seam v m) }

pub found : (d : ℕ) (s : Bytes) (ps : List Pair) (at : ℕ) (t : Bytes) (k : ℕ) → All (Fine d) ps → Behind s at (joined (flat ps) ++ t)
    → Stands s (find (located at ps) k) (seek ps k)
unfolding located find seek rest
found d s [] at t k h e = refl
found d s (p ∷ ps) at t k h e = go (eqb k p.key) (found d s ps (at + 1 + length p.bytes) t k h.1 (from_next s at p ps t e))
  where
    go : (b : Bool) → Stands s (find (located (at + 1 + length p.bytes) ps) k) (seek ps k)
        → Stands s (pick b (placed (at + 1) (length p.bytes)) (find (located (at + 1 + length p.bytes) ps) k)) (pick b (some p.bytes) (seek ps k))
    go true ih = holds s (at + 1) p.bytes (rest s at p ps t e) (value_pos d p.bytes (length p.bytes) h.0.single) (from-value s at p ps t e)
    go false ih = ih
