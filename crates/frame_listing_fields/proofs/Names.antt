-- The name of each code, as a match finds it, and how long a name is. Assumes nothing.
use mathlib.Core.Path.{◌≡◌, refl}
use mathlib.Core.List.{List, [], ◌∷◌, map}
use mathlib.Core.Bool.{Bool, true, false}
use mathlib.Core.Option.{none, some}
use Prim.Native.Nat.{ℕ, ◌<◌, ◌≤◌}
use native.Mathlib.Omega.{arith}
use borrow.Author.Tests.{le-leb}
use lib.Dec.{T, leb, leb→le, eqb}
use lib.ListN.{length}
use Rattle.msgpack_first_bytes.specs.Bytes.{pick}
use Rattle.msgpack_first_bytes.proofs.Logic.{impossible}
use Rattle.msgpack_first_bytes.proofs.Range.{both, both_left, both_right}
use Rattle.frames.specs.Codes.{Code, codes, among, is_error, required}
use Rattle.frame_listing_fields.specs.Text.{text}
use Rattle.frame_listing_fields.specs.Names.{Name, names, name_in, kind_of}

pub error_name : (code : ℕ) → 0x8000 ≤ code → code < 0x9000 → kind_of code ≡ text "error"
unfolding kind_of is_error
error_name c h k = rw (le-leb 0x8000 c h, le-leb c 0x8fff (omega arith))

-- two tables of the same codes: what is not in the one has no name in the other
alike : (c : ℕ) (ns : List Name) (ks : List Code) → map (λ (n : Name). n.code) ns ≡ map (λ (k : Code). k.code) ks → among c ks ≡ none → name_in ns c ≡ []
unfolding name_in among
alike c [] ks e h = refl
alike c (n ∷ ns) [] e h = impossible (cc)
alike c (n ∷ ns) (k ∷ ks) e h =
    let q : n.code ≡ k.code = cc in
    let r : map (λ (n : Name). n.code) ns ≡ map (λ (k : Code). k.code) ks = cc in
    rw q (go (eqb c k.code) (alike c ns ks r) h)
  where
    go : (b : Bool) → (among c ks ≡ none → name_in ns c ≡ []) → pick b (some k.needs) (among c ks) ≡ none → pick b (text n.name) (name_in ns c) ≡ []
    go true more h = impossible (cc)
    go false more h = more h

pub no_name : (c : ℕ) → required c ≡ none → kind_of c ≡ []
unfolding kind_of required names codes
no_name c h = go (is_error c) h
  where
    go : (b : Bool) → pick b (some (0x31 ∷ [])) (among c codes) ≡ none → pick b (text "error") (name_in names c) ≡ []
    go true h = impossible (cc)
    go false h = alike c names codes refl h

-- ---- how long a name is

-- no name of a table has more than m bytes: a test
unfoldable pub short : ℕ → List Name → Bool
short m [] = true
short m (x ∷ xs) = both (leb (length (text x.name)) m) (short m xs)

pub name-short : (m : ℕ) (xs : List Name) (c : ℕ) → T (short m xs) → length (name_in xs c) ≤ m
unfolding name_in short
name-short m [] c t = omega arith
name-short m (x ∷ xs) c t = go (eqb c x.code) (name-short m xs c (both_right (leb (length (text x.name)) m) (short m xs) t))
  where
    go : (b : Bool) → length (name_in xs c) ≤ m → length (pick b (text x.name) (name_in xs c)) ≤ m
    go true r = leb→le _ m (both_left (leb (length (text x.name)) m) (short m xs) t)
    go false r = r
