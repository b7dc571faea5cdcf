-- Places that lie one behind the other are one place. Assumes nothing.
use mathlib.Core.Path.{◌≡◌, refl, sym, ap, ◌∙◌, subst}
use mathlib.Core.List.{List, [], ◌∷◌, ◌++◌, map, append_assoc}
use Prim.Native.Nat.{ℕ, zero, suc, ◌+◌, ◌-◌, ◌<◌}
use native.Mathlib.Nat.{add-zero}
use native.Mathlib.Omega.{arith}
use lib.ListN.{length, take, drop, get_or, length-append}
use lib.Seq.{take-append_seam, drop-append_seam, drop-drop}
use Rattle.msgpack_first_bytes.specs.Bytes.{Bytes}
use Rattle.msgpack_values.specs.Pieces.{joined}
use Rattle.tuples.specs.Tuple.{Fields}
use Rattle.update_places.specs.Place.{in_list, place_of, start_of, length_of, bytes_from, bytes_at, fields_in, Sources, Chain, sum, places_at}
use Rattle.update_places.proofs.Places.{start-place, length-place}
use Rattle.update_places.proofs.Runs.{from-tuple, from_nothing, beside}

pub chain-take : (a : ℕ) (ps : List ℕ) → Chain a ps → (k : ℕ) → Chain a (take k ps)
unfolding Chain
chain-take a ps c zero = tt
chain-take a [] c (suc k) = tt
chain-take a (p ∷ ps) c (suc k) = (c.0, chain-take (a + length_of p) ps c.1 k)

pub chain-drop : (a : ℕ) (ps : List ℕ) → Chain a ps → (k : ℕ) → Chain (a + sum (map length_of (take k ps))) (drop k ps)
unfolding Chain sum
chain-drop a ps c zero = rw add-zero c
chain-drop a [] c (suc k) = tt
chain-drop a (p ∷ ps) c (suc k) =
    let s = sum (map length_of (take k ps)) in
    let e : a + length_of p + s ≡ a + (length_of p + s) = omega arith in
    subst (λ (x : ℕ). Chain x (drop k ps)) e (chain-drop (a + length_of p) ps c.1 k)

pub chain_first : (a : ℕ) (ps : List ℕ) → Chain a ps → 0 < length ps → start_of (get_or ps 0 0) ≡ a
unfolding Chain
chain_first a [] c h = absurd (omega arith)
chain_first a (p ∷ ps) c h = c.0

pub chain-last : (a : ℕ) (ps : List ℕ) → Chain a ps → 0 < length ps
    → start_of (get_or ps (length ps - 1) 0) + length_of (get_or ps (length ps - 1) 0) ≡ a + sum (map length_of ps)
unfolding Chain sum
chain-last a [] c h = absurd (omega arith)
chain-last a (p ∷ []) c h = let e = c.0 in omega (arith, e)
chain-last a (p ∷ (q ∷ ps)) c h =
    let e : suc (suc (length ps)) - 1 ≡ suc (length ps) = omega arith in
    let f : suc (length ps) - 1 ≡ length ps = omega arith in
    let i = chain-last (a + length_of p) (q ∷ ps) c.1 (omega arith) in
    rw e (rw f at i ∙ omega arith)

-- A RUN is one piece, where each place lies whole in its source
pub chain-joined : (t l w : Bytes) → Sources t l → (a : ℕ) (ps : List ℕ) → Chain a ps → map length (fields_in t l w ps) ≡ map length_of ps
    → joined (fields_in t l w ps) ≡ bytes_from t l w a (sum (map length_of ps))
unfolding Chain sum fields_in joined bytes_at
chain-joined t l w S a [] c m = sym (from_nothing t l w a)
chain-joined t l w S a (p ∷ ps) c m =
    let n = length_of p in
    let e : bytes_from t l w (start_of p) n ≡ bytes_from t l w a n = ap (λ (x : ℕ). bytes_from t l w x n) c.0 in
    let f : length (bytes_from t l w a n) ≡ n = ap length (sym e) ∙ ap (λ (x : List ℕ). get_or x 0 0) m in
    let i = chain-joined t l w S (a + n) ps c.1 (ap (drop 1) m) in
    rw (e, i) (beside t l w S a n (sum (map length_of ps)) f)

-- ---- fields back to back

module _ (x : Bytes) (xs : Fields) (a : ℕ) (h : length (joined (x ∷ xs)) < 32768) (k : a + length (joined (x ∷ xs)) < 131072) where
  both : length (joined (x ∷ xs)) ≡ length x + length (joined xs)
  unfolding joined
  both = length-append x (joined xs)

  fewer : length (joined xs) < 32768
  fewer = let e = both in omega arith

  nearer : a + length x + length (joined xs) < 131072
  nearer = let e = both in omega arith

  start_here : start_of (place_of a (length x)) ≡ a
  start_here = let e = both in start-place a (length x) (omega arith) (omega arith)

  length_here : length_of (place_of a (length x)) ≡ length x
  length_here = let e = both in length-place a (length x) (omega arith) (omega arith)

pub chain-places_at : (a : ℕ) (fs : Fields) → length (joined fs) < 32768 → a + length (joined fs) < 131072 → Chain a (places_at a fs)
unfolding Chain places_at
chain-places_at a [] h k = tt
chain-places_at a (x ∷ xs) h k =
    (start_here x xs a h k, rw (length_here x xs a h k) (chain-places_at (a + length x) xs (fewer x xs a h k) (nearer x xs a h k)))

pub lengths-places_at : (a : ℕ) (fs : Fields) → length (joined fs) < 32768 → a + length (joined fs) < 131072
    → map length_of (places_at a fs) ≡ map length fs
unfolding places_at
lengths-places_at a [] h k = refl
lengths-places_at a (x ∷ xs) h k = rw (length_here x xs a h k, lengths-places_at (a + length x) xs (fewer x xs a h k) (nearer x xs a h k))

pub fields-places_at : (t l w : Bytes) (a : ℕ) (fs : Fields) (rest : Bytes) → length (joined fs) < 32768 → a + length (joined fs) < in_list
    → drop a t ≡ joined fs ++ rest → fields_in t l w (places_at a fs) ≡ fs
unfolding places_at fields_in bytes_at joined
fields-places_at t l w a [] rest h k e = refl
fields-places_at t l w a (x ∷ xs) rest h k e =
    let q : a + length (joined (x ∷ xs)) < 131072 = omega (arith, k) in
    let d : drop a t ≡ x ++ (joined xs ++ rest) = e ∙ append_assoc x (joined xs) rest in
    let r : drop (a + length x) t ≡ joined xs ++ rest = sym (drop-drop (length x) a t) ∙ ap (drop (length x)) d ∙ drop-append_seam x (joined xs ++ rest) in
    let b = both x xs a h q in
    let i = fields-places_at t l w (a + length x) xs rest (fewer x xs a h q) (omega (arith, b)) r in
    rw (start_here x xs a h q, length_here x xs a h q, from-tuple t l w a (length x) (omega arith), d, take-append_seam, i)
