-- A place holds its start and its length; the fields of edited places. Assumes nothing.
use mathlib.Core.Path.{◌≡◌, refl, ap}
use mathlib.Core.List.{List, [], ◌∷◌, map, map-append}
use Prim.Native.Nat.{ℕ, zero, suc, ◌^◌, ◌<◌}
use native.Mathlib.Omega.{arith}
use lib.ListN.{take, drop}
use Rattle.msgpack_first_bytes.specs.Bytes.{Bytes}
use Rattle.tuples.specs.Edit.{spliced}
use Rattle.update_places.specs.Place.{place_of, start_of, length_of, bytes_at, fields_in}

module _ (at n : ℕ) where
  pub place-small : place_of at n < 2 ^ 32
  unfolding place_of
  place-small = omega arith

  pub start-place : at < 131072 → n < 32768 → start_of (place_of at n) ≡ at
  unfolding start_of place_of
  start-place h k = omega arith

  pub length-place : at < 131072 → n < 32768 → length_of (place_of at n) ≡ n
  unfolding length_of place_of
  length-place h k = omega arith

module _ {A B : Type 0} (g : A → B) where
  pub map-take : (n : ℕ) (s : List A) → map g (take n s) ≡ take n (map g s)
  map-take zero s = refl
  map-take (suc n) [] = refl
  map-take (suc n) (x ∷ s) = ap (λ (r : List B). g x ∷ r) (map-take n s)

  pub map-drop : (n : ℕ) (s : List A) → map g (drop n s) ≡ drop n (map g s)
  map-drop zero s = refl
  map-drop (suc n) [] = refl
  map-drop (suc n) (x ∷ s) = map-drop n s

  pub map-spliced : (f c : ℕ) (x s : List A) → map g (spliced f c x s) ≡ spliced f c (map g x) (map g s)
  unfolding spliced
  map-spliced f c x s = rw (map-append, map-append, map-take, map-drop)

pub fields-spliced : (t l w : Bytes) (f c : ℕ) (x es : List ℕ) → fields_in t l w (spliced f c x es) ≡ spliced f c (fields_in t l w x) (fields_in t l w es)
unfolding fields_in
fields-spliced t l w f c x es = map-spliced (bytes_at t l w) f c x es
