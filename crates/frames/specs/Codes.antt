-- The codes, and the body keys that each requires.
use Rattle.std.specs.Prelude.{ℕ, Bool, ◌&&◌, List, [], ◌∷◌, leb, eqb}
use Rattle.std.proofs.Math.Option.{Option, none, some}
use Rattle.msgpack_first_bytes.specs.Bytes.{pick}

pub record Code : Type 0 where
  pub code : ℕ
  pub needs : List ℕ

abbrev pub code : ℕ → List ℕ → Code
code c ks = record { code = c; needs = ks }

-- "Codes and required body keys"; 02, request 2: "From now on 0x11, 0x13 and 0x14 are required nowhere"
unfoldable pub codes : List Code
codes =
    code 0x01 (0x10 ∷ 0x12 ∷ 0x20 ∷ [])  -- select
    ∷ code 0x02 (0x10 ∷ 0x21 ∷ [])  -- insert
    ∷ code 0x03 (0x10 ∷ 0x21 ∷ [])  -- replace
    ∷ code 0x04 (0x10 ∷ 0x20 ∷ 0x21 ∷ [])  -- update
    ∷ code 0x05 (0x10 ∷ 0x20 ∷ [])  -- delete
    ∷ code 0x06 (0x22 ∷ 0x21 ∷ [])  -- call_16
    ∷ code 0x0a (0x22 ∷ 0x21 ∷ [])  -- call
    ∷ code 0x07 (0x23 ∷ 0x21 ∷ [])  -- auth
    ∷ code 0x08 (0x27 ∷ 0x21 ∷ [])  -- eval
    ∷ code 0x09 (0x10 ∷ 0x21 ∷ 0x28 ∷ [])  -- upsert
    ∷ code 0x40 []  -- ping
    ∷ code 0x00 []  -- ok
    ∷ []

unfoldable pub among : ℕ → List Code → Option (List ℕ)
among c [] = none
among c (x ∷ xs) = pick (eqb c x.code) (some x.needs) (among c xs)

-- "0x8000 to 0x8fff error (31)"
unfoldable pub is_error : ℕ → Bool
is_error c = leb 0x8000 c && leb c 0x8fff

-- the body keys that a code requires by a list of codes; none: an unknown code
abbrev pub required_in : List Code → ℕ → Option (List ℕ)
required_in xs c = pick (is_error c) (some (0x31 ∷ [])) (among c xs)

unfoldable pub required : ℕ → Option (List ℕ)
required c = required_in codes c
