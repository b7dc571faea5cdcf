-- The kinds of frames by name. "Kinds are the names above": those of document 01's 'Codes and required body keys'.
use Rattle.std.specs.Prelude.{ℕ, List, [], ◌∷◌, map, ◌≡◌, refl, eqb}
use Prim.Native.String.{String}
use Rattle.msgpack_first_bytes.specs.Bytes.{Bytes, pick}
use Rattle.frames.specs.Codes.{Code, codes, is_error}
use Rattle.frame_listing_fields.specs.Text.{text}

pub record Name : Type 0 where
  pub code : ℕ
  pub name : String

abbrev name : ℕ → String → Name
name c s = record { code = c; name = s }

unfoldable pub names : List Name
names =
    name 0x01 "select"
    ∷ name 0x02 "insert"
    ∷ name 0x03 "replace"
    ∷ name 0x04 "update"
    ∷ name 0x05 "delete"
    ∷ name 0x06 "call_16"
    ∷ name 0x0a "call"
    ∷ name 0x07 "auth"
    ∷ name 0x08 "eval"
    ∷ name 0x09 "upsert"
    ∷ name 0x40 "ping"
    ∷ name 0x00 "ok"
    ∷ []

-- the codes of this table are those of the codes' own
same_codes : map (λ (n : Name). n.code) names ≡ map (λ (c : Code). c.code) codes
unfolding names codes
same_codes = refl

unfoldable pub name_in : List Name → ℕ → Bytes
name_in [] c = []
name_in (n ∷ ns) c = pick (eqb c n.code) (text n.name) (name_in ns c)

-- the kind of a frame by its code; nothing for an unknown code, with which no frame is read
unfoldable pub kind_of : ℕ → Bytes
kind_of c = pick (is_error c) (text "error") (name_in names c)
