-- Which first bytes start an unsigned number and an integer, computed over all 256; and worked cases.
use Rattle.std.specs.Prelude.{ℕ, zero, suc, Bool, true, false, ◌&&◌, ◌||◌, List, [], ◌∷◌, map, ◌≡◌, refl, leb, Some, None, Ok, Err}
use Rattle.msgpack_first_bytes.specs.Bytes.{Bytes}
use Rattle.msgpack_first_bytes.specs.FirstByte.{form_of, same_kind}
use Rattle.msgpack_numbers.specs.Number.{number}
use Rattle.msgpack_first_bytes.specs.declared.Kind.TheVariants.{Unsigned, Signed}
use Rattle.msgpack_scalars.specs.Start.{scalar_of, start_by, Start}
use Rattle.msgpack_scalars.specs.Integer.{due_in, due, natural_of, unsigned_by, unsigned, twos_complement, signed_of, signed_by, signed, adding, integer, Natural, Integer}
use Rattle.msgpack_scalars.specs.Header.{counted, header, Header}
use Rattle.msgpack_scalars.specs.declared.Int.TheVariants.{FromZero, BelowZero}
use Rattle.msgpack_scalars.specs.declared.Opening.{Opening}
use Rattle.msgpack_scalars.specs.declared.Opening.TheVariants.{String, Array, Map}
use Rattle.msgpack_scalars.specs.declared.NoNumber.TheVariants.{Cut, Other}

up_from : ℕ → ℕ → List ℕ
up_from b zero = []
up_from b (suc n) = b ∷ up_from (suc b) n

starts : Start → Bool
starts (Some (w, f)) = true
starts None = false

between : ℕ → ℕ → ℕ → Bool
between a b x = leb a x && leb x b

-- '"Unsigned" means forms 00 to 7f and cc to cf. "Integer" adds e0 to ff and d0 to d3'
first_bytes : (map (λ b. starts (scalar_of Unsigned (form_of b))) (up_from 0 256) ≡ map (λ b. between 0x00 0x7f b || between 0xcc 0xcf b) (up_from 0 256))
    × (map (λ b. starts (scalar_of Signed (form_of b))) (up_from 0 256) ≡ map (λ b. between 0xe0 0xff b || between 0xd0 0xd3 b) (up_from 0 256))
unfolding up_from starts between form_of same_kind
first_bytes = (refl, refl)

record Case (A : Type 0) : Type 0 where
  bytes : Bytes
  answer : A

abbrev case : {A : Type 0} → Bytes → A → Case A
case b a = record { bytes = b; answer = a }

abbrev unsigneds : List (Case Natural)
unsigneds =
    case (0x00 ∷ []) (Ok (0, 1))
    ∷ case (0x7f ∷ 0x01 ∷ []) (Ok (127, 1))
    ∷ case (0xcc ∷ 0x05 ∷ []) (Ok (5, 2))
    ∷ case (0xcd ∷ 0x02 ∷ 0x00 ∷ []) (Ok (512, 3))
    ∷ case (0xce ∷ 0x00 ∷ 0x00 ∷ 0xea ∷ 0x61 ∷ []) (Ok (60001, 5))
    ∷ case (0xcf ∷ 0xff ∷ 0xff ∷ 0xff ∷ 0xff ∷ 0xff ∷ 0xff ∷ 0xff ∷ 0xff ∷ []) (Ok (18446744073709551615, 9))
    ∷ case [] (Err Cut)
    ∷ case (0xcd ∷ 0x02 ∷ []) (Err Cut)
    ∷ case (0xe0 ∷ []) (Err Other)
    ∷ case (0xd0 ∷ 0x05 ∷ []) (Err Other)
    ∷ case (0x80 ∷ []) (Err Other)
    ∷ []

abbrev integers : List (Case Integer)
integers =
    case (0xcc ∷ 0x05 ∷ []) (Ok (FromZero 5, 2))
    ∷ case (0xd0 ∷ 0x05 ∷ []) (Ok (FromZero 5, 2))
    ∷ case (0xff ∷ []) (Ok (BelowZero 0, 1))
    ∷ case (0xe0 ∷ []) (Ok (BelowZero 31, 1))
    ∷ case (0xd0 ∷ 0x80 ∷ []) (Ok (BelowZero 127, 2))
    ∷ case (0xd1 ∷ 0xff ∷ 0x7f ∷ []) (Ok (BelowZero 128, 3))
    ∷ case (0xd3 ∷ 0x80 ∷ 0x00 ∷ 0x00 ∷ 0x00 ∷ 0x00 ∷ 0x00 ∷ 0x00 ∷ 0x00 ∷ []) (Ok (BelowZero 9223372036854775807, 9))
    ∷ case (0xd3 ∷ 0x7f ∷ 0xff ∷ 0xff ∷ 0xff ∷ 0xff ∷ 0xff ∷ 0xff ∷ 0xff ∷ []) (Ok (FromZero 9223372036854775807, 9))
    ∷ case (0xd1 ∷ 0xff ∷ []) (Err Cut)
    ∷ case (0xa1 ∷ 0x61 ∷ []) (Err Other)
    ∷ []

record Asked : Type 0 where
  opening : Opening
  bytes : Bytes
  answer : Header

abbrev asked : Opening → Bytes → Header → Asked
asked o b a = record { opening = o; bytes = b; answer = a }

abbrev headers : List Asked
headers =
    asked Array (0x93 ∷ []) (Some (3, 1))
    ∷ asked Array (0xdd ∷ 0x00 ∷ 0x00 ∷ 0x00 ∷ 0x01 ∷ []) (Some (1, 5))
    ∷ asked Array (0x83 ∷ []) None
    ∷ asked Map (0x83 ∷ []) (Some (3, 1))
    ∷ asked Map (0xde ∷ 0x01 ∷ 0x00 ∷ []) (Some (256, 3))
    ∷ asked Map (0xde ∷ 0x01 ∷ []) None
    ∷ asked String (0xbf ∷ []) (Some (31, 1))
    ∷ asked String (0xda ∷ 0x01 ∷ 0x02 ∷ []) (Some (258, 3))
    ∷ asked String (0xc4 ∷ 0x01 ∷ 0x00 ∷ []) None
    ∷ asked String [] None
    ∷ []

examples : (map (λ (c : Case Natural). unsigned c.bytes) unsigneds ≡ map (λ (c : Case Natural). c.answer) unsigneds)
    × (map (λ (c : Case Integer). integer c.bytes) integers ≡ map (λ (c : Case Integer). c.answer) integers)
    × (map (λ (c : Asked). header (start_by c.opening) c.bytes) headers ≡ map (λ (c : Asked). c.answer) headers)
unfolding form_of same_kind number due_in due natural_of unsigned_by unsigned twos_complement signed_of signed_by signed adding integer counted header
examples = (refl, refl, refl)
