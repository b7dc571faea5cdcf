-- What is written is read back, whatever follows it, and no form that is read as the same is shorter.
-- 01: "Reading what was written gives the same numbers and the same bytes per view." "Numbers are written in the shortest form".
use Rattle.std.specs.Prelude.{ℕ, suc, ◌*◌, ◌^◌, ◌<◌, ◌≤◌, List, ◌++◌, ◌≡◌, length, take, drop, get_or, Some, Ok}
use Rattle.msgpack_first_bytes.specs.Bytes.{Bytes}
use Rattle.msgpack_values.specs.Value.{value}
use Rattle.msgpack_values.specs.Pieces.{joined, Each}
use Rattle.msgpack_scalars.specs.Start.{string_by, array_by, map_by}
use Rattle.msgpack_scalars.specs.Integer.{unsigned, integer}
use Rattle.msgpack_scalars.specs.Header.{header}
use Rattle.msgpack_scalars.specs.declared.Int.{Int}
use Rattle.msgpack_scalars.specs.declared.Int.TheVariants.{FromZero, BelowZero}
use Rattle.msgpack_writing.specs.Forms.{unsigned_form, negative_form, string_header, string_form, array_header, map_header}

-- "unsigned forms from 0 up, signed forms below 0"
abbrev pub integer_form : Int → Bytes
integer_form (FromZero n) = unsigned_form n
integer_form (BelowZero m) = negative_form m

-- "range -2^63 to 2^64-1"
abbrev pub InRange : Int → Type 0
InRange (FromZero n) = n < 2 ^ 64
InRange (BelowZero m) = m < 2 ^ 63

-- each byte is below 256, as those of every slice are
abbrev pub Octets : Bytes → Type 0
Octets s = (i : ℕ) → get_or s i 0 < 256

pub record NumbersReadBack : Type 0 where
  pub natural : (n : ℕ) (t : Bytes) → n < 2 ^ 64 → unsigned (unsigned_form n ++ t) ≡ Ok (n, length (unsigned_form n))
  pub integers : (z : Int) (t : Bytes) → InRange z → integer (integer_form z ++ t) ≡ Ok (z, length (integer_form z))
  pub whole : (d : ℕ) (z : Int) (t : Bytes) → InRange z → value d (integer_form z ++ t) ≡ Ok (length (integer_form z))

-- the same length, the same bytes, and one whole value at every depth
pub record StringsReadBack : Type 0 where
  pub long : (s t : Bytes) → length s < 2 ^ 32 → header string_by (string_form s ++ t) ≡ Some (length s, length (string_header (length s)))
  pub bytes : (s t : Bytes) → take (length s) (drop (length (string_header (length s))) (string_form s ++ t)) ≡ s
  pub whole : (d : ℕ) (s t : Bytes) → length s < 2 ^ 32 → value d (string_form s ++ t) ≡ Ok (length (string_form s))

-- the same count; and with values of depth d that are as many as it says, one whole value of depth 1 + d
pub record ContainersReadBack : Type 0 where
  pub array : (n : ℕ) (t : Bytes) → n < 2 ^ 32 → header array_by (array_header n ++ t) ≡ Some (n, length (array_header n))
  pub entries : (n : ℕ) (t : Bytes) → n < 2 ^ 32 → header map_by (map_header n ++ t) ≡ Some (n, length (map_header n))
  pub whole-array : (d n : ℕ) (fs : List Bytes) (t : Bytes) → Each (value d) fs → length fs ≡ n → n < 2 ^ 32
      → value (suc d) ((array_header n ++ joined fs) ++ t) ≡ Ok (length (array_header n ++ joined fs))
  pub whole-map : (d n : ℕ) (fs : List Bytes) (t : Bytes) → Each (value d) fs → length fs ≡ 2 * n → n < 2 ^ 32
      → value (suc d) ((map_header n ++ joined fs) ++ t) ≡ Ok (length (map_header n ++ joined fs))

-- whatever bytes are read as a number, a length or a count, in k bytes: the form written takes no more
pub record Shortest : Type 0 where
  pub number : (s : Bytes) → Octets s → (z : Int) (k : ℕ) → integer s ≡ Ok (z, k) → length (integer_form z) ≤ k
  pub string : (s : Bytes) → Octets s → (n k : ℕ) → header string_by s ≡ Some (n, k) → length (string_header n) ≤ k
  pub array : (s : Bytes) → Octets s → (n k : ℕ) → header array_by s ≡ Some (n, k) → length (array_header n) ≤ k
  pub entries : (s : Bytes) → Octets s → (n k : ℕ) → header map_by s ≡ Some (n, k) → length (map_header n) ≤ k
