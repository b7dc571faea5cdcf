-- No form that is read as a number, a length or a count is shorter than the form that is written: a larger number has no shorter form,
-- and the greatest number that a first byte can say has one that is no longer; that is one test over all first bytes. Assumes nothing.
use Rattle.std.specs.Prelude.{Some, None, Result, Ok, Err}
use mathlib.Core.Path.{◌≡◌, refl, ap}
use mathlib.Core.Bool.{Bool, true}
use mathlib.Core.List.{[], ◌∷◌}
use Prim.Native.Nat.{ℕ, zero, suc, ◌+◌, ◌-◌, ◌*◌, ◌^◌, ◌≤◌}
use native.Mathlib.Omega.{arith}
use lib.Dec.{T, leb, leb→le}
use lib.ListN.{length, take}
use Rattle.msgpack_first_bytes.specs.Bytes.{Bytes}
use Rattle.msgpack_first_bytes.specs.FirstByte.{form_of, same_kind}
use Rattle.msgpack_first_bytes.specs.declared.Kind.{Kind}
use Rattle.msgpack_first_bytes.specs.declared.Kind.TheVariants.{Unsigned, Signed}
use Rattle.msgpack_first_bytes.specs.declared.Form.{Form}
use Rattle.msgpack_first_bytes.proofs.Logic.{impossible, by_leb, by_ltb}
use Rattle.msgpack_first_bytes.proofs.Range.{both, both_left, both_right, all, all-at}
use Rattle.msgpack_numbers.specs.Number.{number}
use Rattle.msgpack_scalars.specs.Start.{scalar_of, string_by, array_by, map_by, Start}
use Rattle.msgpack_scalars.specs.Integer.{due_in, due, natural_of, unsigned_by, unsigned, twos_complement, signed_of, signed_by, signed, adding, integer, Due}
use Rattle.msgpack_scalars.specs.Header.{counted, header, Header}
use Rattle.msgpack_scalars.specs.declared.Int.{Int}
use Rattle.msgpack_scalars.specs.declared.Int.TheVariants.{FromZero}
use Rattle.msgpack_writing.specs.Forms.{big_endian, unsigned_form, negative_form, string_header, array_header, map_header}
use Rattle.msgpack_writing.proofs.Lengths.{unsigned_mono, negative_mono, string_mono, array_mono, map_mono}
use Rattle.msgpack_read_back.specs.Claims.{Octets, integer_form, Shortest}
use Rattle.msgpack_read_back.proofs.Digits.{number-take}
use Rattle.msgpack_scalars.specs.declared.NoNumber.TheVariants.{Cut, Other}

-- ---- what is answered is the same in both of its parts

parts : {A B : Type 0} {a c : A} {b d : B} → ◌≡◌ {A = A × B} (a, b) (c, d) → (a ≡ c) × (b ≡ d)
parts {A} {B} e = (ap (λ (x : A × B). x.0) e, ap (λ (x : A × B). x.1) e)

ok_parts : {A B E : Type 0} {a c : A} {b d : B} → ◌≡◌ {A = Result (A × B) E} (Ok (a, b)) (Ok (c, d)) → (a ≡ c) × (b ≡ d)
ok_parts e = parts cc

some_parts : {a b c d : ℕ} → ◌≡◌ {A = Header} (Some (a, b)) (Some (c, d)) → (a ≡ c) × (b ≡ d)
some_parts e = parts cc

-- ---- headers

-- the form of the greatest number that a start says is no longer than the start
abbrev header_test : (ℕ → Bytes) → Start → Bool
header_test form (Some (w, f)) = leb (length (form (256 ^ w - 1 + f))) (1 + w)
header_test form None = true

module _ (form : ℕ → Bytes) (mono : (n m : ℕ) → n ≤ m → length (form n) ≤ length (form m)) where
  counted-short : (x : Start) → T (header_test form x) → (s : Bytes) → Octets s → (n k : ℕ) → counted x s ≡ Some (n, k) → length (form n) ≤ k
  unfolding counted
  counted-short (Some (w, f)) t s o n k e = by_leb (λ (h : Header). h ≡ Some (n, k) → length (form n) ≤ k) w (length s) fits (λ _ q. impossible cc) e
    where
      fits : w ≤ length s → ◌≡◌ {A = Header} (Some (number (take w s) + f, 1 + w)) (Some (n, k)) → length (form n) ≤ k
      fits h q =
          let e = some_parts q in
          let b = number-take w s o h in
          let m : length (form n) ≤ length (form (256 ^ w - 1 + f)) = mono n (256 ^ w - 1 + f) (omega arith) in
          let l : length (form (256 ^ w - 1 + f)) ≤ 1 + w = leb→le _ _ t in
          omega arith
  counted-short None t s o n k e = impossible cc

  header-short : (by : Form → Start) → T (all (λ b. header_test form (by (form_of b))) 0 256) → (s : Bytes) → Octets s → (n k : ℕ)
      → header by s ≡ Some (n, k) → length (form n) ≤ k
  unfolding header
  header-short by t [] o n k e = impossible cc
  header-short by t (b ∷ s) o n k e =
      counted-short (by (form_of b)) (all-at (λ b. header_test form (by (form_of b))) 0 256 t (o 0) (omega arith)) s (λ i. o (suc i)) n k e

-- ---- numbers

-- what is read of f bytes after a first byte b has a form of no more than 1 + f bytes, where b and f pass a test
abbrev Short : (ℕ → Bytes → Int) → ℕ → ℕ → Type 0
Short of b f = (s : Bytes) → Octets s → f ≤ length s → length (integer_form (of f (b ∷ s))) ≤ 1 + f

abbrev start_test : (ℕ → ℕ → Bool) → ℕ → Start → Bool
start_test test b (Some (w, f)) = test b f
start_test test b None = true

number_short : (kind : Kind) (of : ℕ → Bytes → Int) (test : ℕ → ℕ → Bool) → ((b f : ℕ) → T (test b f) → Short of b f)
    → T (all (λ b. start_test test b (scalar_of kind (form_of b))) 0 256) → (s : Bytes) → Octets s → (f : ℕ) → due kind s ≡ Ok f
    → length (integer_form (of f s)) ≤ 1 + f
unfolding due due_in
number_short kind of test h t [] o f e = impossible cc
number_short kind of test h t (b ∷ s) o f e =
    go (scalar_of kind (form_of b)) (all-at (λ b. start_test test b (scalar_of kind (form_of b))) 0 256 t (o 0) (omega arith)) e
  where
    go : (x : Start) → T (start_test test b x) → due_in x s ≡ Ok f → length (integer_form (of f (b ∷ s))) ≤ 1 + f
    go (Some (w, g)) t e =
        by_leb (λ (d : Due). d ≡ Ok f → length (integer_form (of f (b ∷ s))) ≤ 1 + f) g (length s)
        (λ l q. let i : g ≡ f = cc in rw (← i) (h b g t s (λ i. o (suc i)) l)) (λ _ q. impossible cc) e
    go None t e = impossible cc

-- the greatest number that a first byte b and f bytes say
abbrev most : ℕ → ℕ → ℕ
most b zero = b
most b (suc f) = 256 ^ suc f - 1

natural-most : (b f : ℕ) (s : Bytes) → Octets s → f ≤ length s → natural_of f (b ∷ s) ≤ most b f
unfolding natural_of
natural-most b zero s o h = omega arith
natural-most b (suc f) s o h = omega (arith, number-take (suc f) s o h)

abbrev unsigned_test : ℕ → ℕ → Bool
unsigned_test b f = leb (length (unsigned_form (most b f))) (1 + f)

unsigned-short : (b f : ℕ) → T (unsigned_test b f) → Short (λ f s. FromZero (natural_of f s)) b f
unsigned-short b f t s o h =
    let m = unsigned_mono (natural_of f (b ∷ s)) (most b f) (natural-most b f s o h) in
    let l : length (unsigned_form (most b f)) ≤ 1 + f = leb→le _ _ t in
    omega arith

-- of w bytes in two's complement: the greatest number, and the least, as m of -1 - m
abbrev top : ℕ → ℕ
top w = 2 ^ (8 * w - 1) - 1

abbrev bottom : ℕ → ℕ
bottom w = 2 ^ (8 * w) - 1 - 2 ^ (8 * w - 1)

abbrev signed_test : ℕ → ℕ → Bool
signed_test b zero = leb (length (negative_form (255 - b))) 1
signed_test b (suc f) =
    both (leb (length (unsigned_form (top (suc f)))) (1 + suc f))
    (both (leb (length (negative_form (bottom (suc f)))) (1 + suc f)) (leb (1 + bottom (suc f)) (2 ^ 63)))

both-le : (a b c d e f : ℕ) → T (both (leb a b) (both (leb c d) (leb e f))) → (a ≤ b) × ((c ≤ d) × (e ≤ f))
both-le a b c d e f t =
    let u = both_right (leb a b) (both (leb c d) (leb e f)) t in
    (leb→le a b (both_left (leb a b) (both (leb c d) (leb e f)) t), (leb→le c d (both_left (leb c d) (leb e f) u), leb→le e f (both_right (leb c d) (leb e f) u)))

signed-short : (b f : ℕ) → T (signed_test b f) → Short signed_of b f
unfolding signed_of twos_complement
signed-short b zero t s o h = leb→le _ _ t
signed-short b (suc f) t s o h =
    let l = both-le (length (unsigned_form (top (suc f)))) (1 + suc f) (length (negative_form (bottom (suc f)))) (1 + suc f) (1 + bottom (suc f)) (2 ^ 63) t in
    let n = natural_of (suc f) (b ∷ s) in
    by_ltb (λ (z : Int). length (integer_form z) ≤ 1 + suc f) n (2 ^ (8 * suc f - 1))
    (λ k. let m = unsigned_mono n (top (suc f)) (omega arith) in omega arith)
    (λ k. let m = negative_mono (2 ^ (8 * suc f) - 1 - n) (bottom (suc f)) (omega arith) (omega arith) in omega arith)

-- in every form that is read as an integer, the signed ones of numbers from 0 up too
integer_shortest : (s : Bytes) → Octets s → (z : Int) (k : ℕ) → integer s ≡ Ok (z, k) → length (integer_form z) ≤ k
unfolding integer adding unsigned unsigned_by signed signed_by same_kind form_of unsigned_form negative_form big_endian
integer_shortest s o z k e = go (due Unsigned s) refl (due Signed s) refl e
  where
    go : (d : Due) → due Unsigned s ≡ d → (c : Due) → due Signed s ≡ c → adding (unsigned_by d s) (signed_by c s) ≡ Ok (z, k) → length (integer_form z) ≤ k
    go (Ok f) q c r e =
        let p = ok_parts e in
        rw (← p.0, ← p.1) (number_short Unsigned (λ f s. FromZero (natural_of f s)) unsigned_test unsigned-short tt s o f q)
    go (Err Cut) q c r e = impossible cc
    go (Err Other) q (Ok f) r e =
        let p = ok_parts e in
        rw (← p.0, ← p.1) (number_short Signed signed_of signed_test signed-short tt s o f r)
    go (Err Other) q (Err Cut) r e = impossible cc
    go (Err Other) q (Err Other) r e = impossible cc

pub shortest : Shortest
unfolding same_kind form_of string_header array_header map_header big_endian
shortest =
    record {
      number = integer_shortest;
      string = header-short string_header string_mono string_by tt;
      array = header-short array_header array_mono array_by tt;
      entries = header-short map_header map_mono map_by tt;
    }
