-- What was written is read back, whatever follows it. Assumes nothing.
use Rattle.std.specs.Prelude.{Some, Ok}
use mathlib.Core.Path.{◌≡◌, refl, ap, ◌∙◌}
use mathlib.Core.List.{List, ◌∷◌, ◌++◌, append_assoc}
use Prim.Native.Nat.{ℕ, suc, ◌+◌, ◌-◌, ◌*◌, ◌/◌, ◌^◌, ◌<◌, ◌≤◌}
use native.Mathlib.Nat.{zero-add, add-zero}
use native.Mathlib.Numerals.{one-add}
use native.Mathlib.Omega.{arith}
use borrow.Author.Tests.{le-leb, le-ltb}
use lib.ListN.{length, take, length-append}
use lib.Seq.{take_at, drop_at, take-append_seam, drop-append_seam}
use Rattle.msgpack_first_bytes.specs.Bytes.{Bytes}
use Rattle.msgpack_first_bytes.specs.FirstByte.{form_of, same_kind}
use Rattle.msgpack_first_bytes.specs.declared.Kind.{Kind}
use Rattle.msgpack_first_bytes.specs.declared.Kind.TheVariants.{Unsigned, Signed, String}
use Rattle.msgpack_first_bytes.specs.declared.Form.{Form}
use Rattle.msgpack_first_bytes.specs.declared.Form.TheVariants.{Scalar, Array, Map}
use Rattle.msgpack_first_bytes.proofs.Forms.{agree, short-map, short-array}
use Rattle.msgpack_numbers.specs.Number.{number}
use Rattle.msgpack_values.specs.Value.{shift, payload, sized, items, by_form, one, container, value, inside, Read}
use Rattle.msgpack_values.specs.Pieces.{joined, Each}
use Rattle.msgpack_scalars.proofs.Laws.{doubled}
use Rattle.msgpack_values.proofs.Laws.{value-one, shift-shift}
use Rattle.msgpack_values.proofs.Local.{value_good}
use Rattle.msgpack_values.proofs.Pieces.{items-joined}
use Rattle.msgpack_scalars.specs.Integer.{due_in, due, natural_of, unsigned_by, unsigned, twos_complement, signed_of, signed_by, signed, adding, integer}
use Rattle.msgpack_scalars.specs.Start.{string_by, array_by, map_by, Start}
use Rattle.msgpack_scalars.specs.Header.{counted, header}
use Rattle.msgpack_scalars.specs.declared.Int.{Int}
use Rattle.msgpack_scalars.specs.declared.Int.TheVariants.{FromZero, BelowZero}
use Rattle.msgpack_writing.specs.Forms.{big_endian, tagged, unsigned_form, negative_form, string_header, string_form, count_header, array_header, map_header}
use Rattle.msgpack_first_bytes.proofs.Logic.{by_ltb}
use Rattle.msgpack_writing.proofs.Lengths.{length-big_endian}
use Rattle.msgpack_read_back.specs.Claims.{integer_form, InRange, NumbersReadBack, StringsReadBack, ContainersReadBack}
use Rattle.msgpack_read_back.proofs.Digits.{number-big_endian}

-- ---- the bytes of a number, and what follows them

module _ (w x : ℕ) (t : Bytes) where
  there : w ≤ length (big_endian w x ++ t)
  there = rw (length-append, length-big_endian w x) (omega arith)

  digits-back : x < 256 ^ w → number (take w (big_endian w x ++ t)) ≡ x
  digits-back h = rw (take_at (big_endian w x) t w (length-big_endian w x)) (number-big_endian w x h)

  sized-back : (next : ℕ → Bytes → Read) → x < 256 ^ w → sized w next (big_endian w x ++ t) ≡ shift w (next x t)
  unfolding sized
  sized-back next h = rw (le-leb w _ there, digits-back h, drop_at (big_endian w x) t w (length-big_endian w x))

  counted_back : (f : ℕ) → x < 256 ^ w → counted (Some (w, f)) (big_endian w x ++ t) ≡ Some (x + f, 1 + w)
  unfolding counted
  counted_back f h = rw (le-leb w _ there, digits-back h)

-- ---- numbers: p is a first byte of the kind and its f bytes, which `of` reads as z, whatever follows

data Encodes {A : Type 0} (kind : Kind) (of : ℕ → Bytes → A) (z : A) : Bytes → Type 0 where
  encodes : (b f x : ℕ) → form_of b ≡ Scalar kind 0 f → ((t : Bytes) → of f (b ∷ (big_endian f x ++ t)) ≡ z) → Encodes kind of z (tagged b f x)

unsigned_shape : (n : ℕ) → n < 2 ^ 64 → Encodes Unsigned natural_of n (unsigned_form n)
unfolding unsigned_form big_endian form_of natural_of
unsigned_shape n h =
    by_ltb (Encodes Unsigned natural_of n) n 128 (λ k. encodes n 0 0 (agree form_of (λ _. Scalar Unsigned 0 0) 0 128 tt k (omega arith)) (λ t. refl))
    (λ _. by_ltb (Encodes Unsigned natural_of n) n (2 ^ 8) (λ k. encodes 0xcc 1 n refl (λ t. digits-back 1 n t k))
    (λ _. by_ltb (Encodes Unsigned natural_of n) n (2 ^ 16) (λ k. encodes 0xcd 2 n refl (λ t. digits-back 2 n t k))
    (λ _. by_ltb (Encodes Unsigned natural_of n) n (2 ^ 32) (λ k. encodes 0xce 4 n refl (λ t. digits-back 4 n t k))
    (λ _. encodes 0xcf 8 n refl (λ t. digits-back 8 n t h)))))

signed_back : (b f m : ℕ) (t : Bytes) → 2 ^ (8 * suc f) ≡ 256 ^ suc f → m < 2 ^ (8 * suc f - 1)
    → signed_of (suc f) (b ∷ (big_endian (suc f) (2 ^ (8 * suc f) - 1 - m) ++ t)) ≡ BelowZero m
unfolding signed_of twos_complement natural_of
signed_back b f m t p h =
    let q = doubled (suc f) (omega arith) in
    let x = 2 ^ (8 * suc f) - 1 - m in
    rw (digits-back (suc f) x t (omega arith), le-ltb x (2 ^ (8 * suc f - 1)) (omega arith)) (ap BelowZero (omega arith))

negative_shape : (m : ℕ) → m < 2 ^ 63 → Encodes Signed signed_of (BelowZero m) (negative_form m)
unfolding negative_form big_endian form_of signed_of
negative_shape m h =
    by_ltb (Encodes Signed signed_of (BelowZero m)) m 32
    (λ k. encodes (255 - m) 0 0 (agree form_of (λ _. Scalar Signed 0 0) 0xe0 32 tt {b = 255 - m} (omega arith) (omega arith)) (λ t. ap BelowZero (omega arith)))
    (λ _. by_ltb (Encodes Signed signed_of (BelowZero m)) m (2 ^ 7) (λ k. encodes 0xd0 1 (2 ^ 8 - 1 - m) refl (λ t. signed_back 0xd0 0 m t refl k))
    (λ _. by_ltb (Encodes Signed signed_of (BelowZero m)) m (2 ^ 15) (λ k. encodes 0xd1 2 (2 ^ 16 - 1 - m) refl (λ t. signed_back 0xd1 1 m t refl k))
    (λ _. by_ltb (Encodes Signed signed_of (BelowZero m)) m (2 ^ 31) (λ k. encodes 0xd2 4 (2 ^ 32 - 1 - m) refl (λ t. signed_back 0xd2 3 m t refl k))
    (λ _. by_ltb (Encodes Signed signed_of (BelowZero m)) m (2 ^ 63) (λ k. encodes 0xd3 8 (2 ^ 64 - 1 - m) refl (λ t. signed_back 0xd3 7 m t refl k))
    (λ k. absurd (omega arith))))))

-- what each reader says of such a p
unsigned_of : {n : ℕ} {p : Bytes} (t : Bytes) → Encodes Unsigned natural_of n p → unsigned (p ++ t) ≡ Ok (n, length p)
unfolding unsigned unsigned_by due due_in same_kind
unsigned_of t (encodes b f x e r) = rw (e, le-leb f _ (there f x t), r t, length-big_endian f x, one-add)

negative_of : {z : Int} {p : Bytes} (t : Bytes) → Encodes Signed signed_of z p → integer (p ++ t) ≡ Ok (z, length p)
unfolding integer adding unsigned unsigned_by signed signed_by due due_in same_kind
negative_of t (encodes b f x e r) = rw (e, le-leb f _ (there f x t), r t, length-big_endian f x, one-add)

whole_of : {A : Type 0} {kind : Kind} {of : ℕ → Bytes → A} {z : A} {p : Bytes} (d : ℕ) (t : Bytes) → Encodes kind of z p
    → value d (p ++ t) ≡ Ok (length p)
unfolding one by_form sized payload number
whole_of d t (encodes b f x e r) =
    rw (value-one, e, zero-add, le-leb 0 (length (big_endian f x ++ t)) (omega arith), le-leb f _ (there f x t), zero-add, length-big_endian f x, one-add)

pub unsigned_back : (n : ℕ) (t : Bytes) → n < 2 ^ 64 → unsigned (unsigned_form n ++ t) ≡ Ok (n, length (unsigned_form n))
unsigned_back n t h = unsigned_of t (unsigned_shape n h)

pub integer-back : (z : Int) (t : Bytes) → InRange z → integer (integer_form z ++ t) ≡ Ok (z, length (integer_form z))
unfolding integer adding
integer-back (FromZero n) t h = rw (unsigned_back n t h)
integer-back (BelowZero m) t h = negative_of t (negative_shape m h)

pub integer-whole : (d : ℕ) (z : Int) (t : Bytes) → InRange z → value d (integer_form z ++ t) ≡ Ok (length (integer_form z))
integer-whole d (FromZero n) t h = whole_of d t (unsigned_shape n h)
integer-whole d (BelowZero m) t h = whole_of d t (negative_shape m h)

-- ---- headers: p is a first byte that says form w f, and w bytes of a number x, with x + f in all

data Counts (form : ℕ → ℕ → Form) (n : ℕ) : Bytes → Type 0 where
  counts : (b w f x : ℕ) → form_of b ≡ form w f → x < 256 ^ w → x + f ≡ n → Counts form n (tagged b w x)

string_shape : (n : ℕ) → n < 2 ^ 32 → Counts (Scalar String) n (string_header n)
unfolding string_header big_endian form_of
string_shape n h =
    by_ltb (Counts (Scalar String) n) n 32
    (λ k. counts (0xa0 + n) 0 n 0 (agree form_of (λ b. Scalar String 0 (b - 0xa0)) 0xa0 32 tt {b = 0xa0 + n} (omega arith) (omega arith) ∙ ap (Scalar String 0) (omega arith)) (omega arith) (omega arith))
    (λ _. by_ltb (Counts (Scalar String) n) n (2 ^ 8) (λ k. counts 0xd9 1 0 n refl k (add-zero n))
    (λ _. by_ltb (Counts (Scalar String) n) n (2 ^ 16) (λ k. counts 0xda 2 0 n refl k (add-zero n))
    (λ _. counts 0xdb 4 0 n refl h (add-zero n))))

count_shape : (form : ℕ → ℕ → Form) (short long n : ℕ) → (n < 16 → form_of (short + n) ≡ form 0 n) → form_of long ≡ form 2 0 → form_of (long + 1) ≡ form 4 0
    → n < 2 ^ 32 → Counts form n (count_header short long n)
unfolding big_endian
count_shape form short long n e f g h =
    by_ltb (Counts form n) n 16 (λ k. counts (short + n) 0 n 0 (e k) (omega arith) (zero-add n))
    (λ _. by_ltb (Counts form n) n (2 ^ 16) (λ k. counts long 2 0 n f k (add-zero n)) (λ _. counts (long + 1) 4 0 n g h (add-zero n)))

array_shape : (n : ℕ) → n < 2 ^ 32 → Counts Array n (array_header n)
unfolding array_header form_of
array_shape n = count_shape Array 0x90 0xdc n (λ k. short-array {b = 0x90 + n} (omega arith) (omega arith) ∙ ap (Array 0) (omega arith)) refl refl

-- a first byte of a map counts a key and a value for each entry
abbrev MapOf : ℕ → ℕ → Form
MapOf w f = Map w (2 * f)

map_shape : (n : ℕ) → n < 2 ^ 32 → Counts MapOf n (map_header n)
unfolding map_header form_of
map_shape n = count_shape MapOf 0x80 0xde n (λ k. short-map {b = 0x80 + n} (omega arith) (omega arith) ∙ ap (Map 0) (omega arith)) refl refl

header_of : (by : Form → Start) {form : ℕ → ℕ → Form} {n : ℕ} {p : Bytes} (t : Bytes) → ((w f : ℕ) → by (form w f) ≡ Some (w, f))
    → Counts form n p → header by (p ++ t) ≡ Some (n, length p)
unfolding header
header_of by t r (counts b w f x e h s) = rw (e, r w f, counted_back w x t f h, s, length-big_endian w x, one-add)

string-header-back : (n : ℕ) (t : Bytes) → n < 2 ^ 32 → header string_by (string_header n ++ t) ≡ Some (n, length (string_header n))
unfolding same_kind
string-header-back n t h = header_of string_by t (λ w f. refl) (string_shape n h)

pub array-header-back : (n : ℕ) (t : Bytes) → n < 2 ^ 32 → header array_by (array_header n ++ t) ≡ Some (n, length (array_header n))
array-header-back n t h = header_of array_by t (λ w f. refl) (array_shape n h)

pub map-header-back : (n : ℕ) (t : Bytes) → n < 2 ^ 32 → header map_by (map_header n ++ t) ≡ Some (n, length (map_header n))
map-header-back n t h = header_of map_by t (λ w f. let e : 2 * f / 2 ≡ f = omega arith in rw e) (map_shape n h)

-- a header, and then what is due after it
begun_of : {form : ℕ → ℕ → Form} {n : ℕ} {p : Bytes} (d : ℕ) (t : Bytes) (due : Read)
    → ((w f x : ℕ) → x < 256 ^ w → x + f ≡ n → by_form (inside d) (form w f) (big_endian w x ++ t) ≡ shift 1 (shift w due))
    → Counts form n p → value d (p ++ t) ≡ shift (length p) due
unfolding one
begun_of d t due r (counts b w f x e h s) = rw (value-one, e, r w f x h s, shift-shift, length-big_endian w x, one-add)

module _ (d : ℕ) (t : Bytes) where
  string-begun : (n : ℕ) → n < 2 ^ 32 → value d (string_header n ++ t) ≡ shift (length (string_header n)) (payload n t)
  unfolding by_form
  string-begun n h =
      begun_of d t (payload n t) (λ w f x k s. rw (sized-back w x t (λ n t. payload (n + f) t) k, s)) (string_shape n h)

  array-begun : (n : ℕ) → n < 2 ^ 32 → value (suc d) (array_header n ++ t) ≡ shift (length (array_header n)) (items (value d) n t)
  unfolding by_form inside container
  array-begun n h =
      begun_of (suc d) t (items (value d) n t)
      (λ w f x k s. let e : x * 1 + f ≡ n = omega arith in rw (sized-back w x t (λ n t. items (value d) (n * 1 + f) t) k, e))
      (array_shape n h)

  map-begun : (n : ℕ) → n < 2 ^ 32 → value (suc d) (map_header n ++ t) ≡ shift (length (map_header n)) (items (value d) (2 * n) t)
  unfolding by_form inside container
  map-begun n h =
      begun_of (suc d) t (items (value d) (2 * n) t)
      (λ w f x k s. let e : x * 2 + 2 * f ≡ 2 * n = omega arith in rw (sized-back w x t (λ n t. items (value d) (n * 2 + 2 * f) t) k, e))
      (map_shape n h)

-- ---- a header followed by its content is one whole value

completed : (v : Bytes → Read) (h c t : Bytes) (due : Read) → v (h ++ (c ++ t)) ≡ shift (length h) due → due ≡ Ok (length c)
    → v ((h ++ c) ++ t) ≡ Ok (length (h ++ c))
completed v h c t due e f = rw (append_assoc, e, f, length-append)

payload-whole : (s t : Bytes) → payload (length s) (s ++ t) ≡ Ok (length s)
unfolding payload
payload-whole s t = rw (le-leb (length s) (length (s ++ t)) (rw length-append (omega arith)))

pub string-whole : (d : ℕ) (s t : Bytes) → length s < 2 ^ 32 → value d (string_form s ++ t) ≡ Ok (length (string_form s))
string-whole d s t h = completed (value d) (string_header (length s)) s t _ (string-begun d (s ++ t) (length s) h) (payload-whole s t)

module _ (d n : ℕ) (fs : List Bytes) (t : Bytes) (e : Each (value d) fs) where
  array_whole : length fs ≡ n → n < 2 ^ 32 → value (suc d) ((array_header n ++ joined fs) ++ t) ≡ Ok (length (array_header n ++ joined fs))
  array_whole l h =
      completed (value (suc d)) (array_header n) (joined fs) t _ (array-begun d (joined fs ++ t) n h)
      (rw l at (items-joined (value d) (value_good d) e t).0)

  pub map_whole : length fs ≡ 2 * n → n < 2 ^ 32 → value (suc d) ((map_header n ++ joined fs) ++ t) ≡ Ok (length (map_header n ++ joined fs))
  map_whole l h =
      completed (value (suc d)) (map_header n) (joined fs) t _ (map-begun d (joined fs ++ t) n h)
      (rw l at (items-joined (value d) (value_good d) e t).0)

-- ---- the claims

pub numbers_read-back : NumbersReadBack
numbers_read-back = record { natural = unsigned_back; integers = integer-back; whole = integer-whole }

pub strings_read-back : StringsReadBack
strings_read-back =
    record {
      long = λ s t h. rw append_assoc (string-header-back (length s) (s ++ t) h);
      bytes = λ s t. rw (append_assoc, drop-append_seam) (take-append_seam s t);
      whole = string-whole;
    }

pub containers_read-back : ContainersReadBack
containers_read-back = record { array = array-header-back; entries = map-header-back; whole-array = array_whole; whole-map = map_whole }
