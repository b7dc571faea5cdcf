-- What the first bytes of a value tell, one law for each way that `token_at` and the functions below it take. Assumes nothing.
use Rattle.std.specs.Prelude.{Ok, Err}
use mathlib.Core.Path.{◌≡◌, refl, sym, ap, ◌∙◌}
use mathlib.Core.Logic.{⊎_elim}
use Prim.Native.Nat.{ℕ, zero, suc, ◌+◌, ◌-◌, ◌*◌, ◌<◌, ◌≤◌}
use native.Mathlib.Nat.{add-zero, zero-add, zero-mul}
use native.Mathlib.Omega.{arith}
use borrow.Author.Tests.{le-leb, lt-leb, eq-eqb, ne_eqb}
use lib.Dec.{eqb}
use lib.ListN.{length, take, drop, get_or}
use Rattle.msgpack_first_bytes.specs.Bytes.{Bytes, pick}
use Rattle.msgpack_first_bytes.specs.FirstByte.{form_of}
use Rattle.msgpack_first_bytes.specs.Entry.{length_bytes, kind_digit, fixed_payload, entry_of, array_of_one, common_length}
use Rattle.msgpack_first_bytes.specs.declared.Kind.{Kind}
use Rattle.msgpack_first_bytes.specs.declared.Form.TheVariants.{Scalar, Array, Map}
use Rattle.msgpack_first_bytes.proofs.Logic.{impossible, either, equal}
use Rattle.msgpack_first_bytes.proofs.Entries as Entries
use Rattle.msgpack_numbers.specs.Number.{number}
use Rattle.msgpack_numbers.proofs.Big.{number-first}
use Rattle.msgpack_values.specs.Value.{shift, payload, sized, items, by_form, value, inside, Read}
use Rattle.msgpack_values.specs.Tokens.{first_byte_entry, Width, values_of, token_of, Heads, Ones, Tells, Found}
use Rattle.msgpack_values.specs.declared.Token.TheVariants as T
use Rattle.msgpack_values.proofs.Laws as Laws

-- ---- a container, by its count

inside-counted : (s : Bytes) (at d w f p n m : ℕ) → 0 < d → at + 1 + w ≤ length s → n ≡ number (take w (drop (at + 1) s)) → m ≡ n * p + f
    → shift at (inside d w f p (drop (at + 1) s)) ≡ shift (at + 1 + w) (items (value (d - 1)) m (drop (at + 1 + w) s))
inside-counted s at d w f p n m h l e q =
    let z : d ≡ suc (d - 1) = omega arith in
    ap (λ (d : ℕ). shift at (inside d w f p (drop (at + 1) s))) z
    ∙ Laws.inside-items s at (d - 1) w f p
    ∙ Laws.sized-is s (at + 1) w n (λ n t. items (value (d - 1)) (n * p + f) t) l e
    ∙ ap (λ (m : ℕ). shift (at + 1 + w) (items (value (d - 1)) m (drop (at + 1 + w) s))) (sym q)

-- ---- the entry at a place

pub entry_here : (s : Bytes) (at : ℕ) → at < length s → entry_of (get_or s at 0) ≡ first_byte_entry s at
unfolding first_byte_entry
entry_here s at h = simp (lt-leb (length s) at h)

pub entry_past : (s : Bytes) (at : ℕ) → length s ≤ at → 0x0f00 ≡ first_byte_entry s at
unfolding first_byte_entry
entry_past s at h = simp (le-leb (length s) at h)

-- an entry of another byte than the unused one stands inside
pub within : (s : Bytes) (at e : ℕ) → e ≡ first_byte_entry s at → (e ≡ 0x0f00 → ⊥) → at < length s
within s at e q n = ⊎_elim (λ h. absurd (n (q ∙ sym (entry_past s at h)))) (λ h. h) (either (length s) at)

module _ (s : Bytes) (at e d : ℕ) (q : e ≡ first_byte_entry s at) where
  own : at < length s → e ≡ entry_of (get_or s at 0)
  own h = q ∙ sym (entry_here s at h)

  pub unused : e ≡ 0x0f00 → Err at ≡ shift at (value d (drop at s))
  unused z =
      ⊎_elim (λ h. Laws.value_end s at d h) (λ h. Laws.value_unused s at d h (Entries.unused_said (get_or s at 0) e (own h) (omega arith))) (either (length s) at)

  -- ---- a scalar

  scalar : (h : at < length s) → kind_digit e < 9
      → shift at (value d (drop at s)) ≡ shift (at + 1) (sized (length_bytes e) (λ n t. payload (n + fixed_payload e) t) (drop (at + 1) s))
  scalar h k = Laws.value_scalar s at d _ (length_bytes e) (fixed_payload e) h (Entries.scalar_said (get_or s at 0) e (own h) k)

  pub told : e < 0x900 → shift (at + 1) (payload (fixed_payload e) (drop (at + 1) s)) ≡ shift at (value d (drop at s))
  unfolding number
  told l =
      let h : at < length s = within s at e q (λ z. omega arith) in
      let z : length_bytes e ≡ 0 = omega arith in
      sym (rw z at (scalar h (omega arith)) ∙ Laws.sized-is s (at + 1) 0 0 (λ n t. payload (n + fixed_payload e) t) (omega arith) refl ∙ rw (add-zero, zero-add))

  -- 1, 2 or 4 length bytes, and nothing fixed but an ext's type
  pub wide : 1 ≤ length_bytes e → Entries.Wide e
  wide w = Entries.wide_said (get_or s at 0) e (own (within s at e q (λ z. omega arith))) w

  pub width_of : 1 ≤ length_bytes e → Width (length_bytes e)
  width_of w = (w, ((wide w).most, (wide w).not_three))

  pub long : 0x900 ≤ e → kind_digit e < 9 → shift (at + 1) (sized (length_bytes e) (λ n t. payload (n + fixed_payload e) t) (drop (at + 1) s)) ≡ shift at (value d (drop at s))
  long l k = sym (scalar (within s at e q (λ z. omega arith)) k)

  -- ---- a container

  module _ (k : 9 ≤ kind_digit e) (n : e ≡ 0x0f00 → ⊥) where
    pub there : at < length s
    there = within s at e q n

    opens : value d (drop at s) ≡ inside d (length_bytes e) (fixed_payload e) (pick (eqb (kind_digit e) 9) 1 2) (drop (at + 1) s)
    unfolding by_form
    opens = ⊎_elim array (λ l. ⊎_elim (map l) (λ m. absurd (n (none m))) (either (kind_digit e) 10)) (either (kind_digit e) 9)
      where
        array : kind_digit e ≤ 9 → value d (drop at s) ≡ inside d (length_bytes e) (fixed_payload e) (pick (eqb (kind_digit e) 9) 1 2) (drop (at + 1) s)
        array l =
            let z : kind_digit e ≡ 9 = omega arith in
            rw (eq-eqb (kind_digit e) 9 z) (Laws.value-at s at d (Array (length_bytes e) (fixed_payload e)) there (Entries.array_said (get_or s at 0) e (own there) z))

        map : 9 < kind_digit e → kind_digit e ≤ 10 → value d (drop at s) ≡ inside d (length_bytes e) (fixed_payload e) (pick (eqb (kind_digit e) 9) 1 2) (drop (at + 1) s)
        map l m =
            let z : kind_digit e ≡ 10 = omega arith in
            rw (ne_eqb (kind_digit e) 9 (λ y. omega arith)) (Laws.value-at s at d (Map (length_bytes e) (fixed_payload e)) there (Entries.map_said (get_or s at 0) e (own there) z))

        none : 10 < kind_digit e → e ≡ 0x0f00
        none m = own there ∙ Entries.unused_entry (get_or s at 0) (Entries.unused_said (get_or s at 0) e (own there) m)

    pub cut : 0 < d → length s < at + 1 + length_bytes e → Err (length s) ≡ shift at (value d (drop at s))
    cut g l =
        let z : d ≡ suc (d - 1) = omega arith in
        Laws.sized_missing s (at + 1) (length_bytes e) _ (omega (arith, there)) l
        ∙ sym (ap (shift at) opens
        ∙ ap (λ (d : ℕ). shift at (inside d (length_bytes e) (fixed_payload e) (pick (eqb (kind_digit e) 9) 1 2) (drop (at + 1) s))) z
        ∙ Laws.inside-items s at (d - 1) (length_bytes e) (fixed_payload e) (pick (eqb (kind_digit e) 9) 1 2))

    pub holds : (m : ℕ) → 0 < d → at + 1 + length_bytes e ≤ length s → m ≡ values_of e (drop (at + 1) s)
        → shift at (value d (drop at s)) ≡ shift (at + 1 + length_bytes e) (items (value (d - 1)) m (drop (at + 1 + length_bytes e) s))
    unfolding values_of
    holds m g l v =
        ap (shift at) opens
        ∙ inside-counted s at d (length_bytes e) (fixed_payload e) (pick (eqb (kind_digit e) 9) 1 2) (number (take (length_bytes e) (drop (at + 1) s))) m g l refl v

-- a container that may have no depth
pub too_deep_lem : (s : Bytes) (at e : ℕ) → e ≡ first_byte_entry s at → 9 ≤ kind_digit e → Err at ≡ shift at (value 0 (drop at s))
too_deep_lem s at e q k =
    ⊎_elim (λ (z : e ≡ 0x0f00). unused s at e 0 q z) (λ n. Laws.inside-deep (drop (at + 1) s) at _ _ _ ∙ sym (ap (shift at) (opens s at e 0 q k n)))
    (equal e 0x0f00)

-- ---- an array of one: its value, one byte further on and one less deep

pub wrapped : (s : Bytes) (at d : ℕ) → at < length s → entry_of (get_or s at 0) ≡ array_of_one → 0 < d
    → shift (at + 1) (value (d - 1) (drop (at + 1) s)) ≡ shift at (value d (drop at s))
unfolding by_form number
wrapped s at d h e g =
    sym (ap (shift at) (Laws.value-at s at d (Array 0 1) h (Entries.array_said (get_or s at 0) array_of_one (sym e) refl))
    ∙ (rw add-zero at (inside-counted s at d 0 1 1 0 1 g (omega arith) refl (omega arith)))
    ∙ Laws.items-one (value (d - 1)) s (at + 1))

module _ (s : Bytes) where
  pub no_ones : (at : ℕ) → Ones s at at
  no_ones at = record { further = omega arith; each = λ p h l. absurd (omega arith) }

  pub one : (at end : ℕ) → end ≡ at + 1 → entry_of (get_or s at 0) ≡ array_of_one → Ones s at end
  one at end e q = record { further = omega arith; each = λ p h l. let z : p ≡ at = omega arith in rw z q }

  pub joined : (at mid end : ℕ) → Ones s at mid → Ones s mid end → Ones s at end
  joined at mid end f g =
      record {
        further = omega (arith, f.further, g.further);
        each = λ p h l. ⊎_elim (λ m. g.each p m l) (λ m. f.each p h m) (either mid p);
      }

  nested : (k at d : ℕ) → at + k ≤ length s → k ≤ d → Ones s at (at + k) → shift (at + k) (value (d - k) (drop (at + k) s)) ≡ shift at (value d (drop at s))
  nested zero at d h l o = let z : d - 0 ≡ d = omega arith in rw (z, add-zero)
  nested (suc k) at d h l o =
      let e : at + suc k ≡ at + 1 + k = omega arith in
      let f : d - suc k ≡ d - 1 - k = omega arith in
      let rest : Ones s (at + 1) (at + 1 + k) = record { further = omega arith; each = λ p g m. o.each p (omega arith) (omega arith) } in
      rw (e, f) (nested k (at + 1) (d - 1) (omega arith) (omega arith) rest ∙ wrapped s at d (omega arith) (o.each at (omega arith) (omega arith)) (omega arith))

  -- what is inside arrays of one has their answer
  pub inside_ones : (at end d : ℕ) → end ≤ length s → end ≤ at + d → Ones s at end → shift end (value (d - (end - at)) (drop end s)) ≡ shift at (value d (drop at s))
  inside_ones at end d h l o =
      let e : at + (end - at) ≡ end = omega (arith, o.further) in
      rw e at (nested (end - at) at d (omega (arith, e)) (omega arith) (rw e o))

-- ---- one length byte: whatever has the same two first bytes, and room, ends as far on

module _ (s : Bytes) (k : Kind) (f : ℕ) where
  -- a value with such a first byte, by its length byte
  by_length : (p d m : ℕ) → p + 1 < length s → Scalar k 1 f ≡ form_of (get_or s p 0) → m ≡ get_or s (p + 1) 0
      → shift p (value d (drop p s)) ≡ shift (p + 2) (payload (m + f) (drop (p + 2) s))
  by_length p d m h e q =
      Laws.value_scalar s p d k 1 f (omega arith) e
      ∙ Laws.sized-is s (p + 1) 1 m (λ n t. payload (n + f) t) (omega arith) (number-first s (p + 1) 1 m h refl (q ∙ omega arith))
      ∙ two
    where
      two : shift (p + 1 + 1) (payload (m + f) (drop (p + 1 + 1) s)) ≡ shift (p + 2) (payload (m + f) (drop (p + 2) s))
      two = let z : p + 1 + 1 ≡ p + 2 = omega arith in rw z

  pub heads : (at d e : ℕ) → at < length s → Scalar k 1 f ≡ form_of (get_or s at 0) → Ok e ≡ shift at (value d (drop at s)) → Heads s at e
  heads at d e h q w = ⊎_elim long-enough missing (either (at + 2) (length s))
    where
      m : ℕ
      m = get_or s (at + 1) 0

      missing : length s < at + 2 → Heads s at e
      missing l = impossible (let z = w ∙ Laws.value_scalar s at d k 1 f h q ∙ sym (Laws.sized_missing s (at + 1) 1 _ (omega arith) (omega arith)) in cc)

      whole : at + 2 + (m + f) ≤ length s → e ≡ at + 2 + (m + f) → Heads s at e
      whole l z =
          record {
            head = omega arith;
            room = omega arith;
            alike = λ p d r x y.
                let o : p + (e - at) ≡ p + 2 + (m + f) = omega arith in
                ap Ok o ∙ Laws.payload-whole s (p + 2) (m + f) (omega arith) ∙ sym (by_length p d m (omega arith) (q ∙ ap form_of (sym x)) (sym y));
          }

      long-enough : at + 2 ≤ length s → Heads s at e
      long-enough l =
          let b = w ∙ by_length at d m (omega arith) q refl in
          ⊎_elim (λ r. whole r (let z = b ∙ sym (Laws.payload-whole s (at + 2) (m + f) (omega arith)) in cc))
          (λ r. impossible (let z = b ∙ sym (Laws.payload-short s (at + 2) (m + f) l (omega arith)) in cc))
          (either (at + 2 + (m + f)) (length s))

-- a scalar with one length byte
pub headed : (s : Bytes) (at e d n : ℕ) → e ≡ first_byte_entry s at → kind_digit e < 9 → length_bytes e ≡ 1 → Ok n ≡ shift at (value d (drop at s)) → Heads s at n
headed s at e d n q k w =
    let h : at < length s = within s at e q (λ z. omega arith) in
    heads s _ (fixed_payload e) at d n h (rw w at (Entries.scalar_said (get_or s at 0) e (own s at e d q h) k))

-- ---- what the code answers

pub told-whole : (s : Bytes) (at due n : ℕ) → n ≡ at + 1 + due → at + due < length s → Ok n ≡ shift (at + 1) (payload due (drop (at + 1) s))
told-whole s at due n e h = ap Ok e ∙ Laws.payload-whole s (at + 1) due (omega arith)

module _ (e : ℕ) (s : Bytes) where
  pub values-short : length_bytes e ≡ 0 → fixed_payload e ≡ values_of e s
  unfolding values_of number
  values-short z = rw (z, zero-mul, zero-add)

  pub values-array : (n : ℕ) → n ≡ number (take (length_bytes e) s) → fixed_payload e ≡ 0 → kind_digit e ≡ 9 → n ≡ values_of e s
  unfolding values_of
  values-array n q f k = rw (eq-eqb (kind_digit e) 9 k, f, ← q) (omega arith)

  pub values-map : (n : ℕ) → n ≡ number (take (length_bytes e) s) → fixed_payload e ≡ 0 → (kind_digit e ≡ 9 → ⊥) → n + n ≡ values_of e s
  unfolding values_of
  values-map n q f k = rw (ne_eqb (kind_digit e) 9 k, f, ← q) (omega arith)

-- a value that is read is told
pub read_tells : (s : Bytes) (at d : ℕ) (q r : Read) → r ≡ q → Tells s at d q (token_of r)
unfolding token_of
read_tells s at d q (Ok n) e = e
read_tells s at d q (Err p) e = e

-- what is inside arrays of one tells their answer
pub inner_tells : (s : Bytes) (at d at' d' : ℕ) (q q' : Read) (r : Found) → at ≤ at' → d' ≤ d → q' ≡ q → Tells s at' d' q' r → Tells s at d q r
inner_tells s at d at' d' q q' (Ok (T.Past e)) h l z o = o ∙ z
inner_tells s at d at' d' q q' (Ok (T.Headed p e)) h l z o = (o.0 ∙ z, o.1)
inner_tells s at d at' d' q q' (Ok (T.Holds n from m)) h l z o = let x = o.0 in let y = o.1.0 in (omega arith, (omega arith, sym z ∙ o.1.1))
inner_tells s at d at' d' q q' (Err p) h l z o = o ∙ z

-- an integer or a short string that is there
pub common : (s : Bytes) (at d k : ℕ) → at < length s → k ≡ common_length (entry_of (get_or s at 0)) → 0 < k → k ≤ length s - at
    → Ok (at + k) ≡ shift at (value d (drop at s))
common s at d k h q g l =
    let e = entry_of (get_or s at 0) in
    let c = Entries.common_said e k q g in
    told-whole s at (fixed_payload e) (at + k) (omega (arith, c.1)) (omega (arith, c.1)) ∙ told s at e d (entry_here s at h) c.0
