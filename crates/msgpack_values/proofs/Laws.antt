-- What each step of reading says of the definition, one law for each way that the code takes. Assumes nothing.
use Rattle.std.specs.Prelude.{Ok, Err}
use mathlib.Core.Path.{◌≡◌, refl, sym, ap, ◌∙◌}
use Prim.Native.Nat.{ℕ, zero, suc, ◌+◌, ◌-◌, ◌*◌, ◌<◌, ◌≤◌}
use native.Mathlib.Nat.{add_assoc, add-zero}
use native.Mathlib.Numerals.{add-one}
use native.Mathlib.Omega.{arith}
use borrow.Author.Tests.{le-leb, lt-leb}
use lib.ListN.{length, take, drop, get_or, length-drop, drop_of_length-le}
use lib.Seq.{drop-cons, drop-drop}
use Rattle.msgpack_first_bytes.specs.Bytes.{Bytes}
use Rattle.msgpack_first_bytes.specs.FirstByte.{form_of}
use Rattle.msgpack_first_bytes.specs.declared.Kind.{Kind}
use Rattle.msgpack_first_bytes.specs.declared.Form.{Form}
use Rattle.msgpack_first_bytes.specs.declared.Form.TheVariants.{Unused, Scalar}
use Rattle.msgpack_numbers.specs.Number.{number}
use Rattle.msgpack_first_bytes.proofs.Logic.{impossible}
use Rattle.msgpack_values.specs.Value.{shift, payload, sized, and_then, items, by_form, one, too_deep, container, value, inside, Read}

pub shift-shift : (j k : ℕ) (r : Read) → shift j (shift k r) ≡ shift (j + k) r
shift-shift j k (Ok n) = ap Ok (sym (add_assoc j k n))
shift-shift j k (Err n) = ap Err (sym (add_assoc j k n))

pub shift-further : (k e : ℕ) (r : Read) → Ok e ≡ shift k r → k ≤ e
shift-further k e (Ok n) q = let z : e ≡ k + n = cc in omega arith
shift-further k e (Err n) q = impossible cc

-- ---- a number of w bytes, and what comes after it

pub sized_missing : (s : Bytes) (at w : ℕ) (next : ℕ → Bytes → Read) → at ≤ length s → length s < at + w
    → Err (length s) ≡ shift at (sized w next (drop at s))
unfolding sized
sized_missing s at w next h k =
    let l : length (drop at s) < w = simp length-drop (omega arith) in
    simp (lt-leb w (length (drop at s)) l) (ap Err (rw length-drop (omega arith)))

pub sized-is : (s : Bytes) (at w n : ℕ) (next : ℕ → Bytes → Read) → at + w ≤ length s → n ≡ number (take w (drop at s))
    → shift at (sized w next (drop at s)) ≡ shift (at + w) (next n (drop (at + w) s))
unfolding sized
sized-is s at w n next h e =
    let l : w ≤ length (drop at s) = simp length-drop (omega arith) in
    simp (le-leb w (length (drop at s)) l, ← e, drop-drop, shift-shift)

-- ---- bytes, whatever they are

pub payload-whole : (s : Bytes) (at n : ℕ) → n ≤ length s - at → Ok (at + n) ≡ shift at (payload n (drop at s))
unfolding payload
payload-whole s at n h =
    let k : n ≤ length (drop at s) = simp length-drop h in
    simp (le-leb n (length (drop at s)) k)

pub payload-short : (s : Bytes) (at n : ℕ) → at ≤ length s → length s - at < n → Err (length s) ≡ shift at (payload n (drop at s))
unfolding payload
payload-short s at n l h =
    let k : length (drop at s) < n = simp length-drop h in
    simp (lt-leb n (length (drop at s)) k) (ap Err (rw length-drop (omega arith)))

-- ---- values one after the other

-- the next is whole, and ends at e
pub items-whole : (v : Bytes → Read) (s : Bytes) (at n e : ℕ) → Ok e ≡ shift at (v (drop at s))
    → shift at (items v (suc n) (drop at s)) ≡ shift e (items v n (drop e s))
unfolding items
items-whole v s at n e h = go (v (drop at s)) refl h
  where
    go : (r : Read) → v (drop at s) ≡ r → Ok e ≡ shift at r → shift at (items v (suc n) (drop at s)) ≡ shift e (items v n (drop e s))
    go (Ok k) q h = let f : e ≡ at + k = cc in simp (q, f, drop-drop, shift-shift)
    go (Err k) q h = impossible cc

pub items-broken : (v : Bytes → Read) (s : Bytes) (at n p : ℕ) → Err p ≡ shift at (v (drop at s))
    → Err p ≡ shift at (items v (suc n) (drop at s))
unfolding items
items-broken v s at n p h = go (v (drop at s)) refl h
  where
    go : (r : Read) → v (drop at s) ≡ r → Err p ≡ shift at r → Err p ≡ shift at (items v (suc n) (drop at s))
    go (Ok k) q h = impossible cc
    go (Err k) q h = rw q h

-- one alone
pub items-one : (v : Bytes → Read) (s : Bytes) (at : ℕ) → shift at (items v 1 (drop at s)) ≡ shift at (v (drop at s))
unfolding items
items-one v s at = go (v (drop at s))
  where
    go : (r : Read) → shift at (and_then r (λ k. Ok 0)) ≡ shift at r
    go (Ok k) = rw add-zero
    go (Err p) = refl

-- ---- one value, at a place

pub value-one : (d : ℕ) (s : Bytes) → value d s ≡ one (inside d) s
unfolding value inside
value-one zero s = refl
value-one (suc d) s = refl

-- no byte is left
pub value_end : (s : Bytes) (at d : ℕ) → length s ≤ at → Err at ≡ shift at (value d (drop at s))
unfolding one
value_end s at d h = rw (value-one, drop_of_length-le s h, add-zero)

-- a byte is left
pub value-at : (s : Bytes) (at d : ℕ) (f : Form) → at < length s → f ≡ form_of (get_or s at 0)
    → value d (drop at s) ≡ by_form (inside d) f (drop (at + 1) s)
unfolding one
value-at s at d f h e = value-one d (drop at s) ∙ rw (e, add-one, drop-cons s at 0 h)

pub value_unused : (s : Bytes) (at d : ℕ) → at < length s → Unused ≡ form_of (get_or s at 0) → Err at ≡ shift at (value d (drop at s))
unfolding by_form
value_unused s at d h e = rw (value-at s at d Unused h e, add-zero)

pub value_scalar : (s : Bytes) (at d : ℕ) (k : Kind) (w f : ℕ) → at < length s → Scalar k w f ≡ form_of (get_or s at 0)
    → shift at (value d (drop at s)) ≡ shift (at + 1) (sized w (λ n t. payload (n + f) t) (drop (at + 1) s))
unfolding by_form
value_scalar s at d k w f h e = rw (value-at s at d (Scalar k w f) h e, shift-shift)

pub inside-deep : (s : Bytes) (at w f p : ℕ) → Err at ≡ shift at (inside 0 w f p s)
unfolding inside too_deep
inside-deep s at w f p = rw add-zero

pub inside-items : (s : Bytes) (at d w f p : ℕ)
    → shift at (inside (suc d) w f p (drop (at + 1) s)) ≡ shift (at + 1) (sized w (λ n t. items (value d) (n * p + f) t) (drop (at + 1) s))
unfolding inside container
inside-items s at d w f p = rw shift-shift
