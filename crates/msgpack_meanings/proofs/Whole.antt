-- What a whole value tells of its bytes. Assumes nothing.
use Rattle.std.specs.Prelude.{Ok, Err}
use mathlib.Core.Path.{◌≡◌, refl, sym, subst, ap, ◌∙◌}
use mathlib.Core.Bool.{Bool, true}
use Prim.Native.Nat.{ℕ, ◌+◌, ◌<◌, ◌≤◌}
use native.Mathlib.Nat.{zero-add}
use native.Mathlib.Omega.{arith}
use lib.Dec.{T, leb, leb→le}
use lib.ListN.{length, take, drop, get_or}
use Rattle.msgpack_first_bytes.specs.Bytes.{Bytes}
use Rattle.msgpack_first_bytes.specs.FirstByte.{form_of, same_kind}
use Rattle.msgpack_first_bytes.specs.declared.Kind.{Kind}
use Rattle.msgpack_first_bytes.specs.declared.Form.{Form}
use Rattle.msgpack_first_bytes.specs.declared.Form.TheVariants.{Unused, Scalar, Array, Map}
use Rattle.msgpack_first_bytes.proofs.Range.{all-at}
use Rattle.msgpack_numbers.specs.Number.{number}
use Rattle.msgpack_values.specs.Value.{shift, payload, sized, value, Read}
use Rattle.msgpack_values.proofs.Laws.{value_scalar}
use Rattle.msgpack_values.proofs.Local.{shift-whole, pick-whole, value_good, value_pos}
use Rattle.msgpack_scalars.specs.Integer.{shift_integer, Integer}
use Rattle.msgpack_meanings.specs.Meaning.{type_bytes}

pub shift_none : (r : Read) → shift 0 r ≡ r
shift_none (Ok n) = ap Ok (zero-add n)
shift_none (Err p) = ap Err (zero-add p)

pub unshifted : (z : Integer) → shift_integer 0 z ≡ z
unshifted (Ok (z, e)) = ap (λ a. Ok (z, a)) (zero-add e)
unshifted (Err e) = refl

-- it has a first byte, and lies within the bytes
pub whole-within : (d : ℕ) (s : Bytes) (n : ℕ) → value d s ≡ Ok n → (1 ≤ n) × (n ≤ length s)
whole-within d s n e = (value_pos d s n e, (value_good d s n e).0)

-- an ext's type is due by its first byte: one test over all 256
typed : Form → Bool
typed Unused = true
typed (Scalar k w f) = leb (type_bytes k) f
typed (Array w f) = true
typed (Map w f) = true

type_due : (b : ℕ) (k : Kind) (w f : ℕ) → b < 256 → Scalar k w f ≡ form_of b → type_bytes k ≤ f
unfolding typed type_bytes same_kind form_of
type_due b k w f h e =
    leb→le (type_bytes k) f (subst (λ (x : Form). T (typed x)) (sym e) (all-at (λ b. typed (form_of b)) 0 256 tt h (omega arith)))

-- a scalar's first byte, its length bytes and what its first byte asks for
scalar_least : (w f m : ℕ) (t : Bytes) → sized w (λ n r. payload (n + f) r) t ≡ Ok m → w + f ≤ m
unfolding sized payload
scalar_least w f m t e =
    let p = pick-whole w (length t) (length t) m (shift w (payload (number (take w t) + f) (drop w t))) e in
    let q = shift-whole w m (payload (number (take w t) + f) (drop w t)) p.1 in
    let r = pick-whole (number (take w t) + f) (length (drop w t)) (length (drop w t)) q.0 (Ok (number (take w t) + f)) q.1 in
    let i : number (take w t) + f ≡ q.0 = cc in
    let j = q.2 in
    omega arith

pub scalar_whole : (d : ℕ) (s : Bytes) (n : ℕ) (k : Kind) (w f : ℕ) → get_or s 0 0 < 256 → value d s ≡ Ok n → Scalar k w f ≡ form_of (get_or s 0 0)
    → 1 + w + type_bytes k ≤ n
scalar_whole d s n k w f h e g =
    let l = whole-within d s n e in
    let v : shift 1 (sized w (λ n t. payload (n + f) t) (drop 1 s)) ≡ Ok n = sym (value_scalar s 0 d k w f (omega arith) g) ∙ shift_none (value d s) ∙ e in
    let m = shift-whole 1 n (sized w (λ n t. payload (n + f) t) (drop 1 s)) v in
    let q = scalar_least w f m.0 (drop 1 s) m.1 in
    let i = m.2 in
    let t = type_due (get_or s 0 0) k w f h g in
    omega arith
