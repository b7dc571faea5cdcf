-- The commonest values end where their first bytes say. Assumes nothing.
use Rattle.std.specs.Prelude.{Some}
use mathlib.Core.Path.{◌≡◌, refl, sym, ◌∙◌}
use Prim.Native.Nat.{ℕ, ◌+◌, ◌*◌, ◌<◌, ◌≤◌}
use native.Mathlib.Omega.{arith}
use borrow.Author.Tests.{le-leb}
use lib.ListN.{length, take, drop, get_or}
use Rattle.msgpack_first_bytes.specs.Bytes.{Bytes}
use Rattle.msgpack_first_bytes.specs.FirstByte.{form_of}
use Rattle.msgpack_first_bytes.specs.declared.Kind.{Kind, TheVariants.Unsigned, TheVariants.String}
use Rattle.msgpack_first_bytes.specs.declared.Form.TheVariants.{Scalar}
use Rattle.msgpack_numbers.specs.Number.{number}
use Rattle.msgpack_numbers.proofs.Big.{number-first, number_step}
use Rattle.msgpack_values.specs.Value.{payload}
use Rattle.msgpack_values.proofs.Laws.{sized-is, payload-whole, value_scalar}
use Rattle.tuples.specs.Limits.{field_depth}
use Rattle.update_loading.specs.Loading.{EndOf}

module _ (s : Bytes) (at : ℕ) where
  scalar_ends : (k : Kind) (w f n : ℕ) {e : ℕ} → Scalar k w f ≡ form_of (get_or s at 0) → at + 1 + w ≤ length s → n ≡ number (take w (drop (at + 1) s))
      → at + 1 + w + (n + f) ≤ length s → e ≡ at + 1 + w + (n + f) → EndOf s at (Some e)
  scalar_ends k w f n q h m l x =
      rw x
      (payload-whole s (at + 1 + w) (n + f) (omega arith) ∙ sym (sized-is s (at + 1) w n (λ n t. payload (n + f) t) h m)
      ∙ sym (value_scalar s at field_depth k w f (omega arith) q))

  pub fixint_ends : {e : ℕ} → at < length s → get_or s at 0 < 0x80 → e ≡ at + 1 → EndOf s at (Some e)
  unfolding form_of number
  fixint_ends h k x = scalar_ends Unsigned 0 0 0 (simp (le-leb (get_or s at 0) 0x7f (omega arith))) (omega arith) refl (omega arith) (omega arith)

  pub uint_16_ends : {e : ℕ} → get_or s at 0 ≡ 0xcd → at + 3 ≤ length s → e ≡ at + 3 → EndOf s at (Some e)
  unfolding form_of number
  uint_16_ends q h x = scalar_ends Unsigned 0 2 0 (rw q) (omega arith) refl (omega arith) (omega arith)

  pub str_8_ends : {e : ℕ} → get_or s at 0 ≡ 0xd9 → at + 2 ≤ length s → e ≡ at + 2 + get_or s (at + 1) 0 → e ≤ length s → EndOf s at (Some e)
  unfolding form_of
  str_8_ends q h x l =
      let n = get_or s (at + 1) 0 in
      scalar_ends String 1 0 n (rw q) (omega arith) (number-first s (at + 1) 1 n (omega arith) refl (omega arith)) (omega arith) (omega arith)

  pub str_16_ends : {e : ℕ} → get_or s at 0 ≡ 0xda → at + 3 ≤ length s → e ≡ at + 3 + (get_or s (at + 1) 0 * 256 + get_or s (at + 2) 0) → e ≤ length s
      → EndOf s at (Some e)
  unfolding form_of
  str_16_ends q h x l =
      let m = get_or s (at + 1) 0 in
      let n = m * 256 + get_or s (at + 2) 0 in
      let i : at + 2 ≡ at + 1 + 1 = omega arith in
      let j : n ≡ m * 256 + get_or s (at + 1 + 1) 0 = rw i in
      let a = number-first s (at + 1) 1 m (omega arith) refl (omega arith) in
      scalar_ends String 2 0 n (rw q) (omega arith) (number_step s (at + 1) 1 2 m n (omega arith) refl a j) (omega arith) (omega arith)
