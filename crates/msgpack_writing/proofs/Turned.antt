-- A number's low bytes are those of what it is past a multiple of what they can hold: so a negative number's, whose bits are all turned. Assumes nothing.
use Rattle.std.proofs.Common.{◌≡◌, refl, sym, mul_assoc, ℕ, zero, suc, ◌+◌, ◌-◌, ◌*◌, ◌/◌, ◌%◌, ◌^◌, ◌<◌, ◌≤◌, arith}
use borrow.Author.Tests.{lt-ltb, le-ltb}
use native.Mathlib.Nat.{pow-suc}
use Rattle.msgpack_first_bytes.specs.Bytes.{Bytes}
use Rattle.msgpack_first_bytes.proofs.Logic.{by_ltb}
use Rattle.msgpack_writing.specs.Forms.{big_endian, long_form, negative_form}

-- the low bytes
low_bytes : (w a b : ℕ) → big_endian w (a + b * 256 ^ w) ≡ big_endian w a
unfolding big_endian
low_bytes zero a b = refl
low_bytes (suc w) a b =
    let p : b * 256 ^ suc w ≡ b * 256 ^ w * 256 = rw pow-suc (sym (mul_assoc b (256 ^ w) 256)) in
    let q : (a + b * 256 ^ suc w) / 256 ≡ a / 256 + b * 256 ^ w = omega arith in
    let r : (a + b * 256 ^ suc w) % 256 ≡ a % 256 = omega arith in
    rw (q, r, low_bytes w (a / 256) b)

-- the bits of m turned, in w bytes of the eight
turned : (w m b : ℕ) → 2 ^ 64 ≡ (b + 1) * 256 ^ w → m < 256 ^ w → big_endian w (2 ^ 64 - 1 - m) ≡ big_endian w (256 ^ w - 1 - m)
turned w m b e h =
    let f : 2 ^ 64 - 1 - m ≡ 256 ^ w - 1 - m + b * 256 ^ w = omega arith in
    rw f (low_bytes w (256 ^ w - 1 - m) b)

pub long-negative : (m : ℕ) → 32 ≤ m → m < 2 ^ 63 → long_form 0xd0 (2 * m) (2 ^ 64 - 1 - m) ≡ negative_form m
unfolding negative_form
long-negative m h k =
    rw (le-ltb m 32 h) (by_ltb P m (2 ^ 7) (λ l. rw (lt-ltb (2 * m) (2 ^ 8) (omega arith), turned 1 m (2 ^ 56 - 1) refl (omega arith)))
    (λ g. by_ltb P m (2 ^ 15) (λ l. rw (le-ltb (2 * m) (2 ^ 8) (omega arith), lt-ltb (2 * m) (2 ^ 16) (omega arith), turned 2 m (2 ^ 48 - 1) refl (omega arith)))
    (λ g. by_ltb P m (2 ^ 31) (λ l. rw (le-ltb (2 * m) (2 ^ 8) (omega arith), le-ltb (2 * m) (2 ^ 16) (omega arith), lt-ltb (2 * m) (2 ^ 32) (omega arith), turned 4 m (2 ^ 32 - 1) refl (omega arith)))
    (λ g. rw (le-ltb (2 * m) (2 ^ 8) (omega arith), le-ltb (2 * m) (2 ^ 16) (omega arith), le-ltb (2 * m) (2 ^ 32) (omega arith), lt-ltb m (2 ^ 63) k)))))
  where
    P : Bytes → Type 0
    P p = long_form 0xd0 (2 * m) (2 ^ 64 - 1 - m) ≡ p
