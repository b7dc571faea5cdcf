-- A number in range or out of it, as the tests find it. Assumes nothing.
use Rattle.std.specs.Prelude.{Some, None}
use Rattle.std.proofs.lemmas.Int.{ints}
use mathlib.Core.Path.{◌≡◌}
use Prim.Native.Nat.{ℕ, ◌^◌}
use native.Mathlib.Omega.{arith}
use borrow.Author.Tests.{lt-ltb, le-ltb}
use lib.IntN.{ℤ, pos, negsuc, ◌-ℤ◌}
use lib.Signed.{◌<ℤ◌, ◌≤ℤ◌}
use Rattle.msgpack_scalars.specs.declared.Int.{TheVariants.FromZero, TheVariants.BelowZero}
use Rattle.update_sums.specs.Range.{in_range}

pub low_out : (z : ℤ) → z <ℤ negsuc 0x7fff_ffff_ffff_ffff → None ≡ in_range z
unfolding in_range
low_out (pos n) h = absurd (omega (arith, ints))
low_out (negsuc m) h = rw (le-ltb m (2 ^ 63) (omega (arith, ints)))

pub high_out : (z : ℤ) → pos 0xffff_ffff_ffff_ffff <ℤ z → None ≡ in_range z
unfolding in_range
high_out (pos n) h = rw (le-ltb n (2 ^ 64) (omega (arith, ints)))
high_out (negsuc m) h = absurd (omega (arith, ints))

pub below-is : (z : ℤ) {m : ℕ} → negsuc 0x7fff_ffff_ffff_ffff ≤ℤ z → pos m ≡ negsuc 0 -ℤ z → Some (BelowZero m) ≡ in_range z
unfolding in_range
below-is (pos n) l e = absurd (omega (arith, ints))
below-is (negsuc k) {m} l e = let p : m ≡ k = omega (arith, ints) in rw (p, lt-ltb k (2 ^ 63) (omega (arith, ints)))

pub from-is : (z : ℤ) {n : ℕ} → z ≤ℤ pos 0xffff_ffff_ffff_ffff → pos n ≡ z → Some (FromZero n) ≡ in_range z
unfolding in_range
from-is (pos k) {n} h e = let p : n ≡ k = omega (arith, ints) in rw (p, lt-ltb k (2 ^ 64) (omega (arith, ints)))
from-is (negsuc m) h e = absurd (omega (arith, ints))
