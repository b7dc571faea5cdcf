-- At most 16, so the shift loses no bit.
use native.Mathlib.Omega.{arith}
use Prim.Native.Nat.{◌^◌, ◌≤◌}
use lib.Pow.{pow_mono}
use Rattle.msgpack_first_bytes.proofs.power_of_two.Goals as goal

pub returns : goal.returns
returns c = let m : 2 ^ c.args.k ≤ 2 ^ 4 = pow_mono {j = 4} (omega arith) in (omega (arith, m), omega (arith, m))
