-- The number of the float's bytes, as its bits.
use native.Mathlib.Omega.{arith}
use Prim.Native.Nat.{◌^◌, ◌<◌}
use Rattle.msgpack_meanings.specs.Meaning.{of_float32}
use Rattle.msgpack_meanings.proofs.float32_meaning.Goals as goal

pub overflow_cast-n : goal.overflow_cast-n
unfolding of_float32
overflow_cast-n c = let b : c.in-Some.n < 2 ^ 32 = c.in-Some.ensures.1 in omega arith
