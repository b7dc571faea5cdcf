-- A 1 shifted is a power of two, and a width shifted by 3 is its bits.
use native.Mathlib.Omega.{arith}
use native.Mathlib.Nat.{one-mul}
use Prim.Native.Nat.{◌-◌, ◌*◌, ◌%◌, ◌^◌}
use mathlib.Core.Path.{◌≡◌, ◌∙◌}
use lib.Dec.{lit<}
use lib.Pow.{shl_exact}
use Rattle.msgpack_scalars.proofs.sign_bit.Goals.{Start}
use Rattle.msgpack_scalars.proofs.sign_bit.Goals as goal

bits : (c : Start) → c.args.width * 2 ^ 3 % 2 ^ 64 ≡ 8 * c.args.width
bits c = shl_exact 4 3 64 (omega arith) (omega arith) ∙ omega arith

pub overflow_sub-result : goal.overflow_sub-result
overflow_sub-result c = rw (bits c) (omega arith)

pub overflow_shl-result-2 : goal.overflow_shl-result-2
overflow_shl-result-2 c = rw (bits c) (omega arith)

pub returns : goal.returns
returns c = let k = 8 * c.args.width - 1 in rw (bits c) (shl_exact 1 k 64 (lit< tt) (omega arith) ∙ one-mul (2 ^ k))
