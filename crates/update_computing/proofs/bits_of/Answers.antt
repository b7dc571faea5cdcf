-- The field and the argument, as numbers from 0 up.
use native.Mathlib.Omega.{arith}
use Rattle.msgpack_first_bytes.proofs.Logic.{error_left}
use Rattle.update_computing.proofs.Numbers.{bits_unsuited, bits_is}
use Rattle.update_computing.proofs.bits_of.Goals as goal

pub returns-in_err-n : goal.returns-in_err-n
returns-in_err-n c =
    rw (error_left _ _ c.from_residual.ensures.1) (bits_unsuited c.args.by c.args.v _ c.bytes.ensures c.at_least.ensures c.in_err-n.ensures.value)

pub returns : goal.returns
returns c = bits_is c.args.by c.args.v _ c.bytes.ensures c.at_least.ensures c.in_ok-n.ensures.value c.combine.ensures (omega arith)
