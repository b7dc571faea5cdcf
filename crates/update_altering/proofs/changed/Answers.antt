-- Each change by what it does to the field.
use mathlib.Core.Path.{refl}
use Prim.Native.Nat.{ℕ, ◌<◌, ◌≤◌}
use native.Mathlib.Omega.{arith}
use Rattle.msgpack_first_bytes.proofs.Logic.{error_left}
use Rattle.update_altering.specs.Altering.{changed}
use Rattle.update_altering.proofs.Strings.{no_longer}
use Rattle.update_altering.proofs.changed.Goals as goal

pub returns-in_err-z-in-Sum-clause-edit : goal.returns-in_err-z-in-Sum-clause-edit
unfolding changed
returns-in_err-z-in-Sum-clause-edit c = rw (error_left _ _ c.from_residual.ensures.1, c.in-Sum.is, c.in_err-z-in-Sum.ensures.0) (refl, refl)

pub returns-in_err-z-in-Bits-clause-edit : goal.returns-in_err-z-in-Bits-clause-edit
unfolding changed
returns-in_err-z-in-Bits-clause-edit c =
    rw (error_left _ _ c.from_residual-in_err-z-in-Bits.ensures.1, c.in-Bits.is, c.in_err-z-in-Bits.ensures.0) (refl, refl)

short : {n size most : ℕ} → n ≤ size → size < most → n < most
short h k = omega arith

pub splice-requires : goal.splice-requires
splice-requires c = let s = c.args.sources in rw c.bytes.ensures (short (no_longer s.tuple.now s.list.now s.work.now _ c.args.size) c.requires)

pub returns-in_ok-z-in-Sum-clause-edit : goal.returns-in_ok-z-in-Sum-clause-edit
unfolding changed
returns-in_ok-z-in-Sum-clause-edit c = rw (c.in-Sum.is, c.in_ok-z-in-Sum.ensures.0) c.put_number.ensures.edit

pub returns-in_ok-z-in-Bits-clause-edit : goal.returns-in_ok-z-in-Bits-clause-edit
unfolding changed
returns-in_ok-z-in-Bits-clause-edit c = rw (c.in-Bits.is, c.in_ok-z-in-Bits.ensures.0) c.put_number-in-Bits.ensures.edit

pub returns-in-Splice-clause-edit : goal.returns-in-Splice-clause-edit
unfolding changed
returns-in-Splice-clause-edit c = rw (c.in-Splice.is, ← c.bytes_of-argument.ensures, ← c.bytes.ensures) c.splice.ensures.edit
