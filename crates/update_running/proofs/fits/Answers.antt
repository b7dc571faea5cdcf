use mathlib.Core.Path.{ap, ◌∙◌}
use Prim.Native.Nat.{ℕ, ◌+◌}
use native.Mathlib.Omega.{arith}
use borrow.Author.Tests.{lt-leb}
use lib.Dec.{leb}
use Rattle.msgpack_writing.proofs.Lengths.{array_long}
use Rattle.tuples.specs.Limits.{max_fields, max_tuple}
use Rattle.update_running.proofs.Entries.{fits_not, fits_by}
use Rattle.update_running.proofs.fits.Goals as goal

pub overflow_add-result : goal.overflow_add-result
overflow_add-result c = omega (arith, array_long c.args.n)

pub returns-then-n-le-MAX_FIELDS : goal.returns-then-n-le-MAX_FIELDS
returns-then-n-le-MAX_FIELDS c =
    let a = c.args in
    ap (λ (x : ℕ). leb (x + a.bytes) max_tuple) c.array_header_length.ensures ∙ fits_by a.n a.bytes (omega arith)

pub returns-else-n-le-MAX_FIELDS : goal.returns-else-n-le-MAX_FIELDS
returns-else-n-le-MAX_FIELDS c = let a = c.args in lt-leb a.n max_fields (omega arith) ∙ fits_not a.n a.bytes (omega arith)
