-- The loop's invariant: n is the number of the first bytes.
use Prim.Native.Nat.{◌*◌, ◌^◌, ◌<◌}
use mathlib.Core.Path.{◌≡◌}
use lib.ListN.{take}
use Rattle.msgpack_numbers.specs.Number.{number}
use Rattle.msgpack_numbers.proofs.number_at.Given as goal

abbrev pub invariant-loop-b : goal.invariant-loop-b
invariant-loop-b l = (l.n ≡ number (take l.b-index l.b-items)) × (l.n < 2 ^ (8 * l.b-index))
