-- The first byte itself, or the bytes after it.
use Rattle.std.specs.Prelude.{Option, Some, None}
use Rattle.std.specs.Option.{unwrap_or}
use native.Mathlib.Omega.{arith}
use native.Mathlib.Nat.{add-zero}
use Prim.Native.Nat.{ℕ, ◌+◌, ◌*◌, ◌^◌, ◌<◌, ◌≤◌, max}
use mathlib.Core.Path.{◌≡◌}
use lib.ListN.{length, drop}
use lib.Seq.{get_or-drop}
use Rattle.msgpack_first_bytes.specs.Bytes.{Bytes}
use Rattle.msgpack_numbers.specs.Number.{number_at, Below}
use Rattle.msgpack_scalars.specs.Integer.{natural_of}
use Rattle.msgpack_scalars.proofs.Laws.{natural_there, natural-more}
use Rattle.msgpack_scalars.proofs.natural_of.Goals as goal

-- the number of the bytes after the first, which are all there
given : (s : Bytes) (at f : ℕ) (o : Option ℕ) → 0 < f → f ≤ 8 → at + 1 + f ≤ length s → o ≡ number_at f (at + 1) s → Below (2 ^ (8 * f)) o
    → (unwrap_or o 0 ≡ natural_of f (drop at s)) × (unwrap_or o 0 < 2 ^ (8 * max f 1))
given s at f (Some n) h k l e b = let m : max f 1 ≡ f = omega arith in (natural-more s at f n h e, rw m b)
given s at f None h k l e b = absurd (natural_there s at f k l e)

pub overflow_cast-result : goal.overflow_cast-result
overflow_cast-result c = omega (arith, c.type_inv.s c.args.at)

pub returns-then-more-eq0 : goal.returns-then-more-eq0
returns-then-more-eq0 c = let b = c.type_inv.s c.args.at in unfold natural_of in rw c.if-more-eq0.true (rw (get_or-drop, add-zero), omega (arith, b))

pub returns : goal.returns
returns c = let a = c.args in let n = c.number_at.ensures in rw c.unwrap_or.ensures (given a.s.now a.at a.more _ (omega arith) (omega arith) (omega arith) n.0 n.1)
