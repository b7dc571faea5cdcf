-- The invariant: reading goes on where the run has come to. The items left fall.
use Prim.Native.Nat.{ℕ, ◌-◌, ◌<◌, ◌≤◌}
use mathlib.Core.Path.{◌≡◌}
use lib.ListN.{length, drop}
use Rattle.msgpack_values.specs.Value.{shift, items, value}
use Rattle.msgpack_values.proofs.same_heads.Given as goal

abbrev pub invariant-loop-head : goal.invariant-loop-head
invariant-loop-head l =
    record {
      further : l.next ≤ l.end;
      room : l.end ≤ length l.s;
      one : 0 < l.rest;
      fewer : l.rest ≤ l.left;
      same : (d : ℕ) → shift l.end (items (value d) (l.rest - 1) (drop l.end l.s)) ≡ shift l.next (items (value d) (l.left - 1) (drop l.next l.s));
    }

abbrev pub decreases-loop-head : goal.decreases-loop-head
decreases-loop-head l = l.rest
