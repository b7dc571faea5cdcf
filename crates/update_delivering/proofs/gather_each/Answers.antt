-- The entries before those that are left are gathered.
use Prim.Native.Nat.{◌+◌}
use lib.Dec.{eqb}
use Rattle.std.proofs.Common.{rules}
use Rattle.std.proofs.lemmas.List.Sorted.{answers_always}
use Rattle.msgpack_writing.proofs.Put.{written}
use Rattle.update_places.specs.Place.{start_of, length_of}
use Rattle.update_delivering.proofs.Runs.{Beside, begun, side_gathers, side_gathered, ended}
use Rattle.update_delivering.proofs.gather_each.Goals.{In-Some}
use Rattle.update_delivering.proofs.gather_each.Goals as goal

pub loop-side-init : goal.loop-side-init
loop-side-init c = rw (c.into_iter-side-iterator.ensures.into_iter_gives, c.chunk_by-side-items.ensures.rest) (begun c.requires)

-- each side lies side by side: what the closure answers of two neighbours
beside : (c : In-Some) → Beside c.loop-side.side-iterator.rest.now c.in-Some.side.now c.next.new.self.rest.now
beside c =
    let s = c.in-Some.ensures.steps in
    record { is = s.0; adjacent = (s.2 (λ p q. eqb (start_of p + length_of p) (start_of q)) (answers_always _ _ _ (λ f a r g h. search rules))).1.0 }

pub gather_side-to-requires : goal.gather_side-to-requires
gather_side-to-requires c = side_gathers c.requires c.loop-side.invariant (beside (goal.at.gather_side-to-requires c).In-Some)

pub loop-side-preserved : goal.loop-side-preserved
loop-side-preserved c = side_gathered c.requires c.loop-side.invariant (beside (goal.at.loop-side-preserved c).In-Some) c.gather_side-to.ensures

pub returns : goal.returns
returns c = written (ended c.requires c.loop-side.invariant c.in-None.ensures.steps.0)
