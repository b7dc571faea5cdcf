use Prim.Native.Nat.{◌-◌}
use native.Mathlib.Omega.{arith}
use borrow.Author.Tests.{le-leb}
use Rattle.tuples.specs.Limits.{max_tuple}
use Rattle.update_places.specs.Place.{in_list}
use Rattle.update_planning.proofs.Answers.{round}
use Rattle.update_planning.proofs.brought.Goals as goal

pub returns : goal.returns
returns c =
    let a = c.args in
    let e = c.saturating_sub-long.ensures in
    rw (c.place_of.ensures, round in_list a.start c.saturating_sub-long.result, e, le-leb (a.end - a.start) max_tuple (omega arith))
