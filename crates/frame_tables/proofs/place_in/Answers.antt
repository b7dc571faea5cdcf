-- There, or absent.
use native.Mathlib.Omega.{arith}
use Rattle.frame_tables.proofs.Tables.{in_range, past, place_none, place_some}
use Rattle.frame_tables.proofs.place_in.Goals as goal

pub returns-in-Some : goal.returns-in-Some
returns-in-Some c = let h = c.in-Some.ensures.lookup in place_some _ _ _ (in_range _ _ _ h.0 h.1) c.if-value-gt0.true

pub returns-in_default : goal.returns-in_default
returns-in_default c = let h = c.in-Some.ensures.lookup in place_none _ _ _ (in_range _ _ _ h.0 h.1) c.if-value-gt0.false

pub returns-in_default-2 : goal.returns-in_default-2
returns-in_default-2 c =
    let a = c.args in
    place_none a.values.now a.key _ (past _ _ (rw c.in_default.is at c.get.ensures.lookup.0)) (omega arith)
