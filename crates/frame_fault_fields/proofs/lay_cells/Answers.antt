-- One byte after the other.
use mathlib.Core.Path.{◌≡◌, refl, ◌∙◌}
use native.Mathlib.Omega.{arith}
use native.Mathlib.Numerals.{add-one}
use Rattle.frame_fault_fields.specs.Dump.{cells}
use Rattle.frame_fault_fields.proofs.Laying.{none, also}
use Rattle.frame_fault_fields.proofs.lay_cells.Goals as goal

pub loop-i-init : goal.loop-i-init
unfolding cells
loop-i-init c = (refl, none _ _)

pub loop-i-preserved : goal.loop-i-preserved
unfolding cells
loop-i-preserved c =
    (c.write_cell-to.auto.out ∙ c.loop-i.invariant.0, rw add-one (also c.loop-i.invariant.1 c.write_cell-to.ensures))

pub returns : goal.returns
returns c =
    let e : c.loop-i.i ≡ c.args.count = omega arith in
    rw e at c.loop-i.invariant.1
