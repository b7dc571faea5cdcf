-- The digits are written as they stand.
use mathlib.Core.Path.{sym, ◌∙◌}
use Prim.Native.Nat.{◌-◌}
use native.Mathlib.Omega.{arith}
use lib.ListN.{drop, length-drop}
use lib.Seq.{take_all}
use Rattle.frame_listing_fields.proofs.write_number.Goals as goal

pub returns : goal.returns
returns c =
    let s = c.spell-from in
    let e = take_all (21 - s.result) (drop s.result s.new.text) (simp length-drop (omega arith)) ∙ s.ensures.1.1 in
    rw (sym e) c.write_bytes.ensures
