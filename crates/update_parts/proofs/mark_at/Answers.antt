-- By the bytes from the mark's place on.
use native.Mathlib.Omega.{arith}
use mathlib.Core.Path.{◌≡◌, refl, ◌∙◌}
use Prim.Native.Nat.{ℕ, ◌-◌, ◌≤◌}
use lib.ListN.{length, drop, drop_of_length-le, length-drop}
use lib.Seq.{take_all}
use Rattle.std.specs.List.{slice_range}
use Rattle.msgpack_first_bytes.specs.Bytes.{Bytes}
use Rattle.update_parts.proofs.Reading.{mark-cut, mark_other, mark-is}
use Rattle.update_parts.proofs.mark_at.Goals as goal

rest : (l : Bytes) (at : ℕ) → slice_range l at (length l) ≡ drop at l
rest l at = let h : length (drop at l) ≤ length l - at = rw length-drop (omega arith) in take_all (length l - at) (drop at l) h

pub returns-in_err-get : goal.returns-in_err-get
returns-in_err-get c = let a = c.args in
    let h : length a.s.now ≤ a.at = omega (arith, c.in_err-get.ensures.lookup.0) in
    c.from_residual.ensures ∙ mark-cut a.s.now a.at (refl {a = drop a.at a.s.now}) (rw (drop_of_length-le a.s.now h) (omega arith))

pub returns-in_default : goal.returns-in_default
returns-in_default c = let a = c.args in mark-cut a.s.now a.at (c.in_ok-get.ensures.lookup.0.2 ∙ rest a.s.now a.at) (omega arith)

pub returns-in_default-2 : goal.returns-in_default-2
returns-in_default-2 c = let a = c.args in mark_other a.s.now a.at (c.in_ok-get.ensures.lookup.0.2 ∙ rest a.s.now a.at) (λ e. omega arith)

pub returns : goal.returns
returns c = let a = c.args in mark-is a.s.now a.at (c.in_ok-get.ensures.lookup.0.2 ∙ rest a.s.now a.at) (omega arith) (omega arith)
