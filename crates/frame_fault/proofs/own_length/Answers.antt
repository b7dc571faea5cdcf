-- All, or as many as are promised.
use Rattle.std.specs.Prelude.{Ok}
use mathlib.Core.Path.{sym, subst, ◌∙◌}
use native.Mathlib.Omega.{arith}
use Rattle.frames.proofs.Sizes.{Told, size_told}
use Rattle.frame_fault.proofs.Lines.{own-refused, own_promised}
use Rattle.frame_fault.proofs.own_length.Goals as goal

pub overflow_add-from : goal.overflow_add-from
overflow_add-from c =
    let s = c.args.left.now in
    let t : Told s (Ok (c.in-Ok.size, c.in-Ok.from)) = subst (Told s) (sym (sym c.in-Ok.is ∙ c.read_size.ensures)) (size_told s) in
    let i = t.0.1 in
    let j = t.1.few in
    record { fits = omega arith }

pub returns-in-Ok : goal.returns-in-Ok
returns-in-Ok c = (omega arith, own_promised c.args.left.now _ _ (sym c.in-Ok.is ∙ c.read_size.ensures) c.min.ensures)

pub returns-in-Err : goal.returns-in-Err
returns-in-Err c = (omega arith, own-refused c.args.left.now _ _ (sym c.in-Err.is ∙ c.read_size.ensures))
