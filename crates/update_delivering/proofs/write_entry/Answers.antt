use mathlib.Core.Path.{refl}
use native.Mathlib.Omega.{arith}
use Rattle.update_running.specs.Steps.{entry_mark, entry_field, entry_place}
use Rattle.update_delivering.proofs.Undos.{entry-removed, entry_copied}
use Rattle.update_delivering.proofs.write_entry.Goals as goal

pub overflow_cast-mark : goal.overflow_cast-mark
unfolding entry_mark
overflow_cast-mark c = omega (arith, c.requires.0)

pub returns-then-mark-eq35 : goal.returns-then-mark-eq35
unfolding entry_mark entry_field
returns-then-mark-eq35 c =
    entry-removed _ _ _ c.args.out.now c.args.entry _ _ c.args.at refl refl (omega arith) c.requires.1 c.write_bytes-number.ensures c.write_unsigned-value.ensures c.write_unsigned.ensures

pub returns : goal.returns
unfolding entry_mark entry_field entry_place
returns c =
    entry_copied _ _ _ c.args.out.now c.args.entry _ _ c.args.at refl refl (λ e. omega arith) c.requires.1 c.write_bytes-number.ensures c.write_unsigned-value.ensures
    c.start_of.ensures.0 c.length_of.ensures.0 c.copy_from.ensures
