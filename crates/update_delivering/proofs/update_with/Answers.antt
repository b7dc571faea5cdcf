use mathlib.Core.Path.{refl}
use mathlib.Core.Logic.{inl}
use Rattle.msgpack_first_bytes.proofs.Logic.{error_left}
use Rattle.update_delivering.proofs.Tries.{lacks, update-refused, stalled_stands, tries_moved, carried_stands, update-refuses, update-writes}
use Rattle.update_delivering.proofs.update_with.Goals as goal

pub rebase-requires : goal.rebase-requires
rebase-requires c = stalled_stands (rw c.in-Err-Full.field-0-is at c.in-Err-Full.ensures)

pub deliver-requires : goal.deliver-requires
deliver-requires c = carried_stands c.in-Ok.ensures

pub returns-in-Err-NoRoom : goal.returns-in-Err-NoRoom
returns-in-Err-NoRoom c =
    let a = c.args in
    (refl, refl, inl (lacks a.table.now a.work.now c.carry_out.new.table c.carry_out.new.work c.carry_out.auto.table c.carry_out.auto.work (rw c.in-Err-NoRoom.field-0-is at c.in-Err-NoRoom.ensures)))

pub returns-in-Err-Refused : goal.returns-in-Err-Refused
returns-in-Err-Refused c = let e = rw c.in-Err-Refused.field-0-is at c.in-Err-Refused.ensures in (update-refused _ _ _ c.args.out.now e.0, refl, e.1)

pub returns-in-Err-Full : goal.returns-in-Err-Full
returns-in-Err-Full c =
    let a = c.args in
    tries_moved (rw c.in-Err-Full.field-0-is at c.in-Err-Full.ensures) c.rebase.result a.work.now a.out.now _ _ a.table.now c.carry_out.auto.work c.rebase.ensures

pub returns-in_err-deliver-in-Ok : goal.returns-in_err-deliver-in-Ok
returns-in_err-deliver-in-Ok c =
    let a = c.args in
    rw (error_left _ _ c.from_residual.ensures.1) (update-refuses c.in-Ok.ensures a.work.now a.out.now _ a.spare.now a.table.now _ (rw c.in_err-deliver-in-Ok.was at c.deliver.ensures))

pub returns-in_ok-deliver-in-Ok : goal.returns-in_ok-deliver-in-Ok
returns-in_ok-deliver-in-Ok c =
    let a = c.args in
    update-writes c.in-Ok.ensures a.work.now a.out.now _ a.spare.now a.table.now (rw c.in_ok-deliver-in-Ok.was at c.deliver.ensures)
