-- One law for each way back.
use native.Mathlib.Omega.{arith}
use Rattle.msgpack_first_bytes.proofs.Logic.{error_left}
use Rattle.update_planning.proofs.Answers.{altered_past, altered_not, altered_put, assigned_put, assigned_not, assigned_add, assigned_full, assigned_past, inserted_add, inserted_not, inserted_past, removed_some, removed_past}
use Rattle.update_planning.proofs.plan.Goals as goal

pub returns-in_err-to-in-Alter : goal.returns-in_err-to-in-Alter
returns-in_err-to-in-Alter c =
    let a = c.args in
    rw (error_left _ _ c.from_residual-in_err-to-in-Alter.ensures.1) (
    altered_not a.tuple.now a.list.now a.work.now a.used a.old a.n a.end a.field a.action c.in_ok-f.ensures.value c.in-Alter.is (omega arith) c.in_err-to-in-Alter.ensures)

pub returns-in_ok-to-in-Alter : goal.returns-in_ok-to-in-Alter
returns-in_ok-to-in-Alter c =
    let a = c.args in
    altered_put a.tuple.now a.list.now a.work.now a.used a.old a.n a.end a.field a.action c.in_ok-f.ensures.value c.in-Alter.is (omega arith) c.in_ok-to-in-Alter.ensures c.place_of.ensures

pub returns-in_default : goal.returns-in_default
returns-in_default c =
    let a = c.args in
    altered_past a.tuple.now a.list.now a.work.now a.used a.old a.n a.end a.field a.action c.in_ok-f.ensures.value c.in-Alter.is (omega arith)

pub returns-in_err-brought-in-Assign : goal.returns-in_err-brought-in-Assign
returns-in_err-brought-in-Assign c =
    let a = c.args in
    rw (error_left _ _ c.from_residual-in_err-brought-in-Assign.ensures.1) (
    assigned_not a.tuple.now a.list.now a.work.now a.used a.old a.n a.end a.field a.action c.in_ok-f.ensures.value c.in-Assign.is (omega arith) c.in_err-brought-in-Assign.ensures)

pub returns-in_ok-brought-in-Assign : goal.returns-in_ok-brought-in-Assign
returns-in_ok-brought-in-Assign c =
    let a = c.args in
    assigned_put a.tuple.now a.list.now a.work.now a.used a.old a.n a.end a.field a.action c.in_ok-f.ensures.value c.in-Assign.is (omega arith) c.in_ok-brought-in-Assign.ensures

pub returns-in_err-brought-in-Assign-2 : goal.returns-in_err-brought-in-Assign-2
returns-in_err-brought-in-Assign-2 c =
    let a = c.args in
    rw (error_left _ _ c.from_residual-in_err-brought-in-Assign-2.ensures.1) (
    assigned_full a.tuple.now a.list.now a.work.now a.used a.old a.n a.end a.field a.action c.in_ok-f.ensures.value c.in-Assign-2.is (omega arith) c.in_err-brought-in-Assign-2.ensures)

pub returns-in_ok-brought-in-Assign-2 : goal.returns-in_ok-brought-in-Assign-2
returns-in_ok-brought-in-Assign-2 c =
    let a = c.args in
    assigned_add a.tuple.now a.list.now a.work.now a.used a.old a.n a.end a.field a.action c.in_ok-f.ensures.value c.in-Assign-2.is (omega arith) c.in_ok-brought-in-Assign-2.ensures

pub returns-in_default-2 : goal.returns-in_default-2
returns-in_default-2 c =
    let a = c.args in
    assigned_past a.tuple.now a.list.now a.work.now a.used a.old a.n a.end a.field a.action c.in_ok-f.ensures.value c.in-Assign-2.is (omega arith)

pub returns-in_err-brought-in-Insert : goal.returns-in_err-brought-in-Insert
returns-in_err-brought-in-Insert c =
    let a = c.args in
    rw (error_left _ _ c.from_residual-in_err-brought-in-Insert.ensures.1) (
    inserted_not a.tuple.now a.list.now a.work.now a.used a.old a.n a.end a.field a.action c.in_ok-f.ensures.value c.in-Insert.is (omega arith) c.in_err-brought-in-Insert.ensures)

pub returns-in_ok-brought-in-Insert : goal.returns-in_ok-brought-in-Insert
returns-in_ok-brought-in-Insert c =
    let a = c.args in
    inserted_add a.tuple.now a.list.now a.work.now a.used a.old a.n a.end a.field a.action c.in_ok-f.ensures.value c.in-Insert.is (omega arith) c.in_ok-brought-in-Insert.ensures

pub returns-in_default-3 : goal.returns-in_default-3
returns-in_default-3 c =
    let a = c.args in
    inserted_past a.tuple.now a.list.now a.work.now a.used a.old a.n a.end a.field a.action c.in_ok-f.ensures.value c.in-Insert.is (omega arith)

pub returns-in-Remove : goal.returns-in-Remove
returns-in-Remove c =
    let a = c.args in
    removed_some a.tuple.now a.list.now a.work.now a.used a.old a.n a.end a.field a.action c.in_ok-f.ensures.value c.in-Remove.is (omega arith) c.min.ensures

pub returns-in_default-4 : goal.returns-in_default-4
returns-in_default-4 c =
    let a = c.args in
    removed_past a.tuple.now a.list.now a.work.now a.used a.old a.n a.end a.field a.action c.in_ok-f.ensures.value c.in-Remove.is (omega arith)
