-- What is made in the free bytes is made behind those in use.
use Rattle.msgpack_first_bytes.proofs.Logic.{error_left}
use Rattle.update_altering.proofs.Edits.{at_place}
use Rattle.update_altering.proofs.alter.Goals as goal

pub returns-in_err-made : goal.returns-in_err-made
returns-in_err-made c =
    let a = c.args in
    let s = c.split_at_mut-work.ensures in
    rw (error_left _ _ c.from_residual.ensures.1) (
    at_place a.tuple.now a.list.now a.work.now a.used a.old a.end a.change c.start_of.ensures.0 c.length_of.ensures.0 c.min-taken.ensures s.front s.back
    c.in_err-made.ensures.edit c.in_err-made.ensures.some)

pub returns : goal.returns
returns c =
    let a = c.args in
    let s = c.split_at_mut-work.ensures in
    at_place a.tuple.now a.list.now a.work.now a.used a.old a.end a.change c.start_of.ensures.0 c.length_of.ensures.0 c.min-taken.ensures s.front s.back
    c.in_ok-made.ensures.edit c.in_ok-made.ensures.some
