use mathlib.Core.Path.{◌∙◌}
use native.Mathlib.Omega.{arith}
use Rattle.msgpack_first_bytes.proofs.Logic.{error_left}
use Rattle.update_delivering.proofs.Delivered.{Limited, long-declined, out-short, undo-short, both-written, undo-limited, undo-refused, press-is}
use Rattle.update_delivering.proofs.deliver_both.Goals.{In_ok-undo_length}
use Rattle.update_delivering.proofs.deliver_both.Goals as goal

limited : (c : In_ok-undo_length) → Limited c.requires.1 c.in_ok-undo_length.undo_length
limited c = undo-limited c.requires.1 c.undo_length.result c.undo_length.ensures c.in_ok-undo_length.was

pub returns-in_err-undo_length : goal.returns-in_err-undo_length
returns-in_err-undo_length c =
    let u = undo-refused c.requires.1 c.undo_length.result c.undo_length.ensures c.in_err-undo_length.was in
    rw (error_left _ _ c.from_residual.ensures.1) (long-declined _ _ c.args.out.now c.args.undo.now u.1)

pub returns-then-out-length : goal.returns-then-out-length
returns-then-out-length c =
    let L = limited (goal.at.returns-then-out-length c).In_ok-undo_length in
    out-short _ _ c.args.out.now c.args.undo.now (omega (arith, c.requires.0.long, c.tuple_length-length.ensures)) ∙ press-is _ c.args.out.now c.args.undo.now L.is

pub returns-then-undo-undo_length : goal.returns-then-undo-undo_length
returns-then-undo-undo_length c =
    let L = limited (goal.at.returns-then-undo-undo_length c).In_ok-undo_length in
    undo-short _ _ c.args.out.now c.args.undo.now (omega (arith, L.long)) (omega (arith, c.requires.0.long, c.tuple_length-length.ensures)) ∙ press-is _ c.args.out.now c.args.undo.now L.is

pub write_undo-requires : goal.write_undo-requires
write_undo-requires c =
    let L = limited (goal.at.write_undo-requires c).In_ok-undo_length in
    (c.requires.1.entries L.few, omega (arith, L.long))

pub returns : goal.returns
returns c =
    let L = limited (goal.at.returns c).In_ok-undo_length in
    both-written _ _ c.args.out.now c.args.undo.now (c.tuple_length-length.ensures ∙ c.requires.0.long) L.long
    (omega (arith, c.requires.0.long, c.tuple_length-length.ensures, c.if-out-length.false)) (omega (arith, L.long, c.if-undo-undo_length.false)) c.write_tuple.ensures c.write_undo.ensures
    ∙ press-is _ c.args.out.now c.args.undo.now L.is
