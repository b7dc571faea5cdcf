use mathlib.Core.Path.{sym, ap, ◌∙◌}
use native.Mathlib.Omega.{arith}
use Rattle.msgpack_first_bytes.proofs.Logic.{error_left}
use Rattle.tuples.specs.Call.{delivered}
use Rattle.update_delivering.proofs.Delivered.{Limited, too_short_lem, all-written, long-delivered, undo-limited, undo-refused}
use Rattle.update_delivering.proofs.deliver_undo.Goals.{In_ok-length}
use Rattle.update_delivering.proofs.deliver_undo.Goals as goal

limited : (c : In_ok-length) → Limited c.requires c.in_ok-length.length
limited c = undo-limited c.requires c.undo_length.result c.undo_length.ensures c.in_ok-length.was

pub returns-in_err-length : goal.returns-in_err-length
returns-in_err-length c =
    let u = undo-refused c.requires c.undo_length.result c.undo_length.ensures c.in_err-length.was in
    rw (error_left _ _ c.from_residual.ensures.1) (long-delivered _ c.args.out.now u.1)

pub returns-then-out-length : goal.returns-then-out-length
returns-then-out-length c =
    let L = limited (goal.at.returns-then-out-length c).In_ok-length in
    too_short_lem _ c.args.out.now (omega (arith, L.long)) ∙ ap (λ x. delivered x c.args.out.now) (sym L.is)

pub write_undo-requires : goal.write_undo-requires
write_undo-requires c =
    let L = limited (goal.at.write_undo-requires c).In_ok-length in
    (c.requires.entries L.few, omega (arith, L.long))

pub returns : goal.returns
returns c =
    let L = limited (goal.at.returns c).In_ok-length in
    all-written _ c.args.out.now L.long (omega (arith, L.long)) c.write_undo.ensures ∙ ap (λ x. delivered x c.args.out.now) (sym L.is)
