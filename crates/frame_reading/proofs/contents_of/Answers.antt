-- Each way through header and body.
use Rattle.std.specs.Prelude.{Some}
use Prim.Native.Nat.{ℕ}
use lib.ListN.{length}
use mathlib.Core.Path.{sym, ap, ◌∙◌}
use Rattle.msgpack_first_bytes.proofs.Logic.{error_left}
use Rattle.frames.specs.Limits.{held_depth}
use Rattle.frames.specs.Maps.{entries_at}
use Rattle.frames.specs.Reading.{by_entries, broken}
use Rattle.frame_reading.specs.Steps.{answer_of, entries_in}
use Rattle.frame_reading.proofs.Contents.{body_there, body_missing, ended, not_ended, no_header, no_body, bad_body, bytes_remain, all_read}
use Rattle.frame_reading.proofs.contents_of.Goals as goal

pub returns-in_err-end : goal.returns-in_err-end
returns-in_err-end c =
    let a = c.args in
    let n = not_ended a.s.now a.at (length a.s.now) _ (sym c.in_err-end.was ∙ c.whole_at.ensures) in
    rw (error_left _ _ c.from_residual.ensures.1) (n.1 ∙ no_header _ _ n.0.0 n.0.1)

pub returns-in_default : goal.returns-in_default
returns-in_default c =
    c.judge.ensures ∙ no_body _ _ _ (ended _ _ _ (sym c.in_ok-end.was ∙ c.whole_at.ensures)) (body_missing _ _ (sym c.in_default.is ∙ c.body_at.ensures))

pub returns-in_err-last : goal.returns-in_err-last
returns-in_err-last c =
    let s = c.args.s.now in
    let t = body_there _ _ _ (sym c.in-Some.is ∙ c.body_at.ensures) in
    let n = not_ended s c.in-Some.from (length s) _ (sym c.in_err-last.was ∙ c.whole_at-2.ensures) in
    rw (error_left _ _ c.from_residual-in_err-last.ensures.1)
    (n.1 ∙ ap (broken s) t.1 ∙ bad_body _ _ _ (ended _ _ _ (sym c.in_ok-end.was ∙ c.whole_at.ensures)) t.0 n.0.0 (rw (sym t.1) n.0.1))

pub returns-then-last-s : goal.returns-then-last-s
unfolding answer_of
returns-then-last-s c =
    let t = body_there _ _ _ (sym c.in-Some.is ∙ c.body_at.ensures) in
    bytes_remain _ _ _ (ended _ _ _ (sym c.in_ok-end.was ∙ c.whole_at.ensures)) t.0 _ (rw (sym t.1) (ended _ _ _ (sym c.in_ok-last.was ∙ c.whole_at-2.ensures)))
    c.if-last-s.true

pub returns : goal.returns
returns c =
    let a = c.args in
    let t = body_there _ _ _ (sym c.in-Some.is ∙ c.body_at.ensures) in
    c.judge-2.ensures
    ∙ ap (λ (x : ℕ). by_entries a.s.now (entries_at held_depth a.s.now a.at) (entries_in a.s.now (Some x))) t.1
    ∙ all_read _ _ _ (ended _ _ _ (sym c.in_ok-end.was ∙ c.whole_at.ensures)) t.0 _ (rw (sym t.1) (ended _ _ _ (sym c.in_ok-last.was ∙ c.whole_at-2.ensures)))
    c.if-last-s.false
