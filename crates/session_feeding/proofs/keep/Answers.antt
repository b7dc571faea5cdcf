-- Nothing, what is missing, or all of the piece.
use Rattle.std.proofs.Common.{refl, ap, ◌∙◌, eq-eqb, ne_eqb}
use Rattle.msgpack_first_bytes.specs.Bytes.{Bytes}
use Rattle.msgpack_writing.specs.Put.{put}
use Rattle.msgpack_writing.proofs.Put.{nothing}
use Rattle.sessions.specs.Session.{kept}
use Rattle.session_feeding.proofs.Steps.{take_least}
use Rattle.session_feeding.proofs.keep.Goals as goal

pub returns-then-not-settled : goal.returns-then-not-settled
unfolding kept
returns-then-not-settled c = rw (c.if-not-settled.true) c.write_bytes.ensures.1

pub returns-then-held-ne0 : goal.returns-then-held-ne0
unfolding kept
returns-then-held-ne0 c =
    let a = c.args in
    rw (c.if-not-settled.false, ne_eqb _ 0 c.if-held-ne0.true, ← c.saturating_sub.ensures)
    (c.write_bytes-then-held-ne0.ensures.1 ∙ ap (λ (x : Bytes). put a.held x a.carry.now) (take_least _ _ c.min-n.ensures))

pub returns-else-held-ne0 : goal.returns-else-held-ne0
unfolding kept
returns-else-held-ne0 c = rw (c.if-not-settled.false, eq-eqb _ 0 c.if-held-ne0.false) (nothing c.args.carry.now _ _ refl).1
