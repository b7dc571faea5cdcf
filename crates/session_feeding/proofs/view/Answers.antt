-- The front of the one or the other.
use Rattle.std.proofs.Common.{◌≡◌, ◌∙◌}
use Rattle.sessions.specs.Session.{view_of}
use Rattle.session_feeding.proofs.Steps.{take_least}
use Rattle.session_feeding.proofs.view.Goals.{then-in_carry, else-in_carry}
use Rattle.session_feeding.proofs.view.Goals as goal

pub returns : goal.returns
unfolding view_of
returns c =
    take_least _ _ c.min.ensures
    ∙ elim c.if-in_carry.branch [
      | then-in_carry w ↦ let h : c.if-in_carry.shown.now ≡ c.args.carry.now = cc in rw (w.if-in_carry.true, h)
      | else-in_carry w ↦ let h : c.if-in_carry.shown.now ≡ c.args.piece.now = cc in rw (w.if-in_carry.false, h)
    ]
