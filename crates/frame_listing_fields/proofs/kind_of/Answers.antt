-- An error's name, and no name for a code that no frame has.
use mathlib.Core.Path.{sym}
use mathlib.Core.Logic.{inl, inr}
use native.Mathlib.Omega.{arith}
use Rattle.frame_rules.proofs.Laws.{unknown_code}
use Rattle.frame_listing_fields.proofs.Names.{error_name, no_name}
use Rattle.frame_listing_fields.proofs.kind_of.Goals.{in_default-via-then-code-lt32768, in_default-via-else-code-lt32768+else-code-lt36864}
use Rattle.frame_listing_fields.proofs.kind_of.Goals as goal

pub returns-in_default : goal.returns-in_default
returns-in_default c =
    elim c.in_default.branch [
      | in_default-via-then-code-lt32768 w ↦ sym (no_name _ (unknown_code _ (inl (omega arith)) c.in_default-1.rest))
      | in_default-via-else-code-lt32768+else-code-lt36864 w ↦ sym (no_name _ (unknown_code _ (inr (omega arith)) c.in_default-1.rest))
    ]

pub returns-in-32768-to-36863 : goal.returns-in-32768-to-36863
returns-in-32768-to-36863 c = sym (error_name _ c.in-32768-to-36863.if-code-lt32768-own.false c.in-32768-to-36863.if-code-lt36864-own.true)
