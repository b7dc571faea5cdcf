-- Each width by the law over the width.
use Rattle.std.specs.Prelude.{Some}
use native.Mathlib.Omega.{arith}
use mathlib.Core.Path.{◌∙◌, ap}
use mathlib.Core.List.{[], ◌∷◌}
use Rattle.msgpack_numbers.specs.Number.{number}
use Rattle.msgpack_numbers.proofs.Big.{number_there}
use Rattle.msgpack_numbers.proofs.each_width_is_its_bytes_sum.Goals as goal

pub returns : goal.returns
unfolding number
returns c = (
  number_there,
  λ s t a. number_there s (a ∷ []) t (omega arith) ∙ ap Some (omega arith),
  λ s t a b. number_there s (a ∷ b ∷ []) t (omega arith) ∙ ap Some (omega arith),
  λ s t a b c d. number_there s (a ∷ b ∷ c ∷ d ∷ []) t (omega arith) ∙ ap Some (omega arith),
  λ s t a b c d e f g h. number_there s (a ∷ b ∷ c ∷ d ∷ e ∷ f ∷ g ∷ h ∷ []) t (omega arith) ∙ ap Some (omega arith),
)
