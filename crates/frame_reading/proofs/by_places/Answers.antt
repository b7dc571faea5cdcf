-- The code, its required keys, the types, and what is there.
use mathlib.Core.Path.{◌≡◌, sym, ap, ap₂, ◌∙◌}
use Prim.Native.Nat.{ℕ}
use mathlib.Core.List.{List}
use mathlib.Core.Bool.{Bool, true, ◌&&◌}
use borrow.Author.Tests.{not-true, not-false}
use Rattle.std.specs.Prelude.{Option as Maybe, Some, option_map}
use Rattle.msgpack_first_bytes.specs.Bytes.{Bytes}
use Rattle.frames.specs.Keys.{optional, code_in, header_table, body_table}
use Rattle.frames.specs.Reading.{suited}
use Rattle.frames.specs.declared.Place.{Place}
use Rattle.msgpack_values.specs.declared.OptionalNumber.{OptionalNumber}
use Rattle.frame_rules.specs.Needs.{needs_of}
use Rattle.frame_rules.proofs.Laws.{code_unknown, code_known}
use Rattle.frame_reading.specs.Steps.{answer_of}
use Rattle.frame_reading.proofs.Places.{Judged, code-absent, code_there, no_code, no_such_code, unsuited, not_all_there, accepted}
use Rattle.frame_reading.proofs.by_places.Goals as goal

-- what is known of the code, its keys and the types
judge_code : {s : Bytes} {f g : ℕ → Place} (n : OptionalNumber) {o : Maybe (List ℕ)} {ks : List ℕ} {x y : Bool} → n ≡ optional (code_in s f) → n.present ≡ true
    → o ≡ needs_of n.value → o ≡ Some ks → x ≡ suited header_table s f → y ≡ suited body_table s g → Judged s f g n.value ks (x && y)
judge_code n e h k q a b = record { coded = code_there _ n e h; known = code_known n.value _ (sym q ∙ k); nine = ap₂ ◌&&◌ a b }

pub returns-then-not-code : goal.returns-then-not-code
unfolding code_in answer_of
returns-then-not-code c = no_code _ _ _ (code-absent _ _ c.number_in-code.ensures (not-true _ c.if-not-code.true))

pub returns-in_default : goal.returns-in_default
unfolding code_in answer_of
returns-in_default c =
    no_such_code _ _ _ _ (code_there _ _ c.number_in-code.ensures (not-false _ c.if-not-code.false))
    (code_unknown _ (rw c.in_default.is at c.needs_of.ensures))

pub returns-then-not-suited : goal.returns-then-not-suited
unfolding code_in answer_of
returns-then-not-suited c =
    unsuited
    (judge_code _ c.number_in-code.ensures (not-false _ c.if-not-code.false) c.needs_of.ensures (ap (option_map (λ s. s.now)) c.in-Some.is) c.header_suits.ensures c.body_suits.ensures)
    c.if-not-suited.true

pub returns-then-not-all_there : goal.returns-then-not-all_there
unfolding code_in answer_of
returns-then-not-all_there c =
    not_all_there
    (judge_code _ c.number_in-code.ensures (not-false _ c.if-not-code.false) c.needs_of.ensures (ap (option_map (λ s. s.now)) c.in-Some.is) c.header_suits.ensures c.body_suits.ensures)
    c.if-not-suited.false c.all_there.ensures c.if-not-all_there.true

pub returns : goal.returns
unfolding code_in answer_of
returns c =
    accepted
    (judge_code _ c.number_in-code.ensures (not-false _ c.if-not-code.false) c.needs_of.ensures (ap (option_map (λ s. s.now)) c.in-Some.is) c.header_suits.ensures c.body_suits.ensures)
    c.if-not-suited.false c.all_there.ensures c.if-not-all_there.false c.frame_of.ensures
