-- A refused size, or the contents that it promises.
use Rattle.std.proofs.Common.{◌≡◌, length, take, sym, refl, ◌∙◌, arith, length-take-le}
use Rattle.session_feeding.proofs.Steps.{refused-stop, refused-read, refused_settled, promised_stop, promised_few, come, promised_settled, carry_is, promised_answer}
use Rattle.session_feeding.proofs.go_on.Goals as goal

pub slice_bounds-size_over-end-2 : goal.slice_bounds-size_over-end-2
slice_bounds-size_over-end-2 c = let a = c.args in sym (length-take-le a.held a.carry.now (omega arith))

pub overflow_add-stop : goal.overflow_add-stop
overflow_add-stop c =
    let a = c.args in
    let l = promised_few (take a.held a.carry.now) a.piece.now (sym c.in-Ok.is ∙ c.size_over.ensures) in
    omega arith

pub returns-in-Err : goal.returns-in-Err
returns-in-Err c =
    let a = c.args in
    let p = a.piece.now in
    let b = take a.held a.carry.now in
    let l = sym (length-take-le a.held a.carry.now c.requires.0) in
    let e = sym c.in-Err.is ∙ c.size_over.ensures in
    (((refl, refl), (refused-stop b p e, c.refused-answer.ensures ∙ refused-read b p e)), carry_is b p a.carry.now l (refused-stop b p e) (refused_settled b p e) c.keep.ensures)

pub returns-in-Ok : goal.returns-in-Ok
returns-in-Ok c =
    let h = c.requires in
    let a = c.args in
    let p = a.piece.now in
    let b = take a.held a.carry.now in
    let l : a.held ≡ length b = sym (length-take-le a.held a.carry.now h.0) in
    let e = sym c.in-Ok.is ∙ c.size_over.ensures in (
      ((refl, refl), (promised_stop b p e, promised_answer p a.carry.now a.held h.0 h.1 e c.saturating_sub.ensures c.keep-in-Ok.ensures c.view.ensures c.contents-answer.ensures)),
      carry_is b p a.carry.now l (promised_stop b p e) (rw c.saturating_sub.ensures (come b p e l) ∙ promised_settled b p e) c.keep-in-Ok.ensures,
    )
