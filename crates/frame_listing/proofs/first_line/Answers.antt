-- The line for each answer of the reader.
use mathlib.Core.Path.{sym, ◌∙◌}
use native.Mathlib.Omega.{arith}
use borrow.Author.Tests.{eqb-true, eqb-false}
use lib.ListN.{length}
use Rattle.frame_listing_fields.specs.Text.{text}
use Rattle.frame_listing.specs.Listing.{frame_line, last_line}
use Rattle.frame_listing.proofs.Lines.{frame-first, incomplete_first, number-first, clean_first, last-first, line_first, most_of, last-short, frame-short}
use Rattle.frame_listing.proofs.Within.{Within, frame-within}
use Rattle.frame_listing.proofs.first_line.Goals as goal

pub write_last-requires : goal.write_last-requires
unfolding last_line
write_last-requires c = last-short (text "clean") 0 0 _ (omega arith) (omega (arith, c.requires.2))

pub write_last-requires-in-1 : goal.write_last-requires-in-1
unfolding last_line
write_last-requires-in-1 c = last-short (text "incomplete") 4 _ _ (omega (arith, c.requires.0)) (omega (arith, c.requires.2))

pub write_last-requires-in_default : goal.write_last-requires-in_default
unfolding last_line
write_last-requires-in_default c =
    let u = c.read_frame-answer.type_inv.1.1.0.1 in
    last-short (text "refused") 9 _ _ (omega (arith, u, c.from.ensures)) (omega (arith, c.requires.2))

pub write_frame-length-requires : goal.write_frame-length-requires
write_frame-length-requires c =
    let a = c.read_frame-answer.result in
    let q : Within 2 (length c.args.left.now) a = rw c.read_frame-answer.ensures (frame-within c.args.left.now) in
    let f = q.fits in
    let l = frame-short c.args.number a.frame.code a.frame.sync a.length c.requires.1 c.read_frame-answer.type_inv.1.1.1.1.0.1.1.1.0.1.1.1.0.1 (omega (arith, f, c.requires.0)) in
    omega (arith, l, c.requires.2)

pub returns-then-is_empty : goal.returns-then-is_empty
unfolding last_line
returns-then-is_empty c =
    last-first c.args.number c.args.left.now c.args.line.now _ c.write_last.ensures c.requires.2 (clean_first _ _ (eqb-true _ 0 (sym c.is_empty.ensures ∙ c.if-is_empty.true)))
    (last-short (text "clean") 0 0 23 (omega arith) (omega arith))

pub returns-in-1 : goal.returns-in-1
unfolding last_line
returns-in-1 c =
    let z = eqb-false _ 0 (sym c.is_empty.ensures ∙ c.if-is_empty.false) in
    let b = c.requires.0 in
    last-first c.args.number c.args.left.now c.args.line.now _ c.write_last-in-1.ensures c.requires.2
    (incomplete_first _ _ c.read_frame-answer.result c.read_frame-answer.ensures (omega (arith, z)) c.in-1.is) (last-short (text "incomplete") 4 _ 23 (omega (arith, b)) (omega arith))

pub returns-in_default : goal.returns-in_default
unfolding last_line
returns-in_default c =
    let z = eqb-false _ 0 (sym c.is_empty.ensures ∙ c.if-is_empty.false) in
    let u = c.read_frame-answer.type_inv.1.1.0.1 in
    last-first c.args.number c.args.left.now c.args.line.now _ (rw c.from.ensures at c.write_last-in_default.ensures) c.requires.2
    (number-first _ _ c.read_frame-answer.result c.read_frame-answer.ensures (omega (arith, z)) (λ h. omega arith) (λ h. omega arith)) (last-short (text "refused") 9 _ 23 (omega (arith, u)) (omega arith))

pub returns-in-0 : goal.returns-in-0
returns-in-0 c =
    let z = eqb-false _ 0 (sym c.is_empty.ensures ∙ c.if-is_empty.false) in
    let a = c.read_frame-answer.result in
    let q : Within 2 (length c.args.left.now) a = rw c.read_frame-answer.ensures (frame-within c.args.left.now) in
    let m = q.least c.in-0.is in
    let f = q.fits in
    let b = c.requires.0 in
    let l = frame-short c.args.number a.frame.code a.frame.sync a.length c.requires.1 c.read_frame-answer.type_inv.1.1.1.1.0.1.1.1.0.1.1.1.0.1 (omega (arith, f, b)) in
    line_first c.args.number c.args.left.now c.args.line.now (frame_line c.args.number a.frame.code a.frame.sync a.length) a.length c.write_frame-length.ensures (omega (arith, l, c.requires.2))
    (frame-first _ _ a c.read_frame-answer.ensures (omega (arith, z)) c.in-0.is) (most_of a.length _ m l) f
