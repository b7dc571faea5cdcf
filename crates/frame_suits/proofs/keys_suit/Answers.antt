-- One key after the other.
use Prim.Native.Nat.{ℕ, ◌+◌, ◌<◌, ◌≤◌}
use mathlib.Core.Path.{◌≡◌, sym, ◌∙◌}
use mathlib.Core.Bool.{Bool, ◌&&◌}
use native.Mathlib.Omega.{arith}
use native.Mathlib.Numerals.{add-one}
use lib.Seq.{slice, slice_empty, slice-cons}
use mathlib.Core.List.{List}
use Rattle.frames.specs.declared.Line.{Line}
use Rattle.frames.specs.declared.Place.{Place}
use Rattle.frames.specs.Limits.{known_keys}
use Rattle.frames.specs.Held.{suits, held_at}
use Rattle.frames.specs.Keys.{all_lines}
use Rattle.frames.specs.Reading.{suited}
use Rattle.frame_tables.specs.Tables.{place_in}
use Rattle.frame_rules.specs.Needs.{line_at, no_line}
use Rattle.frame_suits.proofs.keys_suit.Goals as goal

-- the first of the lines that are left, and the others
turn : (s : List ℕ) (f : ℕ → Place) (i to : ℕ) {l : Line} {b : Bool} → i < to → to ≤ known_keys → l ≡ line_at i
    → b ≡ suits l.rule (held_at l.rule s (f l.key)) → (b && suited (slice (i + 1) to all_lines) s f) ≡ suited (slice i to all_lines) s f
unfolding suited line_at
turn s f i to h k el eb = rw (slice-cons i to all_lines no_line h k, eb, el, add-one)

pub returns-then-not-key_suits : goal.returns-then-not-key_suits
returns-then-not-key_suits c =
    let l = c.loop-i in
    let a = c.args in
    turn a.s.now (place_in a.table.now) l.i a.to c.loop-i-test.true (omega arith) c.line_of.ensures
    (sym c.if-not-key_suits.true ∙ c.key_suits.ensures)
    ∙ l.invariant

pub loop-i-preserved : goal.loop-i-preserved
loop-i-preserved c =
    let l = c.loop-i in
    let a = c.args in
    turn a.s.now (place_in a.table.now) l.i a.to c.loop-i-test.true (omega arith) c.line_of.ensures
    (sym c.if-not-key_suits.false ∙ c.key_suits.ensures)
    ∙ l.invariant

pub returns : goal.returns
unfolding suited
returns c =
    let l = c.loop-i in
    let to = c.args.to in
    let e : l.i ≡ to = omega arith in
    rw (e, slice_empty to all_lines) at l.invariant
