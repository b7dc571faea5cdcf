-- An unsigned number below 128, and then a value.
use mathlib.Core.Path.{sym, ◌∙◌}
use Rattle.frame_tables.proofs.Entries.{no_number, large_key, no_value, one_entry, ends_after}
use Rattle.frame_tables.proofs.entry_at.Goals as goal

pub returns-in_default : goal.returns-in_default
returns-in_default c =
    let a = c.args in
    no_number a.s.now a.at _ (sym c.in_default.is ∙ c.unsigned_at.ensures)

pub returns-then-key-gt-MAX_KEY : goal.returns-then-key-gt-MAX_KEY
returns-then-key-gt-MAX_KEY c =
    let b = c.before in
    let a = b.args in
    large_key a.s.now a.at _ _ (sym c.in-Ok.is ∙ b.unsigned_at.ensures) c.if-key-gt-MAX_KEY.true

pub returns-in_default-read_value : goal.returns-in_default-read_value
returns-in_default-read_value c =
    let d = c.before.before in
    let b = d.before in
    let a = b.args in
    no_value a.s.now a.at _ _ (sym d.in-Ok.is ∙ b.unsigned_at.ensures) _ d.if-key-gt-MAX_KEY.false
    (sym c.in_default-read_value.is ∙ c.read_value.ensures)

pub returns : goal.returns
returns c =
    let d = c.before.before in
    let b = d.before in
    let a = b.args in
    one_entry a.s.now a.at _ _ (sym d.in-Ok.is ∙ b.unsigned_at.ensures) _ d.if-key-gt-MAX_KEY.false
    (sym c.in-Ok-read_value.is ∙ c.read_value.ensures)

pub overflow_sub-length : goal.overflow_sub-length
overflow_sub-length c = ends_after _ _ _ (sym c.in-Ok-read_value.is ∙ c.read_value.ensures)
