-- The loop lays an entry at a time into the table.
use Rattle.std.specs.Prelude.{Some}
use Prim.Native.Nat.{ℕ, suc, ◌+◌, ◌-◌, ◌<◌}
use mathlib.Core.Path.{◌≡◌, sym, ap, ◌∙◌}
use native.Mathlib.Omega.{arith}
use Rattle.msgpack_first_bytes.specs.Bytes.{Bytes}
use Rattle.frames.specs.Limits.{held_depth}
use Rattle.frames.specs.Maps.{Entry, entry, entry_at, entries}
use Rattle.frame_tables.specs.declared.Value.{Value}
use Rattle.frame_tables.specs.Tables.{Table, table, number_of, step_of, laid_all, tabled_on}
use Rattle.frame_tables.proofs.Entries.{Fits, entry-fits, step-none, step_some}
use Rattle.frame_tables.proofs.Tables.{table_none, table-next, laid_new, laid_twice, table_eq}
use Rattle.frame_tables.proofs.table_of.Goals.{then-values-key-eq0, else-values-key-eq0}
use Rattle.frame_tables.proofs.table_of.Goals as goal

-- what is left after i of n, with one entry taken from its count
left_one : (s : Bytes) (n i at : ℕ) (t r : Table) → i < n → tabled_on t (entries held_depth s (n - i) at) ≡ r
    → tabled_on t (entries held_depth s (suc (n - (i + 1))) at) ≡ r
left_one s n i at t r h k =
    let e : n - i ≡ suc (n - (i + 1)) = omega arith in
    rw e at k

fits : (s : Bytes) (at k : ℕ) (v : Value) → Some (k, v) ≡ step_of (entry_at held_depth s at) → Fits s (entry k v.start v.length)
fits s at k v q = entry-fits held_depth s at (entry k v.start v.length) (step_some _ _ _ q)

pub returns-in_default : goal.returns-in_default
returns-in_default c =
    let s = c.args.s.now in
    let l = c.loop in
    c.no_table.ensures
    ∙ sym (table_none held_depth s (c.args.count - (l.counter + 1)) l.at (table (number_of l.answer) l.values) (step-none _ (sym c.in_default.is ∙ c.entry_at.ensures)))
    ∙ left_one _ _ _ _ _ _ c.loop-test.true l.invariant

pub loop-preserved : goal.loop-preserved
loop-preserved c =
    let s = c.args.s.now in
    let l = c.loop in
    let v = c.in-Some.value in
    let e : Entry = entry c.in-Some.key v.start v.length in
    let t : Table = table (number_of l.answer) l.values in
    let left = c.args.count - (l.counter + 1) in
    let n = table-next held_depth s left l.at t e (step_some _ _ _ (sym c.in-Some.is ∙ c.entry_at.ensures)) in
    let on : Table → Table = λ t. tabled_on t (entries held_depth s left (e.start + e.length)) in
    let one = left_one _ _ _ _ _ _ c.loop-test.true l.invariant in
    elim c.if-values-key-eq0.branch [
      | then-values-key-eq0 w ↦ ap on (table_eq w.values-is (ap number_of w.answer-is) ∙ sym (laid_new e t w.if-values-key-eq0.true)) ∙ sym n ∙ one
      | else-values-key-eq0 w ↦ ap on (table_eq w.values-is (ap number_of w.answer-is) ∙ sym (laid_twice e t w.if-values-key-eq0.false)) ∙ sym n ∙ one
    ]

pub returns : goal.returns
unfolding entries tabled_on laid_all
returns c =
    let l = c.loop in
    let e : c.args.count - l.counter ≡ 0 = omega arith in
    rw e at l.invariant

pub offset_bounds-values-key : goal.offset_bounds-values-key
offset_bounds-values-key c = let f = fits _ _ _ _ (sym c.in-Some.is ∙ c.entry_at.ensures) in omega arith

pub bounds-values-key : goal.bounds-values-key
bounds-values-key c = (fits _ _ _ _ (sym c.in-Some.is ∙ c.entry_at.ensures)).low

pub offset_bounds-values-key-then-values-key-eq0 : goal.offset_bounds-values-key-then-values-key-eq0
offset_bounds-values-key-then-values-key-eq0 c = let f = fits _ _ _ _ (sym c.in-Some.is ∙ c.entry_at.ensures) in omega arith

pub bounds-values-key-then-values-key-eq0 : goal.bounds-values-key-then-values-key-eq0
bounds-values-key-then-values-key-eq0 c = (fits _ _ _ _ (sym c.in-Some.is ∙ c.entry_at.ensures)).low

pub overflow_add-at : goal.overflow_add-at
overflow_add-at c = let f = fits _ _ _ _ (sym c.in-Some.is ∙ c.entry_at.ensures) in omega arith
