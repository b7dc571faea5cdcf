-- Each kind's meaning.
use native.Mathlib.Omega.{arith}
use Prim.Native.Nat.{◌+◌, ◌≤◌}
use mathlib.Core.Path.{◌≡◌, subst}
use Rattle.msgpack_first_bytes.specs.FirstByte.{same_kind}
use Rattle.msgpack_first_bytes.specs.declared.Kind.{Kind}
use Rattle.msgpack_meanings.specs.Meaning.{type_bytes, scalar_meaning}
use Rattle.msgpack_meanings.proofs.scalar_meaning.Goals.{In-Ext}
use Rattle.msgpack_meanings.proofs.scalar_meaning.Goals as goal

-- an ext has its type
ext : (c : In-Ext) → (let a = c.args in 1 + a.width + 1 ≤ a.end)
unfolding type_bytes same_kind
ext c =
    let a = c.args in
    subst (λ (k : Kind). 1 + a.width + type_bytes k ≤ a.end) c.in-Ext.is c.requires.0

pub bounds-s-from : goal.bounds-s-from
unfolding scalar_meaning
bounds-s-from c = let k = ext (goal.at.bounds-s-from c).In-Ext in omega arith

pub overflow_sub-result-in-Ext : goal.overflow_sub-result-in-Ext
unfolding scalar_meaning
overflow_sub-result-in-Ext c = let k = ext (goal.at.overflow_sub-result-in-Ext c).In-Ext in omega arith

pub returns-in-Ext : goal.returns-in-Ext
unfolding scalar_meaning
returns-in-Ext c = let w = c.args.width in let e : 1 + w + 1 ≡ 2 + w = omega arith in rw (c.in-Ext.is, e)
