-- The meaning by the first byte's form.
use native.Mathlib.Omega.{arith}
use mathlib.Core.Path.{sym, ◌∙◌}
use Rattle.msgpack_meanings.specs.Meaning.{meaning}
use Rattle.msgpack_meanings.proofs.Whole.{whole-within, scalar_whole}
use Rattle.msgpack_meanings.proofs.meaning_of.Goals as goal

pub scalar_meaning-requires : goal.scalar_meaning-requires
scalar_meaning-requires c =
    let p = c.requires in
    let f = c.in-Scalar in
    let b = c.type_inv.s 0 in
    (scalar_whole 16 _ _ f.kind _ _ (omega arith) p (sym f.is ∙ c.form_of.ensures), (whole-within 16 _ _ p).1)

pub bounds-s-0 : goal.bounds-s-0
unfolding meaning
bounds-s-0 c = let k = whole-within 16 _ _ c.requires in omega arith
