-- What a test says. Assumes nothing.
use mathlib.Core.Path.{◌≡◌, refl}
use mathlib.Core.Bool.{Bool, true, false, ◌&&◌}
use mathlib.Core.Option.{Option, none, some}
use Rattle.msgpack_first_bytes.specs.Bytes.{pick}
use Rattle.msgpack_first_bytes.proofs.Logic.{impossible}

pub both_hold : (a b : Bool) → (a && b) ≡ true → (a ≡ true) × (b ≡ true)
both_hold true true h = (refl, refl)
both_hold true false h = (refl, h)
both_hold false b h = (h, let z : false ≡ true = h in cc)

pub guarded : {A : Type 0} (b : Bool) (o : Option A) (x : A) → pick b o none ≡ some x → (b ≡ true) × (o ≡ some x)
guarded true o x h = (refl, h)
guarded false o x h = impossible (cc)
