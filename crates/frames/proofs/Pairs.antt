-- Of the items of a record, those that are written. Assumes nothing.
use Prim.Native.Nat.{suc, ◌≤◌}
use native.Mathlib.Omega.{arith}
use mathlib.Core.List.{List, [], ◌∷◌}
use mathlib.Core.Option.{Option, none, some}
use lib.ListN.{length}
use Rattle.msgpack_first_bytes.specs.Bytes.{Bytes}
use Rattle.frames.specs.Held.{Item, encoded}
use Rattle.frames.specs.Writing.{pairs, onto}

pub pairs-few : (xs : List Item) → length (pairs xs) ≤ length xs
unfolding pairs onto
pairs-few [] = omega arith
pairs-few (x ∷ xs) = go (encoded x.held) (pairs-few xs)
  where
    go : (o : Option Bytes) → length (pairs xs) ≤ length xs → length (onto x.key o (pairs xs)) ≤ suc (length xs)
    go none h = omega arith
    go (some v) h = omega arith
