-- A tuple written: its header, then its fields. Assumes nothing.
use mathlib.Core.Path.{◌≡◌, sym, ◌∙◌}
use mathlib.Core.List.{List, ◌++◌}
use Prim.Native.Nat.{ℕ, ◌+◌, ◌-◌, ◌≤◌}
use native.Mathlib.Omega.{arith}
use lib.ListN.{length, take, drop}
use Rattle.msgpack_first_bytes.specs.Bytes.{Bytes}
use Rattle.msgpack_values.specs.Pieces.{joined}
use Rattle.msgpack_writing.specs.Forms.{array_header}
use Rattle.msgpack_writing.specs.Put.{put, next}
use Rattle.tuples.specs.Limits.{max_tuple}
use Rattle.tuples.specs.Tuple.{plain}
use Rattle.update_places.specs.Place.{bytes_at, fields_in}
use Rattle.update_table.specs.Table.{window}
use Rattle.update_table.proofs.Windows.{length-window}
use Rattle.update_running.specs.declared.Stage.{Stage}
use Rattle.update_running.specs.Held.{places_now}
use Rattle.update_running.proofs.Sums.{length-map}
use Rattle.update_delivering.specs.Gathering.{Gathers, Sides, shown, Stands}
use Rattle.update_delivering.proofs.Delivered.{values-room, plain-written}

module _ {t l w : Bytes} {table : List ℕ} {z : Stage} (S : Stands t l w table z) where
  pub few_bytes : z.bytes ≤ max_tuple
  few_bytes = let e = S.long in let s = S.short in omega arith

  counted : z.fields ≡ length (shown t l w table z)
  unfolding fields_in
  counted = sym (length-map (bytes_at t l w) (places_now table z) ∙ length-window table z.head z.fields S.inside)

  -- the entries as the code takes them
  taken : take (z.head + z.fields - z.head) (drop z.head table) ≡ places_now table z
  unfolding window
  taken = let e : z.head + z.fields - z.head ≡ z.fields = omega arith in rw e

  module _ (out : Bytes) (h : length (plain (shown t l w table z)) ≤ length out) {u : Bytes} {i : ℕ}
      (a : (i ≡ next 0 (array_header z.fields) out) × (u ≡ put 0 (array_header z.fields) out)) where
    pub tuple_gathers : Gathers t l w (take (z.head + z.fields - z.head) (drop z.head table)) u i
        × Sides (take (z.head + z.fields - z.head) (drop z.head table)) z.low z.tail
    tuple_gathers =
        rw taken (
          record {
            sources = S.sources;
            few = let e = length-window table z.head z.fields S.inside in omega (arith, S.few);
            whole = S.whole;
            room = values-room (shown t l w table z) z.fields out counted h a;
          },
          S.sides,
        )

    pub tuple-written : {x : Bytes} {k : ℕ}
        → (k ≡ next i (joined (fields_in t l w (take (z.head + z.fields - z.head) (drop z.head table)))) u)
        × (x ≡ put i (joined (fields_in t l w (take (z.head + z.fields - z.head) (drop z.head table)))) u)
        → x ≡ plain (shown t l w table z) ++ drop (length (plain (shown t l w table z))) out
    tuple-written d = plain-written (shown t l w table z) z.fields out counted h a (rw taken at d)
