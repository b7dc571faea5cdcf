-- The table that the loop fills, an entry at a time. Assumes nothing.
use mathlib.Core.Path.{◌≡◌, refl, sym, ◌∙◌}
use mathlib.Core.List.{List, ◌∷◌}
use mathlib.Core.Option.{Option, none, some}
use mathlib.Core.Bool.{true, false}
use Prim.Native.Nat.{ℕ, suc, ◌+◌, ◌<◌, ◌≤◌}
use native.Mathlib.Omega.{arith}
use Rattle.std.proofs.lemmas.List.{get_or_default}
use borrow.Author.Tests.{eq-eqb, ne_eqb, ltb-true, ltb-false}
use lib.Dec.{ltb}
use lib.ListN.{length, get_or, set, get_or-eq_default}
use Rattle.msgpack_first_bytes.specs.Bytes.{Bytes}
use Rattle.frames.specs.Keys.{nowhere}
use Rattle.frames.specs.Maps.{Entry, entry_at, entries, placed}
use Rattle.frames.specs.Cascade.{given}
use Rattle.frame_tables.specs.Tables.{no_value, value_of, Table, table, empty_table, laid, laid_all, tabled_on, place_in}
use Rattle.frame_tables.specs.declared.Value.{Value}

module _ (d : ℕ) (s : Bytes) (n at : ℕ) (t : Table) where
  pub table_none : entry_at d s at ≡ none → tabled_on t (entries d s (suc n) at) ≡ empty_table 6
  unfolding entries given tabled_on
  table_none e = rw e

  pub table-next : (e : Entry) → entry_at d s at ≡ some e → tabled_on t (entries d s (suc n) at) ≡ tabled_on (laid e t) (entries d s n (e.start + e.length))
  unfolding entries given tabled_on laid_all
  table-next e q = rw q (go (entries d s n (e.start + e.length)))
    where
      go : (o : Option (List Entry)) → tabled_on t (given none o (λ es. some (e ∷ es))) ≡ tabled_on (laid e t) o
      go none = refl
      go (some es) = refl

pub laid_new : (e : Entry) (t : Table) → (get_or t.values e.key no_value).length ≡ 0 → laid e t ≡ table t.number (set t.values e.key (value_of e))
unfolding laid
laid_new e t h = rw (eq-eqb _ 0 h)

pub laid_twice : (e : Entry) (t : Table) → ((get_or t.values e.key no_value).length ≡ 0 → ⊥) → laid e t ≡ table 7 t.values
unfolding laid
laid_twice e t h = rw (ne_eqb _ 0 h)

pub table_eq : {n n' : ℕ} {a a' : List Value} → a ≡ a' → n ≡ n' → table n a ≡ table n' a'
table_eq p q = rw (p, q)

-- ---- a look-up

pub in_range : (values : List Value) (k : ℕ) (v : Value) → true ≡ ltb k (length values) → v ≡ get_or values k v → v ≡ get_or values k no_value
in_range values k v e h = h ∙ get_or_default values k v no_value (ltb-true k (length values) (sym e))

pub past : (values : List Value) (k : ℕ) → false ≡ ltb k (length values) → no_value ≡ get_or values k no_value
past values k e = sym (get_or-eq_default values no_value {n = k} (ltb-false k (length values) (sym e)))

module _ (values : List Value) (k : ℕ) (v : Value) (e : v ≡ get_or values k no_value) where
  pub place_none : v.length ≤ 0 → nowhere ≡ place_in values k
  unfolding place_in
  place_none h = rw (← e, eq-eqb v.length 0 (omega arith))

  pub place_some : 0 < v.length → placed v.start v.length ≡ place_in values k
  unfolding place_in
  place_some h = rw (← e, ne_eqb v.length 0 (λ z. omega arith))
