-- One part after the other: what the definition says after the parts that were read. Assumes nothing.
use Rattle.std.specs.Prelude.{Some, None, Option}
use mathlib.Core.Path.{◌≡◌, sym, ap, ◌∙◌}
use Prim.Native.Nat.{ℕ}
use lib.ListN.{drop}
use Rattle.msgpack_first_bytes.specs.Bytes.{Bytes}
use Rattle.tuples.specs.Decoding.{fails, gets, Decoder, on_got, then}
use Rattle.update_parts.specs.Part.{natural_by}
use Rattle.update_parts.proofs.Leaving.{Leaves, none, natural_in, natural-back}

module _ {A B : Type 0} (first : Decoder A) (next : A → Decoder B) {s : Bytes} where
  pub then-gets : {a : A} {r : Bytes} → gets a r ≡ first s → next a r ≡ then first next s
  unfolding then on_got
  then-gets e = rw (← e)

  pub then-fails : fails ≡ first s → fails ≡ then first next s
  unfolding then on_got
  then-fails e = rw (← e)

-- ---- a part that was found, and then what follows it

module _ {B : Type 0} (l s : Bytes) (d : Decoder ℕ) (k : Leaves none l (d s)) (next : ℕ → Decoder B) {r : Option (ℕ × ℕ)} (h : r ≡ natural_by l (d s)) where
  told : {x : Option (ℕ × ℕ)} → r ≡ x → natural_in l x ≡ d s
  told q = ap (natural_in l) (sym q ∙ h) ∙ natural-back l (d s) k

  pub after-natural : {n e : ℕ} → r ≡ Some (n, e) → next n (drop e l) ≡ then d next s
  after-natural q = then-gets d next (told q)

  pub no_natural : r ≡ None → fails ≡ then d next s
  no_natural q = then-fails d next (told q)
