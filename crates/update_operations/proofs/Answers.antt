-- An answer of the code, and what is made of it: what the definition gets, one part after the other. Assumes nothing.
use Rattle.std.specs.Prelude.{Some, None, Option}
use mathlib.Core.Path.{◌≡◌, ap, ◌∙◌}
use Prim.Native.Nat.{ℕ, ◌-◌}
use lib.ListN.{length, drop}
use Rattle.msgpack_first_bytes.specs.Bytes.{Bytes}
use Rattle.tuples.specs.Decoding.{Got, fails, gets, Decoder, on_got, then, made}
use Rattle.update_parts.specs.Part.{found}
use Rattle.update_parts.proofs.Leaving.{Leaves, Leaving, rest-after, leaves_at}

-- what follows a part that was read, if one was
abbrev pub on_part : {A X : Type 0} → (A → ℕ → Option X) → Option (A × ℕ) → Option X
on_part K (Some (a, e)) = K a e
on_part K None = None

-- `on` takes the answer R for a part on to the answer X for the whole
module _ {A B R X : Type 0} (is : A → ℕ → R) (is' : B → ℕ → X) (on : Option R → Option X) (l : Bytes) (b : on None ≡ None) where
  pub made-is : (k : A → B) → ((a : A) (e : ℕ) → on (Some (is a e)) ≡ Some (is' (k a) e)) → (d : Decoder A) (s : Bytes) → on (found is l (d s)) ≡ found is' l (made k d s)
  unfolding made on_got
  made-is k f d s = go (d s)
    where
      go : (g : Got A) → on (found is l g) ≡ found is' l (on_got g (λ a r. gets (k a) r))
      go fails = b
      go (gets a r) = f a (length l - length r)

  pub then_is : {carried : A → Bytes} {d : Decoder A} → Leaving carried d → (next : A → Decoder B)
      → ((a : A) (e : ℕ) → on (Some (is a e)) ≡ found is' l (next a (drop e l))) → (at : ℕ) → on (found is l (d (drop at l))) ≡ found is' l (then d next (drop at l))
  unfolding then on_got
  then_is {carried} {d} h next f at = go (d (drop at l)) (leaves_at h l at)
    where
      go : (g : Got A) → Leaves carried l g → on (found is l g) ≡ found is' l (on_got g next)
      go fails k = b
      go (gets a s) k = f a (length l - length s) ∙ ap (λ t. found is' l (next a t)) (rest-after (carried a) s k)
