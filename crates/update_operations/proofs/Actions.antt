-- What an action's argument makes of it, and the way back from the action that was found. Assumes nothing.
use Rattle.std.specs.Prelude.{Some, None, Option}
use mathlib.Core.Path.{◌≡◌, refl, sym, subst, ap, ◌∙◌}
use mathlib.Core.Bool.{Bool, true, false, ◌||◌}
use mathlib.Core.List.{[], ◌++◌}
use mathlib.Core.Logic.{⊎_elim}
use Prim.Native.Nat.{ℕ, zero, suc, ◌-◌}
use native.Mathlib.Omega.{arith}
use borrow.Author.Tests.{le-leb, ne_eqb}
use lib.Dec.{eqb, leb}
use lib.ListN.{length, drop}
use Rattle.msgpack_first_bytes.specs.Bytes.{Bytes, pick}
use Rattle.msgpack_first_bytes.proofs.Logic.{equal}
use Rattle.msgpack_scalars.specs.declared.Int.{Int, TheVariants.FromZero, TheVariants.BelowZero}
use Rattle.tuples.specs.Decoding.{Got, fails, gets, Decoder, on_got, then, made, nothing, any_value, any_integer, floor, at_least, position, string}
use Rattle.tuples.specs.Operation.{plus, minus, and, xor, or, assign, insert, remove, splice, three, five, action_of}
use Rattle.tuples.specs.Operation as Law
use Rattle.update_parts.specs.Part.{signed_by, natural_by, span_by}
use Rattle.update_operations.specs.Found.{placed, action_by, natural_mark, whole_mark, integer_mark, action_in}
use Rattle.update_operations.specs.declared.Change.TheVariants.{Splice}
use Rattle.update_operations.specs.declared.Action.{Action, TheVariants.Alter, TheVariants.Assign, TheVariants.Insert}
use Rattle.update_parts.proofs.Leaving.{Ends, Leaving, part-is, leaving_nothing, leaving_pick, leaving_then, leaving_made, leaving_value, leaving_integer, leaving_least, leaving_position, leaving_string}
use Rattle.update_operations.proofs.Answers.{on_part, made-is, then_is}

abbrev is : Law.Action → ℕ → Action × ℕ
is a e = (placed a e, e)

abbrev pub by_span : (ℕ → Action) → Bytes → Got Bytes → Option (Action × ℕ)
by_span K l g = on_part (λ a e. Some (K a, e)) (span_by l g)

span : (K : ℕ → Action) (k : Bytes → Law.Action) (l : Bytes) → ((b : Bytes) (e : ℕ) → K (e - length b) ≡ placed (k b) e)
    → (d : Decoder Bytes) (s : Bytes) → by_span K l (d s) ≡ action_by l (made k d s)
span K k l f d s = made-is (λ b e. (e - length b, e)) is (on_part (λ a e. Some (K a, e))) l refl k (λ b e. ap (λ x. Some (x, e)) (f b e)) d s

-- ---- an array of three, by what the code reads for its mark

abbrev by_signed : (Int → ℕ → Option (Action × ℕ)) → Bytes → Bytes → Option (Action × ℕ)
by_signed K l s = on_part K (signed_by l (any_integer s))

-- an integer that is `low` at least
least : (c low : ℕ) (k : ℕ → Law.Action) (l s : Bytes) → ((n e : ℕ) → natural_mark c n e ≡ pick (leb low n) (Some (is (k n) e)) None)
    → by_signed (whole_mark c) l s ≡ action_by l (made k (at_least low) s)
unfolding made at_least then on_got floor
least c low k l s f = go (any_integer s)
  where
    held : (t : Bool) (n : ℕ) (r : Bytes) → pick t (Some (is (k n) (length l - length r))) None ≡ action_by l (on_got (pick t (gets n r) fails) (λ a r. gets (k a) r))
    held true n r = refl
    held false n r = refl

    go : (g : Got Int) → on_part (whole_mark c) (signed_by l g) ≡ action_by l (on_got (on_got g (floor low)) (λ a r. gets (k a) r))
    go fails = refl
    go (gets (FromZero n) r) = f n (length l - length r) ∙ held (leb low n) n r
    go (gets (BelowZero m) r) = refl

from_0 : (x : Option (Action × ℕ)) (n : ℕ) → x ≡ pick (leb 0 n) x None
from_0 x n = rw (le-leb 0 n (omega arith))

from_1 : (n e : ℕ) → natural_mark 0x23 n e ≡ pick (leb 1 n) (Some (is (remove n) e)) None
from_1 zero e = refl
from_1 (suc n) e = rw (le-leb 1 (suc n) (omega arith), ne_eqb (suc n) 0 (λ h. omega arith))

by_mark : (P : ℕ → Type 0) (c k : ℕ) → P k → ((c ≡ k → ⊥) → P c) → P c
by_mark P c k f g = ⊎_elim (λ e. subst P (sym e) f) g (equal c k)

module _ (l s : Bytes) where
  three_by : Bool → ℕ → Option (Action × ℕ)
  three_by true c = by_span (pick (eqb c 0x3d) Assign Insert) l (any_value s)
  three_by false c = by_signed (integer_mark c) l s

  abbrev Three : ℕ → Type 0
  Three c = three_by (eqb c 0x3d || eqb c 0x21) c ≡ action_by l (three c s)

  signed : (k : Int → Law.Action) → by_signed (λ z e. Some (is (k z) e)) l s ≡ action_by l (made k any_integer s)
  signed k = made-is (λ z e. (z, e)) is (on_part (λ z e. Some (is (k z) e))) l refl k (λ _ _. refl) any_integer s

  three_other : (c : ℕ) → (c ≡ 0x3d → ⊥) → (c ≡ 0x21 → ⊥) → (c ≡ 0x2b → ⊥) → (c ≡ 0x2d → ⊥) → (c ≡ 0x26 → ⊥) → (c ≡ 0x5e → ⊥) → (c ≡ 0x7c → ⊥) → (c ≡ 0x23 → ⊥) → Three c
  unfolding three_by three nothing
  three_other c h1 h2 h3 h4 h5 h6 h7 h8 =
      rw (ne_eqb c 0x3d h1, ne_eqb c 0x21 h2, ne_eqb c 0x2b h3, ne_eqb c 0x2d h4, ne_eqb c 0x26 h5, ne_eqb c 0x5e h6, ne_eqb c 0x7c h7, ne_eqb c 0x23 h8) (go (any_integer s))
    where
      go : (g : Got Int) → on_part (integer_mark c) (signed_by l g) ≡ None
      go fails = refl
      go (gets (FromZero n) r) = rw (ne_eqb c 0x2b h3, ne_eqb c 0x2d h4, ne_eqb c 0x26 h5, ne_eqb c 0x5e h6, ne_eqb c 0x7c h7, ne_eqb c 0x23 h8)
      go (gets (BelowZero m) r) = rw (ne_eqb c 0x2b h3, ne_eqb c 0x2d h4)

  three-is : (c : ℕ) → Three c
  unfolding three_by three
  three-is c =
      by_mark Three c 0x3d (span Assign assign l (λ _ _. refl) any_value s) (λ h1.
      by_mark Three c 0x21 (span Insert insert l (λ _ _. refl) any_value s) (λ h2.
      by_mark Three c 0x2b (signed plus) (λ h3.
      by_mark Three c 0x2d (signed minus) (λ h4.
      by_mark Three c 0x26 (least 0x26 0 and l s (λ n e. from_0 (Some (is (and n) e)) n)) (λ h5.
      by_mark Three c 0x5e (least 0x5e 0 xor l s (λ n e. from_0 (Some (is (xor n) e)) n)) (λ h6.
      by_mark Three c 0x7c (least 0x7c 0 or l s (λ n e. from_0 (Some (is (or n) e)) n)) (λ h7.
      by_mark Three c 0x23 (least 0x23 1 remove l s from_1) (λ h8. three_other c h1 h2 h3 h4 h5 h6 h7 h8))))))))

-- the value of the marks `=` and `!`, and the integer of the others
module _ (l : Bytes) (at c : ℕ) where
  pub three-value : (eqb c 0x3d || eqb c 0x21) ≡ true → by_span (pick (eqb c 0x3d) Assign Insert) l (any_value (drop at l)) ≡ action_by l (three c (drop at l))
  unfolding three_by
  three-value e = rw e at (three-is l (drop at l) c)

  pub three-integer : (eqb c 0x3d || eqb c 0x21) ≡ false → on_part (integer_mark c) (signed_by l (any_integer (drop at l))) ≡ action_by l (three c (drop at l))
  unfolding three_by
  three-integer e = rw e at (three-is l (drop at l) c)

-- ---- an array of five

pub five-is : (l : Bytes) (at base : ℕ)
    → on_part (λ p e. on_part (λ k j. by_span (λ a. Alter (Splice p k a)) l (string (drop j l))) (natural_by l (at_least 0 (drop e l)))) (natural_by l (position base (drop at l)))
    ≡ action_by l (five base 0x3a (drop at l))
unfolding five
five-is l at base =
    then_is (λ p e. (p, e)) is (on_part _) l refl (leaving_position base) _
    (λ p. then_is (λ k e. (k, e)) is (on_part _) l refl (leaving_least 0) _ (λ k j. span (λ a. Alter (Splice p k a)) (splice p k) l (λ _ _. refl) string (drop j l))) at

pub five_other : (l : Bytes) (base c : ℕ) (s : Bytes) → (c ≡ 0x3a → ⊥) → None ≡ action_by l (five base c s)
unfolding five nothing
five_other l base c s h = rw (ne_eqb c 0x3a h)

-- ---- by the count

pub action_other : (l : Bytes) (base n c : ℕ) (s : Bytes) → (n ≡ 3 → ⊥) → (n ≡ 5 → ⊥) → None ≡ action_by l (action_of base n c s)
unfolding action_of nothing
action_other l base n c s h k = rw (ne_eqb n 3 h, ne_eqb n 5 k)

-- ---- the way back

-- the bytes of an action
abbrev pub bytes_of : Law.Action → Bytes
bytes_of (plus v) = []
bytes_of (minus v) = []
bytes_of (and v) = []
bytes_of (xor v) = []
bytes_of (or v) = []
bytes_of (assign b) = b
bytes_of (insert b) = b
bytes_of (remove m) = []
bytes_of (splice p k b) = b

pub action-back : (l s : Bytes) (a : Law.Action) → Ends l (bytes_of a ++ s) → action_in l (placed a (length l - length s)) (length l - length s) ≡ a
action-back l s (plus v) h = refl
action-back l s (minus v) h = refl
action-back l s (and v) h = refl
action-back l s (xor v) h = refl
action-back l s (or v) h = refl
action-back l s (assign b) h = ap assign (part-is b s h)
action-back l s (insert b) h = ap insert (part-is b s h)
action-back l s (remove m) h = refl
action-back l s (splice p k b) h = ap (splice p k) (part-is b s h)

pub leaving_action : (base n c : ℕ) → Leaving bytes_of (action_of base n c)
unfolding action_of three five
leaving_action base n c =
    leaving_pick (eqb n 3) (leaving_pick (eqb c 0x2b) (leaving_made leaving_integer plus (λ _. refl))
    (leaving_pick (eqb c 0x2d) (leaving_made leaving_integer minus (λ _. refl))
    (leaving_pick (eqb c 0x26) (leaving_made (leaving_least 0) and (λ _. refl))
    (leaving_pick (eqb c 0x5e) (leaving_made (leaving_least 0) xor (λ _. refl))
    (leaving_pick (eqb c 0x7c) (leaving_made (leaving_least 0) or (λ _. refl))
    (leaving_pick (eqb c 0x3d) (leaving_made leaving_value assign (λ _. refl))
    (leaving_pick (eqb c 0x21) (leaving_made leaving_value insert (λ _. refl))
    (leaving_pick (eqb c 0x23) (leaving_made (leaving_least 1) remove (λ _. refl)) leaving_nothing))))))))
    (leaving_pick (eqb n 5) (leaving_pick (eqb c 0x3a) (leaving_then (leaving_position base)
    (λ p. leaving_then (leaving_least 0) (λ k. leaving_made leaving_string (splice p k) (λ _. refl)))) leaving_nothing) leaving_nothing)
