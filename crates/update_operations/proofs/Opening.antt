-- How an operation begins, what follows, and the way back from an operation that was decoded. Assumes nothing.
use Rattle.std.specs.Prelude.{Some, None, Option}
use Rattle.std.proofs.lemmas.Option.{same_Some}
use mathlib.Core.Path.{◌≡◌, refl, sym, ap, ◌∙◌}
use Prim.Native.Nat.{ℕ, ◌-◌, ◌≤◌}
use native.Mathlib.Omega.{arith}
use lib.ListN.{length, drop, length-append}
use Rattle.msgpack_first_bytes.specs.Bytes.{Bytes}
use Rattle.msgpack_first_bytes.proofs.Logic.{impossible}
use Rattle.msgpack_scalars.specs.declared.Int.{Int}
use Rattle.tuples.specs.Decoding.{Got, fails, gets, Decoder, on_got, then, made, any_integer, count, mark, less}
use Rattle.tuples.specs.Operation.{Operation, action_of, operation}
use Rattle.update_parts.specs.Part.{signed_by, natural_by}
use Rattle.update_numbers.specs.FieldNumber.{field_by, Field}
use Rattle.update_operations.specs.Found.{placed, action_by, action_in, Opening, opening, opened_by, decoded_by}
use Rattle.update_operations.specs.declared.Opened.{Opened}
use Rattle.update_operations.specs.declared.Action.{Action}
use Rattle.update_parts.proofs.Leaving.{Leaves, Leaving, none, rest-after, leaves_at, leaving_then, leaving_made, leaving_integer, leaving_count, leaving_mark}
use Rattle.update_operations.proofs.Answers.{on_part, made-is, then_is}
use Rattle.update_operations.proofs.Actions.{bytes_of, action-back, leaving_action}

-- ---- how an operation begins

abbrev opens : ℕ → ℕ → Int → Opening
opens n c z = record { count = n; mark = c; number = z }

abbrev is_opened : Opening → ℕ → Opened
is_opened o e = record { count = o.count; mark = o.mark; number = o.number; after = e }

pub opening-is : (l : Bytes) (at : ℕ)
    → on_part (λ n e. on_part (λ c j. on_part (λ z k. Some (is_opened (opens n c z) k)) (signed_by l (any_integer (drop j l)))) (natural_by l (mark (drop e l)))) (natural_by l (count (drop at l)))
    ≡ opened_by l (opening (drop at l))
unfolding opening
opening-is l at =
    then_is (λ n e. (n, e)) is_opened (on_part _) l refl leaving_count _
    (λ n. then_is (λ c e. (c, e)) is_opened (on_part _) l refl leaving_mark _
    (λ c j. made-is (λ z e. (z, e)) is_opened (on_part (λ z k. Some (is_opened (opens n c z) k))) l refl (opens n c) (λ _ _. refl) any_integer (drop j l))) at

leaving_opening : Leaving none opening
unfolding opening
leaving_opening = leaving_then leaving_count (λ n. leaving_then leaving_mark (λ c. leaving_made leaving_integer _ (λ _. refl)))

-- ---- an operation, by how it begins and by its action

abbrev acted : ℕ → Opening → Decoder Operation
acted base o = made (λ a. record { number = less base o.number; action = a }) (action_of base o.count o.mark)

operation_opened : (base : ℕ) (s : Bytes) → then opening (acted base) s ≡ operation base s
unfolding operation opening then made on_got
operation_opened base s = first (count s)
  where
    third : (n c : ℕ) (g : Got Int) → on_got (on_got g (λ z t. gets (opens n c z) t)) (acted base)
        ≡ on_got g (λ z. acted base (opens n c z))
    third n c fails = refl
    third n c (gets z t) = refl

    second : (n : ℕ) (g : Got ℕ) → on_got (on_got g (λ c. made (opens n c) any_integer)) (acted base)
        ≡ on_got g (λ c. then any_integer (λ z. acted base (opens n c z)))
    second n fails = refl
    second n (gets c t) = third n c (any_integer t)

    first : (g : Got ℕ) → on_got (on_got g (λ n. then mark (λ c. made (opens n c) any_integer))) (acted base)
        ≡ on_got g (λ n. then mark (λ c. then any_integer (λ z. acted base (opens n c z))))
    first fails = refl
    first (gets n t) = second n (mark t)

abbrev pub on_opened : {X : Type 0} → (Opened → Option X) → Option Opened → Option X
on_opened K (Some o) = K o
on_opened K None = None

abbrev is_decoded : Operation → ℕ → Field × Action × ℕ
is_decoded o e = (field_by o.number, placed o.action e, e)

pub operation_decoded : (base : ℕ) (l : Bytes) (at : ℕ)
    → on_opened (λ o. on_part (λ a e. Some (field_by (less base o.number), a, e)) (action_by l (action_of base o.count o.mark (drop o.after l)))) (opened_by l (opening (drop at l)))
    ≡ decoded_by l (operation base (drop at l))
operation_decoded base l at =
    then_is is_opened is_decoded (on_opened _) l refl leaving_opening (acted base)
    (λ o e. made-is (λ a e. (placed a e, e)) is_decoded (on_part (λ a e. Some (field_by (less base o.number), a, e))) l refl
    (λ a. record { number = less base o.number; action = a }) (λ _ _. refl) (action_of base o.count o.mark) (drop e l)) at
    ∙ ap (decoded_by l) (operation_opened base (drop at l))

-- ---- the way back from an operation that was decoded

operation_bytes : Operation → Bytes
operation_bytes o = bytes_of o.action

leaving_operation : (base : ℕ) → Leaving operation_bytes (operation base)
unfolding operation operation_bytes
leaving_operation base =
    leaving_then leaving_count (λ n. leaving_then leaving_mark (λ c. leaving_then leaving_integer (λ z. leaving_made (leaving_action base n c) _ (λ _. refl))))

pub record IsOperation (base : ℕ) (l : Bytes) (at : ℕ) (fd : Field) (x : Action) (e : ℕ) : Type 0 where
  pub o : Operation
  pub got : operation base (drop at l) ≡ gets o (drop e l)
  pub field : fd ≡ field_by o.number
  pub action : action_in l x e ≡ o.action
  pub placed : x ≡ placed o.action e
  pub end : e ≤ length l
  pub within : length (bytes_of o.action) ≤ e

module _ (base : ℕ) (l : Bytes) (at : ℕ) {r : Option (Field × Action × ℕ)} (h : r ≡ decoded_by l (operation base (drop at l))) where
  pub operation_bad : r ≡ None → operation base (drop at l) ≡ fails
  operation_bad q = go (operation base (drop at l)) (sym q ∙ h)
    where
      go : (g : Got Operation) → None ≡ decoded_by l g → g ≡ fails
      go fails i = refl
      go (gets o s) i = cc

  pub operation-is : {fd : Field} {x : Action} {e : ℕ} → r ≡ Some (fd, x, e) → IsOperation base l at fd x e
  unfolding operation_bytes
  operation-is {fd} {x} {e} q = go (operation base (drop at l)) refl (leaves_at (leaving_operation base) l at) (sym q ∙ h)
    where
      go : (g : Got Operation) → operation base (drop at l) ≡ g → Leaves operation_bytes l g → Some (fd, x, e) ≡ decoded_by l g → IsOperation base l at fd x e
      go fails j k i = impossible cc
      go (gets o s) j k i =
          let p = same_Some _ _ i in
          let b : x ≡ placed o.action (length l - length s) = ap (λ t. t.1) p in
          let d : e ≡ length l - length s = ap (λ t. t.2) p in
          let m = simp (length-append, length-append) at (ap length k.1) in
          record { o = o; got = j ∙ ap (gets o) (sym (rw d (rest-after (operation_bytes o) s k))); field = ap (λ t. t.0) p; action = rw (b, d) (action-back l s o.action k); placed = b ∙ ap (placed o.action) (sym d); end = omega arith; within = omega arith }
