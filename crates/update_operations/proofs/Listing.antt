-- A list as a whole. Assumes nothing.
use Rattle.std.specs.Prelude.{Some, None, Option}
use mathlib.Core.Path.{◌≡◌, refl, sym, subst, ◌∙◌}
use mathlib.Core.Bool.{Bool, true, false, ◌&&◌, and-false}
use mathlib.Core.List.{[]}
use mathlib.Core.Option.{none, some}
use Prim.Native.Nat.{ℕ, suc, ◌-◌, ◌<◌, ◌≤◌}
use native.Mathlib.Omega.{arith}
use borrow.Author.Tests.{leb-true, le-leb, lt-leb}
use lib.Dec.{leb}
use lib.ListN.{length, drop, drop_of_length-le}
use lib.Seq.{drop-cons}
use Rattle.msgpack_first_bytes.specs.Bytes.{Bytes, pick}
use Rattle.msgpack_first_bytes.proofs.Logic.{ands}
use Rattle.tuples.specs.Limits.{max_operations, max_list}
use Rattle.tuples.specs.Decoding.{Got, fails, gets, count}
use Rattle.tuples.specs.Operation.{Operation, operation, before, and_more, operations, list_by, operations_of}
use Rattle.update_parts.specs.Part.{natural_by}
use Rattle.update_operations.specs.Listing.{front_by, front}
use Rattle.update_parts.proofs.Leaving.{Leaves, none as noBytes, rest-is, leaving_count}
use Rattle.update_operations.proofs.Answers.{on_part}

-- ---- operations one after the other

module _ (base : ℕ) (l : Bytes) (at : ℕ) where
  pub operations_end : length l ≤ at → operations base 0 (drop at l) ≡ some []
  unfolding operations
  operations_end h = rw (drop_of_length-le l h)

  pub operations_over : at < length l → operations base 0 (drop at l) ≡ none
  unfolding operations
  operations_over h = rw (drop-cons l at 0 h)

module _ (base n : ℕ) (s : Bytes) where
  pub operations-fails : operation base s ≡ fails → operations base (suc n) s ≡ none
  unfolding operations and_more
  operations-fails e = rw e

  pub operations-more : {o : Operation} {r : Bytes} → operation base s ≡ gets o r → operations base (suc n) s ≡ before o (operations base n r)
  unfolding operations and_more
  operations-more e = rw e

-- ---- the front of the list

module _ (base : ℕ) (l : Bytes) where
  pub base-refused : 1 < base → None ≡ front base l
  unfolding front
  base-refused h = rw (lt-leb base 1 h)

  pub long-refused : max_list < length l → None ≡ front base l
  unfolding front
  long-refused h = rw (lt-leb (length l) max_list h, and-false (leb base 1))

  -- by the count that was read
  pub fronted : base ≤ 1 → length l ≤ max_list → on_part (λ n e. pick (leb n max_operations) (Some (n, e)) None) (natural_by l (count l)) ≡ front base l
  unfolding front
  fronted k j = rw (le-leb base 1 k, le-leb (length l) max_list j) (go (count l))
    where
      go : (g : Got ℕ) → on_part (λ n e. pick (leb n max_operations) (Some (n, e)) None) (natural_by l g) ≡ front_by l g
      go fails = refl
      go (gets n s) = refl

-- ---- what a caller of `front_of` goes on from

pub record Judged (base : ℕ) (l : Bytes) (n e : ℕ) : Type 0 where
  pub low : base ≤ 1
  pub short : length l ≤ max_list
  pub few : n ≤ max_operations
  pub inside : e ≤ length l
  pub all : operations_of base l ≡ operations base n (drop e l)

abbrev Says : ℕ → Bytes → Option (ℕ × ℕ) → Type 0
Says base l (Some (n, e)) = Judged base l n e
Says base l None = operations_of base l ≡ none

module _ (base : ℕ) (l : Bytes) where
  says : Says base l (front base l)
  unfolding front operations_of list_by
  says = allowed (leb base 1 && leb (length l) max_list) refl refl
    where
      counted : base ≤ 1 → length l ≤ max_list → (g : Got ℕ) → Leaves noBytes l g → operations_of base l ≡ list_by base g → Says base l (front_by l g)
      counted b j fails h i = i
      counted b j (gets n s) h i = go (leb n max_operations) refl i
        where
          go : (t : Bool) → leb n max_operations ≡ t → operations_of base l ≡ pick t (operations base n s) none → Says base l (pick t (Some (n, length l - length s)) None)
          go true k i = record { low = b; short = j; few = leb-true n max_operations k; inside = omega arith; all = rw (rest-is h) i }
          go false k i = i

      allowed : (t : Bool) → (leb base 1 && leb (length l) max_list) ≡ t → operations_of base l ≡ pick t (list_by base (count l)) none → Says base l (pick t (front_by l (count l)) None)
      allowed true e i = let p = ands _ _ e in counted (leb-true base 1 p.0) (leb-true (length l) max_list p.1) (count l) (leaving_count.leaves l) i
      allowed false e i = i

  module _ {r : Option (ℕ × ℕ)} (h : r ≡ front base l) where
    pub good : {n e : ℕ} → r ≡ Some (n, e) → Judged base l n e
    good q = subst (Says base l) (sym h ∙ q) says

    pub bad : r ≡ None → operations_of base l ≡ none
    bad q = subst (Says base l) (sym h ∙ q) says
