-- Reading operations: what each one that is read brings, and that an operation of an undo list is read back. Assumes nothing.
use Rattle.std.specs.Prelude.{Ok, Err}
use mathlib.Core.Path.{◌≡◌, refl, sym, ap, subst}
use mathlib.Core.Bool.{Bool, true, false, ◌&&◌}
use mathlib.Core.List.{List, [], ◌∷◌, ◌++◌, append_assoc}
use mathlib.Core.Option.{Option, none, some}
use Prim.Native.Nat.{ℕ, zero, suc, ◌^◌, ◌<◌, ◌≤◌}
use native.Mathlib.Omega.{arith}
use borrow.Author.Tests.{le-leb}
use lib.Dec.{leb, eqb}
use lib.ListN.{length}
use lib.Seq.{take-append_seam, drop-append_seam}
use Rattle.msgpack_first_bytes.specs.Bytes.{Bytes, pick}
use Rattle.msgpack_values.specs.Value.{value, Read}
use Rattle.msgpack_values.specs.Pieces.{joined, Single}
use Rattle.msgpack_scalars.specs.declared.Int.{Int}
use Rattle.msgpack_scalars.specs.declared.Int.TheVariants.{FromZero}
use Rattle.msgpack_writing.specs.Forms.{unsigned_form, string_header, array_header}
use Rattle.msgpack_read_back.proofs.Back.{integer-back, array-header-back}
use Rattle.tuples.specs.Limits.{field_depth, max_operations, max_list}
use Rattle.tuples.specs.Tuple.{plain}
use Rattle.tuples.specs.Decoding.{Got, fails, gets, Decoder, on_got, then, made, nothing, value_from, any_value, integer_from, any_integer, less, floor, at_least, position, string, count_from, count, mark}
use Rattle.tuples.specs.Operation.{Action, plus, minus, and, xor, or, assign, insert, remove, splice, Operation, three, five, action_of, operation, before, and_more, operations, list_by, operations_of}
use Rattle.tuples.specs.Edit.{operation_bytes}
use Rattle.msgpack_first_bytes.proofs.Logic.{impossible}
use Rattle.tuples.proofs.Cases.{guarded}
use Rattle.tuples.proofs.Whole.{single_front, single_take}

-- ---- what every answer of a decoder is

-- P of what was got, if anything
abbrev Of : {A : Type 0} → (A → Type 0) → Got A → Type 0
Of P fails = Unit {0}
Of P (gets a s) = P a

record Yields {A : Type 0} (P : A → Type 0) (d : Decoder A) : Type 0 where
  on : (s : Bytes) → Of P (d s)

module _ {A : Type 0} {P : A → Type 0} where
  by : (b : Bool) {d e : Decoder A} → Yields P d → Yields P e → Yields P (pick b d e)
  by true p q = p
  by false p q = q

  no : Yields P nothing
  unfolding nothing
  no = record { on = λ s. tt }

  after : {B : Type 0} (d : Decoder B) {next : B → Decoder A} → ((b : B) → Yields P (next b)) → Yields P (then d next)
  unfolding then on_got
  after {B} d {next} h = record { on = λ s. go (d s) }
    where
      go : (g : Got B) → Of P (on_got g next)
      go fails = tt
      go (gets b r) = (h b).on r

  of : {B : Type 0} (f : B → A) (d : Decoder B) → ((s : Bytes) → Of (λ b. P (f b)) (d s)) → Yields P (made f d)
  unfolding made on_got
  of {B} f d h = record { on = λ s. go (d s) (h s) }
    where
      go : (g : Got B) → Of (λ b. P (f b)) g → Of P (on_got g (λ a r. gets (f a) r))
      go fails h = tt
      go (gets b r) h = h

  of_any : {B : Type 0} (f : B → A) (d : Decoder B) → ((b : B) → P (f b)) → Yields P (made f d)
  of_any {B} f d h = of f d (λ s. go (d s))
    where
      go : (g : Got B) → Of (λ b. P (f b)) g
      go fails = tt
      go (gets b r) = h b

value_yields : (s : Bytes) → Of (Single (value field_depth)) (any_value s)
unfolding any_value value_from
value_yields s = go (value field_depth s) refl
  where
    go : (r : Read) → value field_depth s ≡ r → Of (Single (value field_depth)) (value_from r s)
    go (Ok k) e = single_take field_depth s k e
    go (Err p) e = tt

-- a field that an action brings as it is is one whole value
abbrev pub Fine : Action → Type 0
Fine (plus v) = Unit {0}
Fine (minus v) = Unit {0}
Fine (and v) = Unit {0}
Fine (xor v) = Unit {0}
Fine (or v) = Unit {0}
Fine (assign b) = Single (value field_depth) b
Fine (insert b) = Single (value field_depth) b
Fine (remove m) = Unit {0}
Fine (splice p c a) = Unit {0}

three_fine : (c : ℕ) → Yields Fine (three c)
unfolding three
three_fine c =
    by (eqb c 0x2b) (of_any plus any_integer (λ _. tt))
    (by (eqb c 0x2d) (of_any minus any_integer (λ _. tt))
    (by (eqb c 0x26) (of_any and (at_least 0) (λ _. tt))
    (by (eqb c 0x5e) (of_any xor (at_least 0) (λ _. tt))
    (by (eqb c 0x7c) (of_any or (at_least 0) (λ _. tt))
    (by (eqb c 0x3d) (of assign any_value value_yields)
    (by (eqb c 0x21) (of insert any_value value_yields)
    (by (eqb c 0x23) (of_any remove (at_least 1) (λ _. tt)) no)))))))

five_fine : (base c : ℕ) → Yields Fine (five base c)
unfolding five
five_fine base c = by (eqb c 0x3a) (after (position base) (λ p. after (at_least 0) (λ k. of_any (splice p k) string (λ _. tt)))) no

abbrev pub FineOperation : Operation → Type 0
FineOperation o = Fine o.action

operation_fine : (base : ℕ) → Yields FineOperation (operation base)
unfolding operation action_of
operation_fine base =
    after count (λ n. after mark (λ c. after any_integer (λ z. of _ (action_of base n c)
    (by (eqb n 3) (three_fine c) (by (eqb n 5) (five_fine base c) no)).on)))

pub got_fine : (base : ℕ) (s : Bytes) {o : Operation} {r : Bytes} → operation base s ≡ gets o r → FineOperation o
got_fine base s e = subst (Of FineOperation) e ((operation_fine base).on s)

pub data AllFine : List Operation → Type 0 where
  end : AllFine []
  fine : {o : Operation} {os : List Operation} → FineOperation o → AllFine os → AllFine (o ∷ os)

pub before_some : (o : Operation) (r : Option (List Operation)) (os : List Operation) → before o r ≡ some os → (ps : List Operation) × (r ≡ some ps) × (os ≡ o ∷ ps)
unfolding before
before_some o none os h = impossible (cc)
before_some o (some ps) os h = (ps, refl, cc)

operations_fine : (base n : ℕ) (s : Bytes) (os : List Operation) → operations base n s ≡ some os → AllFine os
unfolding operations and_more
operations_fine base zero [] os h = let e : [] ≡ os = cc in subst AllFine e end
operations_fine base zero (b ∷ s) os h = impossible (cc)
operations_fine base (suc n) s os h = go (operation base s) ((operation_fine base).on s) h (operations_fine base n)
  where
    go : (g : Got Operation) → Of FineOperation g → and_more g (operations base n) ≡ some os
        → ((s : Bytes) (os : List Operation) → operations base n s ≡ some os → AllFine os) → AllFine os
    go fails q h ih = impossible (cc)
    go (gets o r) q h ih =
        let (ps, e, w) = before_some o (operations base n r) os h in
        subst AllFine (sym w) (fine q (ih r ps e))

pub list_fine : (base : ℕ) (l : Bytes) (os : List Operation) → operations_of base l ≡ some os → AllFine os
unfolding operations_of list_by
list_fine base l os h = go (count l) (guarded (leb base 1 && leb (length l) max_list) (list_by base (count l)) os h).1
  where
    go : (g : Got ℕ) → list_by base g ≡ some os → AllFine os
    go fails h = impossible (cc)
    go (gets n s) h = operations_fine base n s os (guarded (leb n max_operations) (operations base n s) os h).1

-- ---- what is written is read back

-- p is read as a, and what follows it is left
pub record ReadAs {A : Type 0} (d : Decoder A) (p : Bytes) (a : A) : Type 0 where
  pub off : (m : Bytes) → d (p ++ m) ≡ gets a m

module _ {A B : Type 0} where
  first_then : {d : Decoder A} (next : A → Decoder B) {p q : Bytes} {a : A} {b : B} → ReadAs d p a → ReadAs (next a) q b → ReadAs (then d next) (p ++ q) b
  unfolding then on_got
  first_then next {p = p} {q = q} x y = record { off = λ m. rw (append_assoc p q m, x.off (q ++ m)) (y.off m) }

  made_of : (f : A → B) {d : Decoder A} {p : Bytes} {a : A} → ReadAs d p a → ReadAs (made f d) p (f a)
  unfolding made on_got
  made_of f x = record { off = λ m. rw (x.off m) }

count-back : (n : ℕ) → n < 2 ^ 32 → ReadAs count (array_header n) n
unfolding count count_from
count-back n h = record { off = λ m. rw (array-header-back n m h, drop-append_seam (array_header n) m) }

mark-back : (c : ℕ) → ReadAs mark (string_header 1 ++ (c ∷ [])) c
unfolding mark string_header
mark-back c = record { off = λ m. refl }

number-back : (n : ℕ) → n < 2 ^ 64 → ReadAs any_integer (unsigned_form n) (FromZero n)
unfolding any_integer integer_from
number-back n h = record { off = λ m. rw (integer-back (FromZero n) m h, drop-append_seam (unsigned_form n) m) }

value-back : (b : Bytes) → Single (value field_depth) b → ReadAs any_value b b
unfolding any_value value_from
value-back b h = record { off = λ m. rw (single_front field_depth b m h, take-append_seam b m, drop-append_seam b m) }

one-back : ReadAs (at_least 1) (unsigned_form 1) 1
unfolding at_least then on_got floor
one-back = record { off = λ m. rw ((number-back 1 (omega arith)).off m) }

less_none : (n : ℕ) → less 0 (FromZero n) ≡ FromZero n
unfolding less
less_none n = rw (le-leb 0 n (omega arith)) (ap FromZero (omega arith))

-- an operation of three, numbered from 0
operation-back : (c f : ℕ) {argument : Bytes} {a : Action} → f < 2 ^ 64 → ReadAs (three c) argument a
    → ReadAs (operation 0) (operation_bytes c f argument) (record { number = FromZero f; action = a })
unfolding operation operation_bytes action_of string_header
operation-back c f {argument} {a} h x =
    subst (λ (z : Int). ReadAs (operation 0) (operation_bytes c f argument) (record { number = z; action = a })) (less_none f)
    (first_then _ (count-back 3 (omega arith)) (first_then _ (mark-back c) (first_then _ (number-back f h) (made_of _ x))))

-- the three that an undo list has
abbrev pub at : ℕ → Action → Operation
at f a = record { number = FromZero f; action = a }

module _ (f : ℕ) (h : f < 2 ^ 64) where
  pub assign_back : (b : Bytes) → Single (value field_depth) b → ReadAs (operation 0) (operation_bytes 0x3d f b) (at f (assign b))
  unfolding three
  assign_back b e = operation-back 0x3d f h (made_of assign (value-back b e))

  pub insert_back : (b : Bytes) → Single (value field_depth) b → ReadAs (operation 0) (operation_bytes 0x21 f b) (at f (insert b))
  unfolding three
  insert_back b e = operation-back 0x21 f h (made_of insert (value-back b e))

  pub remove-back : ReadAs (operation 0) (operation_bytes 0x23 f (unsigned_form 1)) (at f (remove 1))
  unfolding three
  remove-back = operation-back 0x23 f h (made_of remove one-back)

-- bs are os, written one after the other
pub data Written : List Bytes → List Operation → Type 0 where
  none_left : Written [] []
  one_more : {b : Bytes} {o : Operation} {bs : List Bytes} {os : List Operation} → ReadAs (operation 0) b o → Written bs os → Written (b ∷ bs) (o ∷ os)

pub written-append : {bs cs : List Bytes} {os ps : List Operation} → Written bs os → Written cs ps → Written (bs ++ cs) (os ++ ps)
written-append none_left q = q
written-append (one_more e es) q = one_more e (written-append es q)

operations-back : {bs : List Bytes} {os : List Operation} → Written bs os → operations 0 (length bs) (joined bs) ≡ some os
unfolding operations joined and_more before
operations-back none_left = refl
operations-back (one_more {bs = bs} e es) = rw (e.off (joined bs)) (rw (operations-back es))

pub list_back : {bs : List Bytes} {os : List Operation} → Written bs os → length bs ≤ max_operations → length (plain bs) ≤ max_list → operations_of 0 (plain bs) ≡ some os
unfolding operations_of list_by
list_back {bs} w f l =
    let c : count (plain bs) ≡ gets (length bs) (joined bs) = unfold plain in (count-back (length bs) (omega arith)).off (joined bs) in
    rw (le-leb _ _ l, c) (rw (le-leb _ _ f) (operations-back w))
