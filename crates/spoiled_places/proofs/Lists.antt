-- A tuple and a list within the rules are whole values. Assumes nothing.
use Rattle.std.specs.Prelude.{Some, None, Ok, Err}
use mathlib.Core.Path.{◌≡◌, refl, sym, ap, subst, ◌∙◌}
use mathlib.Core.Bool.{Bool, true, false, ◌&&◌}
use mathlib.Core.List.{List, [], ◌∷◌}
use mathlib.Core.Option.{some}
use Prim.Native.Nat.{ℕ, zero, suc, ◌+◌, ◌≤◌}
use native.Mathlib.Omega.{arith}
use borrow.Author.Tests.{leb-true, eqb-true}
use lib.Dec.{leb, eqb}
use lib.ListN.{length, take, drop, length-drop}
use lib.Seq.{drop-drop}
use Rattle.msgpack_first_bytes.specs.Bytes.{Bytes, pick}
use Rattle.msgpack_first_bytes.specs.FirstByte.{form_of}
use Rattle.msgpack_first_bytes.specs.declared.Kind.TheVariants.{String}
use Rattle.msgpack_first_bytes.proofs.Logic.{impossible}
use Rattle.msgpack_numbers.specs.Number.{number}
use Rattle.msgpack_values.specs.Value.{items, and_then, value, Read}
use Rattle.msgpack_values.specs.Pieces.{pieces}
use Rattle.msgpack_values.proofs.Local.{value_good, shift-whole}
use Rattle.msgpack_scalars.specs.Integer.{integer, Integer}
use Rattle.msgpack_scalars.specs.Header.{header, Header}
use Rattle.msgpack_scalars.specs.Start.{string_by, array_by}
use Rattle.msgpack_scalars.specs.declared.Int.{Int}
use Rattle.msgpack_scalars.specs.declared.Int.TheVariants.{FromZero, BelowZero}
use Rattle.tuples.specs.Limits.{max_fields, max_tuple, field_depth, tuple_depth, list_depth, max_operations, max_list}
use Rattle.tuples.specs.Tuple.{Fields, filling, fields_filling, fields_by, fields_of}
use Rattle.tuples.specs.Decoding.{Got, fails, gets, Decoder, on_got, then, made, nothing, value_from, any_value, integer_from, any_integer, less, floor, at_least, position, string_from, string, count_from, count, mark}
use Rattle.tuples.specs.Operation.{plus, minus, and, xor, or, assign, insert, remove, splice, Operation, three, five, action_of, operation, and_more, operations, list_by, operations_of}
use Rattle.tuples.proofs.Cases.{guarded}
use Rattle.tuples.proofs.Decode.{before_some}
use Rattle.spoiled_places.specs.Given.{AcceptedAreWhole}
use Rattle.spoiled_places.proofs.Parts.{scalar_whole, integer-whole, string-whole, array_whole}
use Rattle.msgpack_scalars.specs.declared.NoNumber.TheVariants.{Cut, Other}

-- ---- a decoder takes n values, each of depth at most d, where it gets anything

abbrev Taken : {A : Type 0} → ℕ → ℕ → Bytes → Got A → Type 0
Taken d n s fails = Unit {0}
Taken d n s (gets a r) = (k : ℕ) × (items (value d) n s ≡ Ok k) × (r ≡ drop k s)

record Takes {A : Type 0} (d n : ℕ) (f : Decoder A) : Type 0 where
  on : (s : Bytes) → Taken d n s (f s)

-- i values, and then j: n in all
items-add : (v : Bytes → Read) (i j n : ℕ) → n ≡ i + j → (s : Bytes) (k l : ℕ) → items v i s ≡ Ok k → items v j (drop k s) ≡ Ok l → items v n s ≡ Ok (k + l)
unfolding items
items-add v zero j n h s k l e f = let q : k ≡ 0 = cc in let m : n ≡ j = omega arith in rw (m, q) (rw q at f ∙ ap Ok (omega arith))
items-add v (suc i) j zero h s k l e f = absurd (omega arith)
items-add v (suc i) j (suc n) h s k l e f = go (items-add v i j n (omega arith)) (v s) refl e
  where
    go : ((s : Bytes) (k l : ℕ) → items v i s ≡ Ok k → items v j (drop k s) ≡ Ok l → items v n s ≡ Ok (k + l))
        → (r : Read) → v s ≡ r → and_then r (λ m. items v i (drop m s)) ≡ Ok k → items v (suc n) s ≡ Ok (k + l)
    go ih (Err p) q e = impossible cc
    go ih (Ok m) q e =
        let (x, y, z) = shift-whole m k (items v i (drop m s)) e in
        let g : items v j (drop x (drop m s)) ≡ Ok l = rw drop-drop (rw z at f) in
        rw (q, ih (drop m s) x l y g) (ap Ok (omega arith))

-- a value is one item
one-item : (d : ℕ) (s : Bytes) (k : ℕ) → value d s ≡ Ok k → items (value d) 1 s ≡ Ok k
unfolding items
one-item d s k e = rw e (ap Ok (omega arith))

one_inside : (d : ℕ) (s : Bytes) (k : ℕ) → items (value d) 1 s ≡ Ok k → k ≤ length s
unfolding items
one_inside d s k e = go (value d s) refl e
  where
    go : (r : Read) → value d s ≡ r → and_then r (λ m. Ok 0) ≡ Ok k → k ≤ length s
    go (Err p) q e = impossible cc
    go (Ok m) q e = let l = (value_good d s m q).0 in let i : m + 0 ≡ k = cc in omega arith

module _ {A : Type 0} {d n : ℕ} where
  by : (b : Bool) {f g : Decoder A} → Takes d n f → Takes d n g → Takes d n (pick b f g)
  by true p q = p
  by false p q = q

  no : Takes {A = A} d n nothing
  unfolding nothing
  no = record { on = λ s. tt }

  of : {B : Type 0} (h : A → B) {f : Decoder A} → Takes d n f → Takes d n (made h f)
  unfolding made on_got
  of {B} h {f} x = record { on = λ s. go s (f s) (x.on s) }
    where
      go : (s : Bytes) (g : Got A) → Taken d n s g → Taken {A = B} d n s (on_got g (λ a r. gets (h a) r))
      go s fails t = tt
      go s (gets a r) t = t

after : {A B : Type 0} {d i j : ℕ} {f : Decoder A} {next : A → Decoder B} → Takes d i f → ((a : A) → Takes d j (next a)) → Takes d (i + j) (then f next)
unfolding then on_got
after {A} {B} {d} {i} {j} {f} {next} x y = record { on = λ s. go s (f s) (x.on s) }
  where
    both : (s : Bytes) (k : ℕ) → items (value d) i s ≡ Ok k → (r : Bytes) → r ≡ drop k s → (g : Got B) → Taken d j r g → Taken d (i + j) s g
    both s k e r q fails t = tt
    both s k e r q (gets b u) (l, m, z) = (k + l, items-add (value d) i j (i + j) refl s k l e (rw q at m), z ∙ rw (q, drop-drop))

    go : (s : Bytes) (g : Got A) → Taken d i s g → Taken d (i + j) s (on_got g next)
    go s fails t = tt
    go s (gets a r) (k, e, q) = both s k e r q (next a r) ((y a).on r)

-- ---- the parts of an operation

value_taken : Takes field_depth 1 any_value
unfolding any_value value_from
value_taken = record { on = λ s. go s (value field_depth s) refl }
  where
    go : (s : Bytes) (r : Read) → value field_depth s ≡ r → Taken field_depth 1 s (value_from r s)
    go s (Ok k) e = (k, one-item field_depth s k e, refl)
    go s (Err p) e = tt

integer-taken : Takes field_depth 1 any_integer
unfolding any_integer integer_from
integer-taken = record { on = λ s. go s (integer s) refl }
  where
    go : (s : Bytes) (z : Integer) → integer s ≡ z → Taken field_depth 1 s (integer_from z s)
    go s (Ok (z, e)) q = (e, one-item field_depth s e (integer-whole field_depth s z e q), refl)
    go s (Err Cut) q = tt
    go s (Err Other) q = tt

-- a test of what was read takes nothing more
floor-taken : (low : ℕ) (z : Int) → Takes field_depth 0 (floor low z)
unfolding floor items
floor-taken low (FromZero n) = record { on = λ s. go s (leb low n) }
  where
    go : (s : Bytes) (b : Bool) → Taken field_depth 0 s (pick b (gets n s) fails)
    go s true = (0, refl, refl)
    go s false = tt
floor-taken low (BelowZero m) = record { on = λ s. tt }

least_taken : (low : ℕ) → Takes field_depth 1 (at_least low)
unfolding at_least
least_taken low = after integer-taken (floor-taken low)

position-taken : (base : ℕ) → Takes field_depth 1 (position base)
unfolding position
position-taken base = after integer-taken (λ z. floor-taken 0 (less base z))

string-taken : Takes field_depth 1 string
unfolding string string_from
string-taken = record { on = λ s. go s (header string_by s) refl }
  where
    by_length : (s : Bytes) (n e : ℕ) → header string_by s ≡ Some (n, e) → (b : Bool) → leb (e + n) (length s) ≡ b
        → Taken field_depth 1 s (pick b (gets (take n (drop e s)) (drop (e + n) s)) fails)
    by_length s n e q true l = (e + n, one-item field_depth s (e + n) (string-whole field_depth s n e q (leb-true _ _ l)), refl)
    by_length s n e q false l = tt

    go : (s : Bytes) (h : Header) → header string_by s ≡ h → Taken field_depth 1 s (string_from h s)
    go s (Some (n, e)) q = by_length s n e q (leb (e + n) (length s)) refl
    go s None q = tt

mark-whole : (d a c : ℕ) (s : Bytes) → a ≡ 0xa1 → value d (a ∷ c ∷ s) ≡ Ok 2
unfolding form_of number
mark-whole d a c s e = scalar_whole d a (c ∷ s) {k = String} {w = 0} {f = 1} (rw e) (omega arith) (omega arith)

mark-taken : Takes field_depth 1 mark
unfolding mark
mark-taken = record { on = on }
  where
    go : (a c : ℕ) (s : Bytes) (b : Bool) → eqb a 0xa1 ≡ b → Taken field_depth 1 (a ∷ c ∷ s) (pick b (gets c s) fails)
    go a c s true e = (2, one-item field_depth (a ∷ c ∷ s) 2 (mark-whole field_depth a c s (eqb-true a 0xa1 e)), refl)
    go a c s false e = tt

    on : (s : Bytes) → Taken field_depth 1 s (mark s)
    on [] = tt
    on (a ∷ []) = tt
    on (a ∷ c ∷ s) = go a c s (eqb a 0xa1) refl

-- ---- an operation of n values, and a list of them

three-taken : (c : ℕ) → Takes field_depth 1 (three c)
unfolding three
three-taken c =
    by (eqb c 0x2b) (of plus integer-taken)
    (by (eqb c 0x2d) (of minus integer-taken)
    (by (eqb c 0x26) (of and (least_taken 0))
    (by (eqb c 0x5e) (of xor (least_taken 0))
    (by (eqb c 0x7c) (of or (least_taken 0))
    (by (eqb c 0x3d) (of assign value_taken)
    (by (eqb c 0x21) (of insert value_taken)
    (by (eqb c 0x23) (of remove (least_taken 1)) no)))))))

five-taken : (base c : ℕ) → Takes field_depth 3 (five base c)
unfolding five
five-taken base c = by (eqb c 0x3a) (after (position-taken base) (λ p. after (least_taken 0) (λ k. of (splice p k) string-taken))) no

-- its mark, its field number, and one value or three more
abbrev acting : ℕ → ℕ → ℕ → Int → Decoder Operation
acting base n c z = made (λ a. record { number = less base z; action = a }) (action_of base n c)

abbrev rest : ℕ → ℕ → Decoder Operation
rest base n = then mark (λ c. then any_integer (acting base n c))

no_action : (base n c : ℕ) (z : Int) → eqb n 3 ≡ false → eqb n 5 ≡ false → (s : Bytes) → acting base n c z s ≡ fails
unfolding made on_got action_of nothing
no_action base n c z e f s = rw (e, f)

then-fails : {A B : Type 0} (f : Decoder A) (next : A → Decoder B) → ((a : A) (s : Bytes) → next a s ≡ fails) → (s : Bytes) → then f next s ≡ fails
unfolding then on_got
then-fails {A} {B} f next h s = go (f s)
  where
    go : (g : Got A) → on_got g next ≡ fails
    go fails = refl
    go (gets a r) = h a r

rest-taken : (base n : ℕ) → Takes field_depth n (rest base n)
unfolding action_of
rest-taken base n = go (eqb n 3) refl (eqb n 5) refl
  where
    more : (m : ℕ) → ((c : ℕ) → Takes field_depth m (action_of base n c)) → Takes field_depth (1 + (1 + m)) (rest base n)
    more m h = after mark-taken (λ c. after integer-taken (λ z. of _ (h c)))

    none_got : eqb n 3 ≡ false → eqb n 5 ≡ false → (s : Bytes) → rest base n s ≡ fails
    none_got e f = then-fails mark (λ c. then any_integer (acting base n c)) (λ c. then-fails any_integer (acting base n c) (λ z. no_action base n c z e f))

    go : (x : Bool) → eqb n 3 ≡ x → (y : Bool) → eqb n 5 ≡ y → Takes field_depth n (rest base n)
    go true e y f = subst (λ (m : ℕ). Takes field_depth m (rest base n)) (sym (eqb-true n 3 e)) (more 1 (λ c. rw e (three-taken c)))
    go false e true f = subst (λ (m : ℕ). Takes field_depth m (rest base n)) (sym (eqb-true n 5 f)) (more 3 (λ c. rw (e, f) (five-taken base c)))
    go false e false f = record { on = λ s. rw (none_got e f s) tt }

-- ---- arrays of them

-- an array's header, and as many values as it counts
counted-taken : {A : Type 0} {d : ℕ} {next : ℕ → Decoder A} → ((n : ℕ) → Takes d n (next n)) → Takes (suc d) 1 (then count next)
unfolding then on_got count count_from
counted-taken {A} {d} {next} h = record { on = λ s. go s (header array_by s) refl }
  where
    whole : (s : Bytes) (n e : ℕ) → header array_by s ≡ Some (n, e) → (g : Got A) → Taken d n (drop e s) g → Taken (suc d) 1 s g
    whole s n e q fails t = tt
    whole s n e q (gets a r) (k, i, z) = (e + k, one-item (suc d) s (e + k) (array_whole d s n e k q i), z ∙ rw drop-drop)

    go : (s : Bytes) (x : Header) → header array_by s ≡ x → Taken (suc d) 1 s (on_got (count_from x s) next)
    go s (Some (n, e)) q = whole s n e q (next n (drop e s)) ((h n).on (drop e s))
    go s None q = tt

-- an array whose values fill the bytes
filled : (d : ℕ) (s : Bytes) (n e : ℕ) → header array_by s ≡ Some (n, e) → items (value d) n (drop e s) ≡ Ok (length (drop e s)) → value (suc d) s ≡ Ok (length s)
filled d s n e q i =
    let v = array_whole d s n e (length (drop e s)) q i in
    let l = (value_good (suc d) s (e + length (drop e s)) v).0 in
    let m = length-drop e s in
    v ∙ ap Ok (omega arith)

operation-taken : (base : ℕ) → Takes tuple_depth 1 (operation base)
unfolding operation
operation-taken base = counted-taken (rest-taken base)

operations-whole : (base n : ℕ) (s : Bytes) (os : List Operation) → operations base n s ≡ some os → items (value tuple_depth) n s ≡ Ok (length s)
unfolding operations and_more items
operations-whole base zero [] os h = refl
operations-whole base zero (b ∷ s) os h = impossible cc
operations-whole base (suc n) s os h = go (operations-whole base n) (operation base s) ((operation-taken base).on s) h
  where
    go : ((s : Bytes) (os : List Operation) → operations base n s ≡ some os → items (value tuple_depth) n s ≡ Ok (length s)) → (g : Got Operation)
        → Taken tuple_depth 1 s g → and_more g (operations base n) ≡ some os → items (value tuple_depth) (suc n) s ≡ Ok (length s)
    go ih fails t h = impossible cc
    go ih (gets o r) (k, i, z) h =
        let (ps, q, _) = before_some o (operations base n r) os h in
        let j : items (value tuple_depth) n (drop k s) ≡ Ok (length (drop k s)) = rw z at (ih r ps q) in
        let l = one_inside tuple_depth s k i in
        let m = length-drop k s in
        items-add (value tuple_depth) 1 n (suc n) (omega arith) s k (length (drop k s)) i j ∙ ap Ok (omega arith)

list-whole : (base : ℕ) (l : Bytes) (os : List Operation) → operations_of base l ≡ some os → value list_depth l ≡ Ok (length l)
unfolding operations_of list_by count count_from
list-whole base l os h = go (header array_by l) refl (guarded (leb base 1 && leb (length l) max_list) (list_by base (count l)) os h).1
  where
    go : (x : Header) → header array_by l ≡ x → list_by base (count_from x l) ≡ some os → value list_depth l ≡ Ok (length l)
    go (Some (n, e)) q h = filled tuple_depth l n e q (operations-whole base n (drop e l) os (guarded (leb n max_operations) (operations base n (drop e l)) os h).1)
    go None q h = impossible cc

tuple-whole : (t : Bytes) (fs : Fields) → fields_of t ≡ some fs → value tuple_depth t ≡ Ok (length t)
unfolding fields_of fields_by fields_filling filling
tuple-whole t fs h = go (header array_by t) refl (guarded (leb (length t) max_tuple) (fields_by (header array_by t) t) fs h).1
  where
    by_items : (n e : ℕ) → header array_by t ≡ Some (n, e) → (r : Read) → items (value field_depth) n (drop e t) ≡ r
        → filling r (length (drop e t)) (pieces (value field_depth) n (drop e t)) ≡ some fs → value tuple_depth t ≡ Ok (length t)
    by_items n e q (Ok k) i h =
        let l = eqb-true k (length (drop e t)) (guarded (eqb k (length (drop e t))) _ fs h).0 in
        filled field_depth t n e q (i ∙ ap Ok l)
    by_items n e q (Err p) i h = impossible cc

    go : (x : Header) → header array_by t ≡ x → fields_by x t ≡ some fs → value tuple_depth t ≡ Ok (length t)
    go (Some (n, e)) q h =
        by_items n e q (items (value field_depth) n (drop e t)) refl (guarded (leb n max_fields) (fields_filling n (drop e t)) fs h).1
    go None q h = impossible cc

pub accepted-whole : AcceptedAreWhole
accepted-whole = record { tuple = tuple-whole; list = list-whole }
