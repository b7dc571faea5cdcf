-- A decoder leaves an end of what it was given, and the bytes that it got stand just before that: the way back from what the code finds. Assumes nothing.
use Rattle.std.specs.Prelude.{Some, None, Ok, Err, Option}
use Rattle.std.proofs.lemmas.Option.{some_pair_parts}
use mathlib.Core.Path.{◌≡◌, refl, sym, ap, ◌∙◌}
use mathlib.Core.Bool.{Bool, true, false}
use mathlib.Core.List.{[], ◌∷◌, ◌++◌, append_assoc}
use Prim.Native.Nat.{ℕ, ◌+◌, ◌-◌, ◌≤◌}
use native.Mathlib.Omega.{arith}
use lib.Dec.{leb, eqb}
use lib.ListN.{length, take, drop, length-append, take-append-drop}
use lib.Seq.{drop-drop, take_at, drop_at}
use Rattle.msgpack_first_bytes.specs.Bytes.{Bytes, pick}
use Rattle.msgpack_first_bytes.proofs.Logic.{impossible}
use Rattle.msgpack_values.specs.Value.{value, Read}
use Rattle.msgpack_scalars.specs.Integer.{integer, Integer}
use Rattle.msgpack_scalars.specs.Start.{string_by, array_by}
use Rattle.msgpack_scalars.specs.Header.{header, Header}
use Rattle.msgpack_scalars.specs.declared.Int.{Int, TheVariants.FromZero, TheVariants.BelowZero}
use Rattle.tuples.specs.Limits.{field_depth}
use Rattle.tuples.specs.Decoding.{Got, fails, gets, Decoder, on_got, then, made, nothing, value_from, any_value, integer_from, any_integer, less, floor, at_least, position, string_from, string, count_from, count, mark}
use Rattle.update_parts.specs.Part.{part, natural_by, span_by}
use Rattle.msgpack_scalars.specs.declared.NoNumber.TheVariants.{Cut, Other}

-- l ends with s
abbrev pub Ends : Bytes → Bytes → Type 0
Ends l s = (p : Bytes) × (l ≡ p ++ s)

ends_drop : (k : ℕ) (s : Bytes) → Ends s (drop k s)
ends_drop k s = (take k s, sym (take-append-drop k s))

pub ends_ends : {l s r : Bytes} → Ends l s → Ends s r → Ends l r
ends_ends {l} {s} {r} (p, e) (q, f) = (p ++ q, e ∙ rw (f, append_assoc))

-- where s begins
pub rest-is : {l s : Bytes} → Ends l s → drop (length l - length s) l ≡ s
rest-is {l} {s} (p, e) = rw e (drop_at p s (length (p ++ s) - length s) (simp length-append (omega arith)))

pub rest-after : {l : Bytes} (b s : Bytes) → Ends l (b ++ s) → drop (length l - length s) l ≡ s
rest-after b s h = rest-is (ends_ends h (b, refl))

-- and where the bytes just before it do
pub part-is : {l : Bytes} (b s : Bytes) → Ends l (b ++ s) → part (length l - length s - length b) (length l - length s) l ≡ b
part-is b s (p, e) =
    rw (e, drop_at p (b ++ s) (length (p ++ (b ++ s)) - length s - length b) (simp (length-append, length-append) (omega arith)))
    (take_at b s (length (p ++ (b ++ s)) - length s - (length (p ++ (b ++ s)) - length s - length b)) (simp (length-append, length-append) (omega arith)))

-- ---- what was got from l, of which some is bytes

abbrev pub Leaves : {A : Type 0} → (A → Bytes) → Bytes → Got A → Type 0
Leaves carried l fails = Unit {0}
Leaves carried l (gets a s) = Ends l (carried a ++ s)

pub record Leaving {A : Type 0} (carried : A → Bytes) (d : Decoder A) : Type 0 where
  pub leaves : (s : Bytes) → Leaves carried s (d s)

-- no bytes, and bytes alone
abbrev pub none : {A : Type 0} → A → Bytes
none a = []

abbrev pub all : Bytes → Bytes
all b = b

module _ {A : Type 0} (carried : A → Bytes) where
  leaves_from : {l s : Bytes} → Ends l s → (g : Got A) → Leaves carried s g → Leaves carried l g
  leaves_from e fails h = tt
  leaves_from e (gets a r) h = ends_ends e h

  leaves_pick : (t : Bool) (s : Bytes) (a : A) (r : Bytes) → Ends s (carried a ++ r) → Leaves carried s (pick t (gets a r) fails)
  leaves_pick true s a r h = h
  leaves_pick false s a r h = tt

module _ {A : Type 0} {carried : A → Bytes} where
  pub leaves_at : {d : Decoder A} → Leaving carried d → (l : Bytes) (at : ℕ) → Leaves carried l (d (drop at l))
  leaves_at {d} h l at = leaves_from carried (ends_drop at l) (d (drop at l)) (h.leaves (drop at l))

  pub leaving_nothing : Leaving carried nothing
  unfolding nothing
  leaving_nothing = record { leaves = λ s. tt }

  pub leaving_pick : (t : Bool) {d d' : Decoder A} → Leaving carried d → Leaving carried d' → Leaving carried (pick t d d')
  leaving_pick true h h' = h
  leaving_pick false h h' = h'

module _ {A B : Type 0} {carried : A → Bytes} {carried' : B → Bytes} {d : Decoder A} (h : Leaving carried d) where
  pub leaving_then : {next : A → Decoder B} → ((a : A) → Leaving carried' (next a)) → Leaving carried' (then d next)
  unfolding then on_got
  leaving_then {next} f = record { leaves = λ s. go s (d s) (h.leaves s) }
    where
      go : (s : Bytes) (g : Got A) → Leaves carried s g → Leaves carried' s (on_got g next)
      go s fails k = tt
      go s (gets a r) k = leaves_from carried' (ends_ends k (carried a, refl)) (next a r) ((f a).leaves r)

  pub leaving_made : (f : A → B) → ((a : A) → carried' (f a) ≡ carried a) → Leaving carried' (made f d)
  unfolding made on_got
  leaving_made f e = record { leaves = λ s. go s (d s) (h.leaves s) }
    where
      go : (s : Bytes) (g : Got A) → Leaves carried s g → Leaves carried' s (on_got g (λ a r. gets (f a) r))
      go s fails k = tt
      go s (gets a r) k = rw (e a) k

-- ---- each part

pub leaving_value : Leaving all any_value
unfolding any_value value_from
leaving_value = record { leaves = λ s. go s (value field_depth s) }
  where
    go : (s : Bytes) (x : Read) → Leaves all s (value_from x s)
    go s (Ok k) = ([], sym (take-append-drop k s))
    go s (Err p) = tt

pub leaving_integer : Leaving none any_integer
unfolding any_integer integer_from
leaving_integer = record { leaves = λ s. go s (integer s) }
  where
    go : (s : Bytes) (x : Integer) → Leaves none s (integer_from x s)
    go s (Ok (z, e)) = ends_drop e s
    go s (Err Cut) = tt
    go s (Err Other) = tt

leaving_floor : (low : ℕ) (z : Int) → Leaving none (floor low z)
unfolding floor
leaving_floor low (FromZero n) = record { leaves = λ s. leaves_pick none (leb low n) s n s ([], refl) }
leaving_floor low (BelowZero m) = record { leaves = λ s. tt }

pub leaving_least : (low : ℕ) → Leaving none (at_least low)
unfolding at_least
leaving_least low = leaving_then leaving_integer (leaving_floor low)

pub leaving_position : (base : ℕ) → Leaving none (position base)
unfolding position
leaving_position base = leaving_then leaving_integer (λ z. leaving_floor 0 (less base z))

pub leaving_string : Leaving all string
unfolding string string_from
leaving_string = record { leaves = λ s. go s (header string_by s) }
  where
    go : (s : Bytes) (x : Header) → Leaves all s (string_from x s)
    go s (Some (n, e)) =
        leaves_pick all (leb (e + n) (length s)) s (take n (drop e s)) (drop (e + n) s)
        (take e s, rw (← drop-drop n e s, take-append-drop n (drop e s), take-append-drop e s))
    go s None = tt

pub leaving_count : Leaving none count
unfolding count count_from
leaving_count = record { leaves = λ s. go s (header array_by s) }
  where
    go : (s : Bytes) (x : Header) → Leaves none s (count_from x s)
    go s (Some (n, e)) = ends_drop e s
    go s None = tt

pub leaving_mark : Leaving none mark
unfolding mark
leaving_mark = record { leaves = go }
  where
    go : (s : Bytes) → Leaves none s (mark s)
    go [] = tt
    go (a ∷ []) = tt
    go (a ∷ c ∷ s) = leaves_pick none (eqb a 0xa1) (a ∷ c ∷ s) c s (a ∷ c ∷ [], refl)

-- ---- the way back

abbrev pub natural_in : Bytes → Option (ℕ × ℕ) → Got ℕ
natural_in l (Some (n, e)) = gets n (drop e l)
natural_in l None = fails

pub natural-back : (l : Bytes) (g : Got ℕ) → Leaves none l g → natural_in l (natural_by l g) ≡ g
natural-back l fails h = refl
natural-back l (gets n s) h = ap (gets n) (rest-is h)

abbrev pub span_in : Bytes → Option (ℕ × ℕ) → Got Bytes
span_in l (Some (a, e)) = gets (part a e l) (drop e l)
span_in l None = fails

pub span_back : (l : Bytes) (g : Got Bytes) → Leaves all l g → span_in l (span_by l g) ≡ g
span_back l fails h = refl
span_back l (gets b s) h = rw (part-is b s h, rest-after b s h)

-- its places are in order, and within l
pub span_order : (l : Bytes) (g : Got Bytes) {a e : ℕ} → Some (a, e) ≡ span_by l g → (a ≤ e) × (e ≤ length l)
span_order l fails q = impossible cc
span_order l (gets b s) q = let (i, j) = some_pair_parts _ _ _ _ q in (omega arith, omega arith)
