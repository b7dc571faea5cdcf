-- An unsigned number is known by its own bytes, nine at most, whatever follows them. Assumes nothing.
use Rattle.std.specs.Prelude.{Some, None, Ok, Err}
use mathlib.Core.Path.{◌≡◌, refl, ap, ◌∙◌}
use mathlib.Core.List.{[], ◌∷◌, ◌++◌}
use Prim.Native.Nat.{ℕ, zero, suc, ◌+◌, ◌<◌, ◌≤◌}
use native.Mathlib.Omega.{arith}
use borrow.Author.Tests.{le-leb, lt-leb}
use lib.ListN.{length, take, length-take, length-append}
use lib.Seq.{length-take-le, take_at}
use Rattle.msgpack_first_bytes.specs.Bytes.{Bytes}
use Rattle.msgpack_first_bytes.specs.FirstByte.{form_of, same_kind}
use Rattle.msgpack_first_bytes.specs.declared.Kind.TheVariants.{Unsigned}
use Rattle.msgpack_first_bytes.proofs.Logic.{by_leb}
use Rattle.msgpack_numbers.specs.Number.{number}
use Rattle.msgpack_scalars.specs.Start.{scalar_of, Few, Start}
use Rattle.msgpack_scalars.specs.Integer.{due_in, due, natural_of, unsigned_by, unsigned, Due, Natural}
use Rattle.msgpack_scalars.proofs.Laws.{little, few}
use Rattle.msgpack_scalars.specs.declared.NoNumber.TheVariants.{Cut, Other}

-- what `read` finds at the front of s is told by k bytes, whatever follows them, and by no fewer: of those it says `early`
pub record Known {A : Type 0} (read : Bytes → A) (early : A) (most : ℕ) (s : Bytes) (k : ℕ) (a : A) : Type 0 where
  pub some : 1 ≤ k
  pub few : k ≤ most
  pub inside : k ≤ length s
  pub local : (t : Bytes) → read (take k s ++ t) ≡ a
  pub sooner : (j : ℕ) → j < k → read (take j s) ≡ early

-- the same of what is made of that
pub known_by : {A B : Type 0} (f : A → B) {read : Bytes → A} {early : A} {most : ℕ} {s : Bytes} {k : ℕ} {a : A} → Known read early most s k a
    → Known (λ s. f (read s)) (f early) most s k (f a)
known_by f o = record { some = o.some; few = o.few; inside = o.inside; local = λ t. ap f (o.local t); sooner = λ j h. ap f (o.sooner j h) }

-- of an unsigned number: its own bytes, or the first byte of something else; where bytes are missing there are few
abbrev pub Own : Bytes → Natural → Type 0
Own s (Ok (n, k)) = Known unsigned (Err Cut) 9 s k (Ok (n, k))
Own s (Err Cut) = length s ≤ 8
Own s (Err Other) = Known unsigned (Err Cut) 9 s 1 (Err Other)

-- a first byte asks for eight bytes at most
asks : (b : ℕ) → Few 8 (scalar_of Unsigned (form_of b))
unfolding little form_of same_kind
asks = few (scalar_of Unsigned) 8 tt

-- a first byte and those that are due after it
module _ (b w f : ℕ) (e : scalar_of Unsigned (form_of b) ≡ Some (w, f)) where
  there : (t : Bytes) → f ≤ length t → unsigned (b ∷ t) ≡ Ok (natural_of f (b ∷ t), 1 + f)
  unfolding unsigned unsigned_by due due_in
  there t h = rw (e, le-leb f (length t) h)

  same : (f : ℕ) (t u : Bytes) → f ≤ length t → natural_of f (b ∷ (take f t ++ u)) ≡ natural_of f (b ∷ t)
  unfolding natural_of
  same zero t u h = refl
  same (suc f) t u h = ap number (take_at (take (suc f) t) u (suc f) (length-take-le (suc f) t h))

  own : (t : Bytes) → f ≤ length t → (u : Bytes) → unsigned (take (1 + f) (b ∷ t) ++ u) ≡ Ok (natural_of f (b ∷ t), 1 + f)
  own t h u =
      let e : 1 + f ≡ suc f = omega arith in
      let l = length-take-le f t h in
      let m : f ≤ length (take f t ++ u) = simp length-append (omega arith) in
      ap (λ (k : ℕ). unsigned (take k (b ∷ t) ++ u)) e ∙ there (take f t ++ u) m ∙ ap (λ (n : ℕ). Ok (n, 1 + f)) (same f t u h)

  sooner : (t : Bytes) (j : ℕ) → j < 1 + f → unsigned (take j (b ∷ t)) ≡ Err Cut
  unfolding unsigned unsigned_by due due_in
  sooner t zero h = refl
  sooner t (suc i) h =
      let l = length-take i t in
      rw (e, lt-leb f (length (take i t)) (omega arith))

pub unsigned-own : (s : Bytes) → Own s (unsigned s)
unfolding unsigned unsigned_by due due_in
unsigned-own [] = omega arith
unsigned-own (b ∷ t) = go (scalar_of Unsigned (form_of b)) refl (asks b)
  where
    none : (j : ℕ) → j < 1 → unsigned (take j (b ∷ t)) ≡ Err Cut
    none zero h = refl
    none (suc j) h = absurd (omega arith)

    go : (x : Start) → scalar_of Unsigned (form_of b) ≡ x → Few 8 x → Own (b ∷ t) (unsigned_by (due_in x t) (b ∷ t))
    go (Some (w, f)) e m =
        by_leb (λ (d : Due). Own (b ∷ t) (unsigned_by d (b ∷ t))) f (length t)
        (λ h. record { some = omega arith; few = omega arith; inside = omega arith; local = own b w f e t h; sooner = sooner b w f e t })
        (λ h. omega arith)
    go None e m = record { some = omega arith; few = omega arith; inside = omega arith; local = λ u. rw e; sooner = none }
