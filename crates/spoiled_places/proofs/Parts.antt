-- What is read as a number, a string or an array is one whole value. Assumes nothing.
use Rattle.std.specs.Prelude.{Some, None, Ok, Err}
use Rattle.std.specs.Result.{result_ok}
use Rattle.std.proofs.lemmas.Option.{some_pair_parts}
use mathlib.Core.Path.{◌≡◌, refl, sym, ap, ◌∙◌}
use mathlib.Core.Bool.{Bool, true, false}
use mathlib.Core.List.{[], ◌∷◌}
use Prim.Native.Nat.{ℕ, suc, ◌+◌, ◌*◌, ◌≤◌}
use native.Mathlib.Nat.{mul-one}
use native.Mathlib.Omega.{arith}
use borrow.Author.Tests.{leb-true, le-leb}
use lib.Dec.{T, leb, eqb, eqb→eq}
use lib.ListN.{length, take, drop, length-drop}
use Rattle.msgpack_first_bytes.specs.Bytes.{Bytes, pick}
use Rattle.msgpack_first_bytes.specs.FirstByte.{form_of, same_kind}
use Rattle.msgpack_first_bytes.specs.declared.Kind.{Kind}
use Rattle.msgpack_first_bytes.specs.declared.Kind.TheVariants.{Unsigned, Signed, String}
use Rattle.msgpack_first_bytes.specs.declared.Form.{Form}
use Rattle.msgpack_first_bytes.specs.declared.Form.TheVariants.{Unused, Scalar, Array, Map}
use Rattle.msgpack_first_bytes.proofs.Logic.{impossible}
use Rattle.msgpack_first_bytes.proofs.Range.{all}
use Rattle.msgpack_first_bytes.proofs.Forms.{each_form}
use Rattle.msgpack_numbers.specs.Number.{number}
use Rattle.msgpack_values.specs.Value.{payload, sized, items, by_form, one, container, value}
use Rattle.msgpack_values.proofs.Laws.{value-one}
use Rattle.msgpack_scalars.specs.Start.{scalar_of, string_by, array_by, Start}
use Rattle.msgpack_scalars.specs.Integer.{due_in, due, unsigned_by, unsigned, signed_by, signed, adding, integer, Due}
use Rattle.msgpack_scalars.specs.Header.{counted, header, Header}
use Rattle.msgpack_scalars.specs.declared.Int.{Int}
use Rattle.msgpack_scalars.specs.declared.NoNumber.TheVariants.{Cut, Other}

-- ---- a scalar by its first byte

-- w length bytes of a number n, and n + f bytes
pub scalar_whole : (d b : ℕ) (s : Bytes) {k : Kind} {w f : ℕ} → form_of b ≡ Scalar k w f → w ≤ length s → number (take w s) + f ≤ length (drop w s)
    → value d (b ∷ s) ≡ Ok (1 + (w + (number (take w s) + f)))
unfolding one by_form sized payload
scalar_whole d b s e h l = value-one d (b ∷ s) ∙ rw (e, le-leb _ _ h, le-leb _ _ l)

-- an array's count of w bytes likewise, and its values
array_form : (d b : ℕ) (s : Bytes) {w f : ℕ} (k : ℕ) → form_of b ≡ Array w f → w ≤ length s → items (value d) (number (take w s) * 1 + f) (drop w s) ≡ Ok k
    → value (suc d) (b ∷ s) ≡ Ok (1 + (w + k))
unfolding value one by_form container sized
array_form d b s k e h i = rw (e, le-leb _ _ h, i)

-- ---- numbers

-- a number has no length bytes
abbrev no_width : Start → Bool
no_width (Some (w, f)) = eqb w 0
no_width None = true

-- f bytes after the first
due-whole : (d : ℕ) (k : Kind) → T (all (λ b. no_width (scalar_of k (form_of b))) 0 256) → (s : Bytes) (f : ℕ) → due k s ≡ Ok f → value d s ≡ Ok (1 + f)
unfolding due due_in number
due-whole d k plain [] f h = impossible cc
due-whole d k plain (b ∷ s) f h = by_form_lem (form_of b) refl (each_form (λ F. no_width (scalar_of k F)) plain b) h
  where
    by_length : (j : Kind) (w g : ℕ) → form_of b ≡ Scalar j w g → w ≡ 0 → (t : Bool) → leb g (length s) ≡ t → pick t (Ok g) (Err Cut) ≡ Ok f → value d (b ∷ s) ≡ Ok (1 + f)
    by_length j w g e z true q h =
        let l = leb-true g (length s) q in
        let i : g ≡ f = cc in
        let n : number (take w s) ≡ 0 = rw z in
        let m : length (drop w s) ≡ length s = rw z in
        scalar_whole d b s e (omega arith) (omega arith) ∙ ap Ok (omega arith)
    by_length j w g e z false q h = impossible cc

    by_kind : (j : Kind) (w g : ℕ) → form_of b ≡ Scalar j w g → (t : Bool) → same_kind j k ≡ t → T (no_width (pick t (Some (w, g)) None))
        → due_in (pick t (Some (w, g)) None) s ≡ Ok f → value d (b ∷ s) ≡ Ok (1 + f)
    by_kind j w g e true q z h = by_length j w g e (eqb→eq w 0 z) (leb g (length s)) refl h
    by_kind j w g e false q z h = impossible cc

    by_form_lem : (F : Form) → form_of b ≡ F → T (no_width (scalar_of k F)) → due_in (scalar_of k F) s ≡ Ok f → value d (b ∷ s) ≡ Ok (1 + f)
    by_form_lem Unused e z h = impossible cc
    by_form_lem (Scalar j w g) e z h = by_kind j w g e (same_kind j k) refl z h
    by_form_lem (Array w g) e z h = impossible cc
    by_form_lem (Map w g) e z h = impossible cc

pub integer-whole : (d : ℕ) (s : Bytes) (z : Int) (e : ℕ) → integer s ≡ Ok (z, e) → value d s ≡ Ok e
unfolding integer adding unsigned unsigned_by signed signed_by form_of same_kind
integer-whole d s z e h = by_unsigned (due Unsigned s) refl (due Signed s) refl h
  where
    by_unsigned : (u : Due) → due Unsigned s ≡ u → (x : Due) → due Signed s ≡ x → adding (unsigned_by u s) (signed_by x s) ≡ Ok (z, e) → value d s ≡ Ok e
    by_unsigned (Ok f) q x p h = due-whole d Unsigned tt s f q ∙ ap Ok (some_pair_parts _ _ _ _ (ap result_ok h)).1
    by_unsigned (Err Cut) q x p h = impossible cc
    by_unsigned (Err Other) q (Ok f) p h = due-whole d Signed tt s f p ∙ ap Ok (some_pair_parts _ _ _ _ (ap result_ok h)).1
    by_unsigned (Err Other) q (Err Cut) p h = impossible cc
    by_unsigned (Err Other) q (Err Other) p h = impossible cc

-- ---- strings and arrays: a header, and what it counts

-- w bytes after the first, of a number to which f is added
counted_is : (w f : ℕ) (s : Bytes) (n e : ℕ) → counted (Some (w, f)) s ≡ Some (n, e) → (w ≤ length s) × (n ≡ number (take w s) + f) × (e ≡ 1 + w)
unfolding counted
counted_is w f s n e h = go (leb w (length s)) refl h
  where
    go : (t : Bool) → leb w (length s) ≡ t → pick {A = Header} t (Some (number (take w s) + f, 1 + w)) None ≡ Some (n, e) → (w ≤ length s) × (n ≡ number (take w s) + f) × (e ≡ 1 + w)
    go true q h = let p = some_pair_parts _ _ _ _ h in (leb-true w (length s) q, sym p.0, sym p.1)
    go false q h = impossible cc

pub string-whole : (d : ℕ) (s : Bytes) (n e : ℕ) → header string_by s ≡ Some (n, e) → e + n ≤ length s → value d s ≡ Ok (e + n)
unfolding header
string-whole d [] n e h l = impossible cc
string-whole d (b ∷ s) n e h l = by_form_lem (form_of b) refl h
  where
    by_kind : (j : Kind) (w f : ℕ) → form_of b ≡ Scalar j w f → (t : Bool) → counted (pick t (Some (w, f)) None) s ≡ Some (n, e) → value d (b ∷ s) ≡ Ok (e + n)
    by_kind j w f q true h =
        let (i, x, y) = counted_is w f s n e h in
        let m = length-drop w s in
        scalar_whole d b s q i (omega arith) ∙ ap Ok (omega arith)
    by_kind j w f q false h = unfold counted in impossible cc

    by_form_lem : (F : Form) → form_of b ≡ F → counted (string_by F) s ≡ Some (n, e) → value d (b ∷ s) ≡ Ok (e + n)
    by_form_lem Unused q h = unfold counted in impossible cc
    by_form_lem (Scalar j w f) q h = by_kind j w f q (same_kind j String) h
    by_form_lem (Array w f) q h = unfold counted in impossible cc
    by_form_lem (Map w f) q h = unfold counted in impossible cc

-- an array one deeper than its values
pub array_whole : (d : ℕ) (s : Bytes) (n e k : ℕ) → header array_by s ≡ Some (n, e) → items (value d) n (drop e s) ≡ Ok k → value (suc d) s ≡ Ok (e + k)
unfolding header
array_whole d [] n e k h i = impossible cc
array_whole d (b ∷ s) n e k h i = by_form_lem (form_of b) refl h
  where
    by_form_lem : (F : Form) → form_of b ≡ F → counted (array_by F) s ≡ Some (n, e) → value (suc d) (b ∷ s) ≡ Ok (e + k)
    by_form_lem Unused q h = unfold counted in impossible cc
    by_form_lem (Scalar j w f) q h = unfold counted in impossible cc
    by_form_lem (Map w f) q h = unfold counted in impossible cc
    by_form_lem (Array w f) q h =
        let (l, x, y) = counted_is w f s n e h in
        let z : e ≡ suc w = omega arith in
        let v : items (value d) (number (take w s) * 1 + f) (drop w s) ≡ Ok k = rw (mul-one, ← x) (rw z at i) in
        array_form d b s k q l v ∙ ap Ok (omega arith)
