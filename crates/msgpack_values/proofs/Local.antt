-- A whole value is known by its own bytes, whatever follows them, and at every greater depth. Assumes nothing.
use Rattle.std.specs.Prelude.{Ok, Err}
use mathlib.Core.Path.{◌≡◌, refl, sym, ap, ◌∙◌}
use mathlib.Core.List.{[], ◌∷◌, ◌++◌, append_assoc}
use mathlib.Core.Bool.{Bool, true, false}
use Prim.Native.Nat.{ℕ, zero, suc, ◌+◌, ◌*◌, ◌≤◌}
use native.Mathlib.Omega.{arith}
use borrow.Author.Tests.{leb-true, le-leb}
use lib.Dec.{leb}
use lib.ListN.{length, take, drop, length-drop, length-append, take-append-drop}
use lib.Seq.{take-add, take_at, drop_at, length-take-le}
use Rattle.msgpack_first_bytes.specs.Bytes.{Bytes, pick}
use Rattle.msgpack_first_bytes.specs.FirstByte.{form_of}
use Rattle.msgpack_first_bytes.specs.declared.Form.{Form}
use Rattle.msgpack_first_bytes.specs.declared.Form.TheVariants.{Unused, Scalar, Array, Map}
use Rattle.msgpack_first_bytes.proofs.Logic.{impossible}
use Rattle.msgpack_numbers.specs.Number.{number}
use Rattle.msgpack_values.specs.Value.{shift, payload, sized, and_then, items, by_form, one, too_deep, container, value, Read}

-- what v finds whole lies within the bytes, and u finds it whatever follows those bytes
abbrev Kept : (Bytes → Read) → (Bytes → Read) → Type 0
Kept v u = (s : Bytes) (n : ℕ) → v s ≡ Ok n → (n ≤ length s) × ((t : Bytes) → u (take n s ++ t) ≡ Ok n)

abbrev pub Good : (Bytes → Read) → Type 0
Good v = Kept v v

-- the same of what follows a byte that is counted and taken off
abbrev Kept1 : (Bytes → Read) → (Bytes → Read) → Type 0
Kept1 v u = (s : Bytes) (n : ℕ) → v s ≡ Ok n → (m : ℕ) × (n ≡ suc m) × (m ≤ length s) × ((t : Bytes) → u (take m s ++ t) ≡ Ok n)

pub never : {A : Type 0} (p n : ℕ) → Err p ≡ Ok n → A
never p n e = impossible cc

pub shift-whole : (k n : ℕ) (r : Read) → shift k r ≡ Ok n → (m : ℕ) × (r ≡ Ok m) × (n ≡ k + m)
shift-whole k n (Ok m) e = (m, refl, cc)
shift-whole k n (Err m) e = impossible cc

pub pick-whole : (a b p n : ℕ) (x : Read) → pick (leb a b) x (Err p) ≡ Ok n → (a ≤ b) × (x ≡ Ok n)
pick-whole a b p n x e = go (leb a b) refl e
  where
    go : (c : Bool) → leb a b ≡ c → pick c x (Err p) ≡ Ok n → (a ≤ b) × (x ≡ Ok n)
    go true q e = (leb-true a b q, e)
    go false q e = impossible cc

-- the bytes of one part, those of the next, and what follows
pub parts : (k m : ℕ) (s t : Bytes) → take (k + m) s ++ t ≡ take k s ++ (take m (drop k s) ++ t)
parts k m s t = rw (take-add k m s, append_assoc)

payload-kept : (n : ℕ) → Kept (payload n) (payload n)
unfolding payload
payload-kept n s m e =
    let k = pick-whole n (length s) (length s) m (Ok n) e in
    let q : n ≡ m = cc in
    let l = length-take-le m s (omega arith) in
    (omega arith, λ t. rw (le-leb n (length (take m s ++ t)) (simp (length-append, l) (omega arith))) k.1)

sized-kept : (w : ℕ) (v u : ℕ → Bytes → Read) → ((x : ℕ) → Kept (v x) (u x)) → Kept (sized w v) (sized w u)
unfolding sized
sized-kept w v u g s n e =
    let x = number (take w s) in
    let k = pick-whole w (length s) (length s) n (shift w (v x (drop w s))) e in
    let m = shift-whole w n (v x (drop w s)) k.1 in
    let r = g x (drop w s) m.0 m.1 in
    let l = simp length-drop at r.0 in
    let f = length-take-le w s k.0 in
    (omega arith, λ t. rw (m.2, parts w m.0 s t, le-leb w _ (long f (take m.0 (drop w s) ++ t)), take_at (take w s) _ w f, drop_at (take w s) _ w f, r.1 t))
  where
    long : length (take w s) ≡ w → (t : Bytes) → w ≤ length (take w s ++ t)
    long f t = simp (length-append, f) (omega arith)

items_kept : (v u : Bytes → Read) → Kept v u → (k : ℕ) → Kept (items v k) (items u k)
unfolding items
items_kept v u g zero s n e = (let q : 0 ≡ n = cc in omega arith, λ t. e)
items_kept v u g (suc k) s n e = go (items_kept v u g k) (v s) refl e
  where
    go : Kept (items v k) (items u k) → (r : Read) → v s ≡ r → and_then r (λ j. items v k (drop j s)) ≡ Ok n
        → (n ≤ length s) × ((t : Bytes) → items u (suc k) (take n s ++ t) ≡ Ok n)
    go ih (Err p) q e = impossible cc
    go ih (Ok j) q e =
        let m = shift-whole j n (items v k (drop j s)) e in
        let a = g s j q in
        let r = ih (drop j s) m.0 m.1 in
        let l = simp length-drop at r.0 in
        (omega arith, λ t. rw (m.2, parts j m.0 s t, a.1 (take m.0 (drop j s) ++ t), drop_at (take j s) _ j (length-take-le j s a.0), r.1 t))

after_one : (v u : Bytes → Read) → Kept v u → Kept1 (λ s. shift 1 (v s)) (λ s. shift 1 (u s))
after_one v u g s n e =
    let m = shift-whole 1 n (v s) e in
    let r = g s m.0 m.1 in
    (m.0, omega arith, r.0, λ t. rw (r.1 t) (ap Ok (sym m.2)))

module _ (a b : ℕ → ℕ → ℕ → Bytes → Read) (g : (w f p : ℕ) → Kept1 (a w f p) (b w f p)) where
  by_form-kept : (h : Form) → Kept1 (by_form a h) (by_form b h)
  unfolding by_form
  by_form-kept Unused = λ s n e. impossible cc
  by_form-kept (Scalar k w f) =
      after_one (sized w (λ n t. payload (n + f) t)) (sized w (λ n t. payload (n + f) t))
      (sized-kept w (λ n t. payload (n + f) t) (λ n t. payload (n + f) t) (λ x. payload-kept (x + f)))
  by_form-kept (Array w f) = g w f 1
  by_form-kept (Map w f) = g w f 2

  one_kept : (s : Bytes) (n : ℕ) → one a s ≡ Ok n → (1 ≤ n) × (n ≤ length s) × ((t : Bytes) → one b (take n s ++ t) ≡ Ok n)
  unfolding one
  one_kept [] n e = impossible cc
  one_kept (x ∷ s) n e =
      let r = by_form-kept (form_of x) s n e in
      let l = r.2 in
      let q = r.1 in
      (omega arith, omega arith, λ t. rw q (r.3 t ∙ ap Ok q))

container-kept : (v u : Bytes → Read) → Kept v u → (w f p : ℕ) → Kept1 (container v w f p) (container u w f p)
unfolding container
container-kept v u g w f p =
    after_one (sized w (λ n t. items v (n * p + f) t)) (sized w (λ n t. items u (n * p + f) t))
    (sized-kept w (λ n t. items v (n * p + f) t) (λ n t. items u (n * p + f) t) (λ x. items_kept v u g (x * p + f)))

value-kept : (d e : ℕ) → d ≤ e → (s : Bytes) (n : ℕ) → value d s ≡ Ok n → (1 ≤ n) × (n ≤ length s) × ((t : Bytes) → value e (take n s ++ t) ≡ Ok n)
unfolding value too_deep
value-kept zero zero h = one_kept too_deep too_deep (λ w f p s n e. impossible cc)
value-kept zero (suc e) h = one_kept too_deep (container (value e)) (λ w f p s n e. impossible cc)
value-kept (suc d) zero h = absurd (omega arith)
value-kept (suc d) (suc e) h =
    one_kept (container (value d)) (container (value e)) (container-kept (value d) (value e) (λ s n q. let r = value-kept d e (omega arith) s n q in (r.1, r.2)))

pub value_good : (d : ℕ) → Good (value d)
value_good d s n e = let r = value-kept d d (omega arith) s n e in (r.1, r.2)

pub value_pos : (d : ℕ) (s : Bytes) (n : ℕ) → value d s ≡ Ok n → 1 ≤ n
value_pos d s n e = (value-kept d d (omega arith) s n e).0

-- the law
pub value_local : (d : ℕ) (s t : Bytes) (n : ℕ) → value d s ≡ Ok n → value d (take n s ++ t) ≡ Ok n
value_local d s t n e = (value_good d s n e).1 t

-- what is whole is the same where more depth is allowed
pub value-more : (d e : ℕ) (s : Bytes) (n : ℕ) → d ≤ e → value d s ≡ Ok n → value e s ≡ Ok n
value-more d e s n h q = rw take-append-drop at ((value-kept d e h s n q).2 (drop n s))
