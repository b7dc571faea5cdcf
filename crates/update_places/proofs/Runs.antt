-- Bytes from a start on: in which source, parts of it, and what follows. Assumes nothing.
use mathlib.Core.Path.{◌≡◌, refl, sym, ap, ◌∙◌}
use mathlib.Core.Bool.{Bool, true, false}
use mathlib.Core.List.{[], ◌++◌}
use Prim.Native.Nat.{ℕ, ◌+◌, ◌-◌, ◌<◌, ◌≤◌, min}
use native.Mathlib.Omega.{arith}
use borrow.Author.Tests.{lt-ltb, le-ltb, ltb-true, ltb-false}
use lib.Dec.{ltb}
use lib.ListN.{length, take, drop, length-take, length-drop}
use lib.Seq.{take-add, drop-drop}
use Rattle.msgpack_first_bytes.specs.Bytes.{Bytes}
use Rattle.update_places.specs.Place.{in_list, in_work, bytes_from, Sources}

module _ (t l w : Bytes) (a n : ℕ) where
  pub from-tuple : a < in_list → bytes_from t l w a n ≡ take n (drop a t)
  unfolding bytes_from
  from-tuple h = simp (lt-ltb _ _ h)

  pub from_list : in_list ≤ a → a < in_work → bytes_from t l w a n ≡ take n (drop (a - in_list) l)
  unfolding bytes_from
  from_list h k = simp (le-ltb _ _ h, lt-ltb _ _ k)

  pub from-work : in_work ≤ a → bytes_from t l w a n ≡ take n (drop (a - in_work) w)
  unfolding bytes_from
  from-work h = let g : in_list ≤ a = omega arith in simp (le-ltb _ _ g, le-ltb _ _ h)

-- a start is in one of the three
pub by_source : (P : Type 0) (a : ℕ) → (a < in_list → P) → (in_list ≤ a → a < in_work → P) → (in_work ≤ a → P) → P
by_source P a f g k = go (ltb a in_list) (ltb a in_work) refl refl
  where
    go : (x y : Bool) → ltb a in_list ≡ x → ltb a in_work ≡ y → P
    go true y p q = f (ltb-true _ _ p)
    go false true p q = g (ltb-false _ _ p) (ltb-true _ _ q)
    go false false p q = k (ltb-false _ _ q)

-- a part that is as long as it says ends within the bytes
within : (s : Bytes) (a n : ℕ) → length (take n (drop a s)) ≡ n → n ≤ length s - a
within s a n e =
    let h : min n (length s - a) ≡ n = ap (min n) (sym (length-drop a s)) ∙ sym (length-take n (drop a s)) ∙ e in
    omega (arith, h)

join : (s : Bytes) (a m k : ℕ) → take m (drop a s) ++ take k (drop (a + m) s) ≡ take (m + k) (drop a s)
join s a m k = sym (take-add m k (drop a s) ∙ ap (λ (x : Bytes). take m (drop a s) ++ take k x) (drop-drop m a s))

pub from_nothing : (t l w : Bytes) (a : ℕ) → bytes_from t l w a 0 ≡ []
from_nothing t l w a = by_source _ a (from-tuple t l w a 0) (from_list t l w a 0) (from-work t l w a 0)

-- the gaps between the sources: what follows a whole place is in the same source
pub beside : (t l w : Bytes) → Sources t l → (a m k : ℕ) → length (bytes_from t l w a m) ≡ m
    → bytes_from t l w a m ++ bytes_from t l w (a + m) k ≡ bytes_from t l w a (m + k)
beside t l w S a m k e =
    by_source _ a
    (λ h.
    let b : m ≤ length t - a = within t a m (ap length (sym (from-tuple t l w a m h)) ∙ e) in
    let g : a + m < in_list = omega (arith, S.tuple) in
    rw (from-tuple t l w a m h, from-tuple t l w (a + m) k g, from-tuple t l w a (m + k) h) (join t a m k))
    (λ h i.
    let b : m ≤ length l - (a - in_list) = within l (a - in_list) m (ap length (sym (from_list t l w a m h i)) ∙ e) in
    let g : a + m < in_work = omega (arith, S.list) in
    let j : a + m - in_list ≡ a - in_list + m = omega arith in
    rw (from_list t l w a m h i, from_list t l w (a + m) k (omega arith) g, from_list t l w a (m + k) h i, j) (join l (a - in_list) m k))
    (λ h.
    let j : a + m - in_work ≡ a - in_work + m = omega arith in
    rw (from-work t l w a m h, from-work t l w (a + m) k (omega arith), from-work t l w a (m + k) h, j) (join w (a - in_work) m k))
