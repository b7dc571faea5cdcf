-- Fields that are whole values, each by itself: what a list of them keeps, and which bytes that are written are one. Assumes nothing.
use Rattle.std.specs.Prelude.{Ok, Err}
use mathlib.Core.Path.{◌≡◌, refl, sym, ap, ◌∙◌}
use mathlib.Core.List.{List, [], ◌++◌, append-nil}
use Prim.Native.Nat.{ℕ, zero, suc, ◌<◌}
use native.Mathlib.Nat.{not-suc-le-zero, le_of_suc-le-suc}
use lib.ListN.{length, get_or, take, drop}
use lib.Seq.{take-length, length-take-le}
use Rattle.msgpack_first_bytes.specs.Bytes.{Bytes}
use Rattle.msgpack_values.specs.Value.{value, items, and_then, Read}
use Rattle.msgpack_values.specs.Pieces.{piece_then, pieces, Single, Each, none, more}
use Rattle.msgpack_values.proofs.Local.{value_good, value_local, never, shift-whole}

module _ (v : Bytes → Read) where
  pub each_append : {s t : List Bytes} → Each v s → Each v t → Each v (s ++ t)
  each_append none q = q
  each_append (more e es) q = more e (each_append es q)

  pub each_take : (n : ℕ) {t : List Bytes} → Each v t → Each v (take n t)
  each_take zero q = none
  each_take (suc n) none = none
  each_take (suc n) (more e es) = more e (each_take n es)

  pub each-drop : (n : ℕ) {t : List Bytes} → Each v t → Each v (drop n t)
  each-drop zero q = q
  each-drop (suc n) none = none
  each-drop (suc n) (more e es) = each-drop n es

  pub each_at : (n : ℕ) {t : List Bytes} → n < length t → Each v t → Single v (get_or t n [])
  each_at n h none = absurd (not-suc-le-zero h)
  each_at zero h (more e es) = e
  each_at (suc n) h (more e es) = each_at n (le_of_suc-le-suc h) es

-- a whole value is read whatever follows it
pub single_front : (d : ℕ) (f m : Bytes) → Single (value d) f → value d (f ++ m) ≡ Ok (length f)
single_front d f m e = rw take-length at (value_local d f m (length f) e)

-- the front that is read as one whole value is one
pub single_take : (d : ℕ) (s : Bytes) (n : ℕ) → value d s ≡ Ok n → Single (value d) (take n s)
single_take d s n e = rw append-nil at (value_local d s [] n e) ∙ ap Ok (sym (length-take-le n s (value_good d s n e).0))

pub pieces-each : (d n : ℕ) (s : Bytes) (k : ℕ) → items (value d) n s ≡ Ok k → Each (value d) (pieces (value d) n s)
unfolding items pieces
pieces-each d zero s k e = none
pieces-each d (suc n) s k e = go (value d s) refl e (pieces-each d n)
  where
    go : (r : Read) → value d s ≡ r → and_then r (λ j. items (value d) n (drop j s)) ≡ Ok k
        → ((s : Bytes) (k : ℕ) → items (value d) n s ≡ Ok k → Each (value d) (pieces (value d) n s))
        → Each (value d) (piece_then r s (λ j. pieces (value d) n (drop j s)))
    go (Err p) q e ih = never p k e
    go (Ok j) q e ih =
        let m = shift-whole j k (items (value d) n (drop j s)) e in
        more (single_take d s j q) (ih (drop j s) m.0 m.1)
