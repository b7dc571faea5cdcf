-- A turn of each loop: what it reads has not been written yet. Assumes nothing.
use mathlib.Core.Path.{◌≡◌, sym, ap, ◌∙◌}
use mathlib.Core.List.{List, ◌∷◌, ◌++◌, append_assoc}
use Prim.Native.Nat.{ℕ, zero, suc, ◌+◌, ◌-◌, ◌<◌, ◌≤◌}
use native.Mathlib.Omega.{arith}
use native.Mathlib.Numerals.{add-one}
use lib.ListN.{length, take, drop, set, get_or, length-drop, get_or-append}
use Rattle.std.proofs.Common.{zero-add}
use Rattle.std.proofs.lemmas.List.Edits.{paste_more}
use lib.Seq.{paste, paste-zero, paste-suc, drop-paste, drop-cons, get_or-drop, get_or-take, length-take-le, set_at, take-suc}

-- what is behind the entries that are written is as it was
module _ (d s : List ℕ) (at n : ℕ) where
  past : (j : ℕ) → at ≤ length d → n ≤ length s → at + n ≤ j → get_or (paste d at s n) j 0 ≡ get_or d j 0
  past j h k q =
      let e : j ≡ at + n + (j - (at + n)) = omega arith in
      rw e (sym (get_or-drop (at + n) (paste d at s n) _ 0) ∙ rw (drop-paste d at s n h k, get_or-drop))

-- the next one is carried
module _ (d b : List ℕ) (i p : ℕ) (q : b ≡ paste d 0 (p ∷ d) i) (h : i < length d) where
  pub carry_turn : set b i (get_or (p ∷ d) i 0) ≡ paste d 0 (p ∷ d) (i + 1)
  carry_turn = rw (q, zero-add i) (rw (zero-add i) at (paste_more d 0 (p ∷ d) i 0 (omega arith) (omega arith)))

  pub carry_next : get_or b i 0 ≡ get_or (p ∷ d) (i + 1) 0
  carry_next = rw (q, add-one) (past d (p ∷ d) 0 i i (omega arith) (omega arith) (omega arith))

-- the first entry first
pub down_turn : (d b : List ℕ) (from to i : ℕ) → b ≡ paste d to (drop from d) i → to ≤ from → from + i < length d
    → set b (to + i) (get_or b (from + i) 0) ≡ paste d to (drop from d) (i + 1)
down_turn d b from to i q o h =
    let l : i < length (drop from d) = simp length-drop (omega arith) in
    let v : get_or b (from + i) 0 ≡ get_or (drop from d) i 0
    = ap (λ (x : List ℕ). get_or x (from + i) 0) q ∙ past d (drop from d) to i (from + i) (omega arith) (omega arith) (omega arith) ∙ sym (get_or-drop from d i 0) in
    ap (set b (to + i)) v ∙ ap (λ (x : List ℕ). set x (to + i) (get_or (drop from d) i 0)) q ∙ paste-suc d to (drop from d) i 0 (omega arith) l ∙ rw add-one
