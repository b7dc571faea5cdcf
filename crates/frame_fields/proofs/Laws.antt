-- What the look-ups say of the definitions. Assumes nothing.
use mathlib.Core.Path.{◌≡◌, sym, ap, ◌∙◌}
use mathlib.Core.List.{[]}
use mathlib.Core.Bool.{true, false}
use mathlib.Core.Logic.{⊎_elim}
use Prim.Native.Nat.{ℕ, min, ◌+◌, ◌-◌, ◌<◌, ◌≤◌}
use native.Mathlib.Omega.{arith}
use lib.ListN.{length, take, drop, length-drop, drop_of_length-le}
use lib.Seq.{take_all, take-nil}
use Rattle.msgpack_first_bytes.specs.Bytes.{Bytes}
use Rattle.msgpack_first_bytes.proofs.Logic.{either}
use Rattle.msgpack_scalars.specs.Integer.{unsigned}
use Rattle.msgpack_values.specs.declared.OptionalNumber.{OptionalNumber}
use Rattle.frames.specs.declared.Place.{Place}
use Rattle.frames.specs.declared.Rule.{Rule}
use Rattle.frames.specs.Held.{view, as_number, number_in, suits, value_held, held_at}
use Rattle.frames.specs.Keys.{optional}

-- ---- a view

module _ (s : Bytes) (p : Place) where
  pub view_past : length s ≤ p.start → [] ≡ view s p
  unfolding view
  view_past h = rw (drop_of_length-le s h) (sym (take-nil p.length))

  pub view-rest : length s - p.start < p.length → take (length s - p.start) (drop p.start s) ≡ view s p
  unfolding view
  view-rest h =
      take_all (length s - p.start) (drop p.start s) (simp length-drop (omega arith))
      ∙ sym (take_all p.length (drop p.start s) (simp length-drop (omega arith)))

  pub view-part : take (p.start + p.length - p.start) (drop p.start s) ≡ view s p
  unfolding view
  view-part = let e : p.start + p.length - p.start ≡ p.length = omega arith in ap (λ (n : ℕ). take n (drop p.start s)) e

  -- cut short where the bytes end
  pub view_cut : (a b : ℕ) → a ≡ min p.start (length s) → b ≡ min p.length (length s - a) → take (a + b - a) (drop a s) ≡ view s p
  view_cut a b ea eb =
      let n : a + b - a ≡ b = omega arith in
      rw n (⊎_elim (λ h.
      rw (drop_of_length-le s {i = a} (omega arith)) (take-nil b ∙ view_past h)) (λ h.
      let i : a ≡ p.start = omega arith in
      ⊎_elim (λ k. let j : b ≡ p.start + p.length - p.start = omega arith in rw (i, j) view-part)
      (λ k. let j : b ≡ length s - p.start = omega arith in rw (i, j) (view-rest k)) (either p.length (length s - p.start))) (either (length s) p.start))

-- ---- by the place: absent, or there

module _ (s : Bytes) (p q : Place) (e : p ≡ q) where
  pub number_there : (v : Bytes) → p.present ≡ true → v ≡ view s p → optional (as_number (unsigned v)) ≡ optional (number_in s q)
  unfolding number_in
  number_there v h k = rw (k, ← e, h)

  pub number-none : p.present ≡ false → ◌≡◌ {A = OptionalNumber} (record { present = false; value = 0 }) (optional (number_in s q))
  unfolding number_in optional
  number-none h = rw (← e, h)

  pub suits_there : (r : Rule) (v : Bytes) → p.present ≡ true → v ≡ view s p → suits r (value_held r v) ≡ suits r (held_at r s q)
  unfolding held_at
  suits_there r v h k = rw (k, ← e, h)

  pub suits-none : (r : Rule) → p.present ≡ false → true ≡ suits r (held_at r s q)
  unfolding held_at suits
  suits-none r h = rw (← e, h)
