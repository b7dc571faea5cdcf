-- The required keys before and now, and what both answers are. Assumes nothing.
use Prim.Native.Nat.{ℕ}
use mathlib.Core.Path.{◌≡◌, refl, ◌∙◌}
use mathlib.Core.Bool.{Bool, true, false, not, ◌&&◌}
use mathlib.Core.List.{List, [], ◌∷◌}
use mathlib.Core.Option.{Option, none, some}
use borrow.Author.Tests.{eqb-true}
use lib.Dec.{eqb}
use Rattle.msgpack_first_bytes.specs.Bytes.{pick}
use Rattle.frames.specs.declared.Frame.{Frame}
use Rattle.frames.specs.declared.FrameAnswer.{FrameAnswer}
use Rattle.frames.specs.Held.{all}
use Rattle.frames.specs.Keys.{frame_at, empty_frame}
use Rattle.frames.specs.Codes.{codes, among, is_error, required}
use Rattle.frames.specs.Cascade.{check, given}
use Rattle.msgpack_values.specs.Spoiled.{no_place}
use Rattle.msgpack_values.specs.declared.OptionalNumber.{OptionalNumber}
use Rattle.frames.specs.Reading.{refuse_at, refuse, accept}
use Rattle.frames.specs.Writing.{Outcome, refused}
use Rattle.frame_absent_keys.specs.Before.{required_before, leaves_out, read_before, passes_ten, written_before}

-- what is there, by keys and by the record's fields
pub record Agrees (p : ℕ → Bool) (r : Frame) : Type 0 where
  pub index : p 0x11 ≡ r.index.present
  pub offset : p 0x13 ≡ r.offset.present
  pub iterator : p 0x14 ≡ r.iterator.present

-- a code's required keys, before and now: all of the former are there where all of the latter are and none of the three is left out
pub data Fewer (r : Frame) : Type 0 where
  unknown : required_before r.code ≡ none → required r.code ≡ none → Fewer r
  known : (before now : List ℕ) → required_before r.code ≡ some before → required r.code ≡ some now
      → ((p : ℕ → Bool) → Agrees p r → all p before ≡ (not (leaves_out r) && all p now)) → Fewer r

of_select : (a b c d e f : Bool) {x y z : Bool} → b ≡ x → d ≡ y → e ≡ z
    → (a && (b && (c && (d && (e && (f && true)))))) ≡ (not (not (x && (y && z))) && (a && (c && (f && true))))
of_select a b c d e f p q r = rw (← p, ← q, ← r) (go a b c d e f)
  where
    go : (a b c d e f : Bool) → (a && (b && (c && (d && (e && (f && true)))))) ≡ (not (not (b && (d && e))) && (a && (c && (f && true))))
    go true false c d e f = refl
    go false false c d e f = refl
    go false true c false e f = refl
    go true true true false e f = refl
    go true true false false e f = refl
    go false true c true false f = refl
    go true true true true false f = refl
    go true true false true false f = refl
    go a true c true true f = refl

of_others : (a b c : Bool) {x : Bool} → b ≡ x → (a && (b && c)) ≡ (not (not x) && (a && c))
of_others a b c p = rw (← p) (go a b c)
  where
    go : (a b c : Bool) → (a && (b && c)) ≡ (not (not b) && (a && c))
    go true false c = refl
    go false false c = refl
    go a true c = refl

module _ (r : Frame) where
  select-fewer : r.code ≡ 0x01 → Fewer r
  unfolding required_before required is_error among codes leaves_out
  select-fewer e =
      known (0x10 ∷ 0x11 ∷ 0x12 ∷ 0x13 ∷ 0x14 ∷ 0x20 ∷ []) (0x10 ∷ 0x12 ∷ 0x20 ∷ []) (rw e) (rw e)
      (λ p g. rw e (of_select (p 0x10) (p 0x11) (p 0x12) (p 0x13) (p 0x14) (p 0x20) g.index g.offset g.iterator))

  update-fewer : r.code ≡ 0x04 → Fewer r
  unfolding required_before required is_error among codes leaves_out
  update-fewer e =
      known (0x10 ∷ 0x11 ∷ 0x20 ∷ 0x21 ∷ []) (0x10 ∷ 0x20 ∷ 0x21 ∷ []) (rw e) (rw e)
      (λ p g. rw e (of_others (p 0x10) (p 0x11) (p 0x20 && (p 0x21 && true)) g.index))

  delete_fewer : r.code ≡ 0x05 → Fewer r
  unfolding required_before required is_error among codes leaves_out
  delete_fewer e =
      known (0x10 ∷ 0x11 ∷ 0x20 ∷ []) (0x10 ∷ 0x20 ∷ []) (rw e) (rw e) (λ p g. rw e (of_others (p 0x10) (p 0x11) (p 0x20 && true) g.index))

  module _ (e1 : eqb r.code 0x01 ≡ false) (e4 : eqb r.code 0x04 ≡ false) (e5 : eqb r.code 0x05 ≡ false) where
    same-needs : required_before r.code ≡ required r.code
    unfolding required_before required among codes
    same-needs = rw (e1, e4, e5)

    none_left_out : leaves_out r ≡ false
    unfolding leaves_out
    none_left_out = rw (e1, e4, e5)

    other_same : Fewer r
    other_same = go (required r.code) refl
      where
        go : (o : Option (List ℕ)) → required r.code ≡ o → Fewer r
        go none e = unknown (same-needs ∙ e) e
        go (some ks) e = known ks ks (same-needs ∙ e) e (λ p g. rw none_left_out)

  pub fewer : Fewer r
  fewer = go (eqb r.code 0x01) refl (eqb r.code 0x04) refl (eqb r.code 0x05) refl
    where
      go : (a : Bool) → eqb r.code 0x01 ≡ a → (b : Bool) → eqb r.code 0x04 ≡ b → (c : Bool) → eqb r.code 0x05 ≡ c → Fewer r
      go true e1 b e4 c e5 = select-fewer (eqb-true _ _ e1)
      go false e1 true e4 c e5 = update-fewer (eqb-true _ _ e4)
      go false e1 false e4 true e5 = delete_fewer (eqb-true _ _ e5)
      go false e1 false e4 false e5 = other_same e1 e4 e5

-- ---- reading

pub stops_same : (n : ℕ) (p : OptionalNumber) → refuse_at n p ≡ read_before (refuse_at n p)
unfolding read_before empty_frame frame_at leaves_out
stops_same n p = go (eqb n 0)
  where
    go : (b : Bool) → refuse_at n p ≡ pick (b && leaves_out empty_frame) (refuse 10) (refuse_at n p)
    go true = refl
    go false = refl

pub refused-same : (n : ℕ) → refuse n ≡ read_before (refuse n)
unfolding refuse
refused-same n = stops_same n no_place

-- 10 and the record
last-read : (r : Frame) (n : ℕ) (now left : Bool) → leaves_out r ≡ left
    → check (refuse 10) (not left && now) (accept n r) ≡ read_before (check (refuse 10) now (accept n r))
unfolding read_before check accept
last-read r n true true e = rw e
last-read r n true false e = rw e
last-read r n false true e = refused-same 10
last-read r n false false e = refused-same 10

-- 8 to 10 by required keys, the answer a after them
abbrev pub judged_by : (ℕ → Bool) → Bool → FrameAnswer → Option (List ℕ) → FrameAnswer
judged_by p suits a needed = given (refuse 8) needed (λ needs. check (refuse 9) suits (check (refuse 10) (all p needs) a))

pub read-fewer : (r : Frame) (n : ℕ) (p : ℕ → Bool) (suits : Bool) → (suits ≡ true → Agrees p r)
    → judged_by p suits (accept n r) (required_before r.code) ≡ read_before (judged_by p suits (accept n r) (required r.code))
unfolding given check
read-fewer r n p suits agrees = go (fewer r) suits refl
  where
    go : Fewer r → (t : Bool) → suits ≡ t
        → judged_by p t (accept n r) (required_before r.code) ≡ read_before (judged_by p t (accept n r) (required r.code))
    go (unknown a b) t e = rw (a, b) (refused-same 8)
    go (known before now a b same) false e = rw (a, b) (refused-same 9)
    go (known before now a b same) true e = rw (a, b, same p (agrees e)) (last-read r n (all p now) (leaves_out r) refl)

-- ---- writing

last_written : (r : Frame) (now left : Bool) (o : Outcome) → passes_ten o ≡ true → leaves_out r ≡ left
    → check (refused 10) (not left && now) o ≡ written_before r (check (refused 10) now o)
unfolding written_before check passes_ten
last_written r true true o t e = rw (t, e)
last_written r true false o t e = rw (t, e)
last_written r false true o t e = refl
last_written r false false o t e = refl

-- 8, 4, 9 and 10 by required keys, the outcome o after them
abbrev pub written_by : (ℕ → Bool) → Bool → Bool → Outcome → Option (List ℕ) → Outcome
written_by p sound suits o needed = given (refused 8) needed (λ needs. check (refused 4) sound (check (refused 9) suits (check (refused 10) (all p needs) o)))

pub written-fewer : (r : Frame) (p : ℕ → Bool) (sound suits : Bool) (o : Outcome) → passes_ten o ≡ true → Agrees p r
    → written_by p sound suits o (required_before r.code) ≡ written_before r (written_by p sound suits o (required r.code))
unfolding given check written_before passes_ten
written-fewer r p sound suits o t agrees = go (fewer r) sound suits
  where
    go : Fewer r → (x y : Bool) → written_by p x y o (required_before r.code) ≡ written_before r (written_by p x y o (required r.code))
    go (unknown a b) x y = rw (a, b)
    go (known before now a b same) false y = rw (a, b)
    go (known before now a b same) true false = rw (a, b)
    go (known before now a b same) true true = rw (a, b, same p agrees) (last_written r (all p now) (leaves_out r) o t refl)
