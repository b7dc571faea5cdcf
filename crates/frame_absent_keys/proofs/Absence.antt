-- An absent number: required nowhere, told as absent, counted as 0, left out of what is written. Assumes nothing.
use Prim.Native.Nat.{ℕ}
use mathlib.Core.Path.{◌≡◌, refl, sym, ap, ◌∙◌}
use mathlib.Core.Bool.{Bool, true, false, not, ◌&&◌}
use mathlib.Core.List.{List, [], ◌∷◌}
use mathlib.Core.Option.{Option, none, some}
use native.Mathlib.Omega.{arith}
use borrow.Author.Tests.{not-true, eqb-true, leb-true}
use lib.Dec.{leb, eqb}
use Rattle.msgpack_first_bytes.specs.Bytes.{Bytes, pick}
use Rattle.msgpack_first_bytes.proofs.Logic.{impossible}
use Rattle.msgpack_scalars.specs.Integer.{unsigned}
use Rattle.msgpack_values.specs.declared.OptionalNumber.{OptionalNumber}
use Rattle.frames.specs.declared.Place.{Place}
use Rattle.frames.specs.declared.Frame.{Frame}
use Rattle.frames.specs.declared.FrameAnswer.{FrameAnswer}
use Rattle.frames.specs.declared.Line.{Line}
use Rattle.frames.specs.declared.Rule.{Rule}
use Rattle.frames.specs.declared.Rule.TheVariants.{AtMost}
use Rattle.frames.specs.Limits.{max32, max_base}
use Rattle.frames.specs.Held.{all, Held, view, as_number, number_in, suits, number_or_bytes, value_held, held_at, number_held, encoded, is_some, Item, locate, absent, number}
use Rattle.frames.specs.Keys.{optional, frame_at, nowhere, empty_frame, header_table, body_table, body_items}
use Rattle.frames.specs.Codes.{Code, codes, among, is_error, required}
use Rattle.frames.specs.Cascade.{given}
use Rattle.frames.specs.Maps.{keys, has, find}
use Rattle.frames.specs.Reading.{refuse_at, refuse, accept, suited, by_places, frame_read}
use Rattle.frames.proofs.Cascade.{by_check, by_given}
use Rattle.frame_round_trip.proofs.Items.{never, both}
use Rattle.frame_round_trip.proofs.Trip.{round_trip}
use Rattle.frame_absent_keys.specs.Apart.{Apart, stops_at, maps, apart, body_keys, read_by}
use Rattle.frame_absent_keys.specs.Absent.{counts_as, MayBeAbsent, AbsentKeys}
use Rattle.frame_absent_keys.proofs.Parts.{find-has, reads}

-- ---- a place and what is read there

-- a number that suits is shown as present exactly where it stands
suits_present : (m : ℕ) (s : Bytes) (p : Place) → suits (AtMost m) (held_at (AtMost m) s p) ≡ true → (optional (number_in s p)).present ≡ p.present
unfolding suits held_at value_held number_or_bytes number_in optional
suits_present m s p = go p.present (as_number (unsigned (view s p)))
  where
    go : (b : Bool) (o : Option ℕ) → suits (AtMost m) (pick b (number_or_bytes o (view s p)) absent) ≡ true → (optional (pick b o none)).present ≡ b
    go false o h = refl
    go true none h = never h
    go true (some n) h = refl

-- what a table says of a key; where 9 does not come, the key holds it
unfoldable pub rule_in : List Line → ℕ → Option Rule
rule_in [] k = none
rule_in (x ∷ xs) k = pick (eqb k x.key) (some x.rule) (rule_in xs k)

rule-suits : (xs : List Line) (s : Bytes) (f : ℕ → Place) (k : ℕ) (r : Rule) → suited xs s f ≡ true → rule_in xs k ≡ some r → suits r (held_at r s (f k)) ≡ true
unfolding suited rule_in
rule-suits [] s f k r h e = impossible cc
rule-suits (x ∷ xs) s f k r h e = let b = both _ _ h in go (eqb k x.key) refl b.0 (rule-suits xs s f k r b.1) e
  where
    go : (t : Bool) → eqb k x.key ≡ t → suits x.rule (held_at x.rule s (f x.key)) ≡ true → (rule_in xs k ≡ some r → suits r (held_at r s (f k)) ≡ true)
        → pick t (some x.rule) (rule_in xs k) ≡ some r → suits r (held_at r s (f k)) ≡ true
    go true q here there e = let z : x.rule ≡ r = cc in rw (eqb-true k x.key q, ← z) here
    go false q here there e = there e

held_present : (n : OptionalNumber) → is_some (encoded (number_held n)) ≡ n.present
unfolding is_some encoded number_held
held_present n = go n.present
  where
    go : (b : Bool) → is_some (encoded (pick b (number n.value) absent)) ≡ b
    go true = refl
    go false = refl

optional_counts : (o : Option ℕ) → (optional o).value ≡ counts_as (optional o)
unfolding optional counts_as
optional_counts none = refl
optional_counts (some n) = refl

-- ---- no code requires it

needed-nowhere : (k c : ℕ) (xs : List Code) → all (λ (x : Code). not (has k x.needs)) xs ≡ true → given false (among c xs) (has k) ≡ false
unfolding among given
needed-nowhere k c [] h = refl
needed-nowhere k c (x ∷ xs) h = let b = both _ _ h in go (eqb c x.code) (not-true _ b.0) (needed-nowhere k c xs b.1)
  where
    go : (t : Bool) → has k x.needs ≡ false → given false (among c xs) (has k) ≡ false → given false (pick t (some x.needs) (among c xs)) (has k) ≡ false
    go true h i = h
    go false h i = i

-- ---- a key of the body that holds a number, and the field that shows it

pub record NumberKey (k : ℕ) (field : Frame → OptionalNumber) : Type 0 where
  pub most : ℕ
  pub shows : (c : ℕ) (s : Bytes) (f g : ℕ → Place) → field (frame_at c s f g) ≡ optional (number_in s (g k))
  pub rule : rule_in body_table k ≡ some (AtMost most)
  pub holds : (r : Frame) (s : Bytes) → locate (body_items r s) k ≡ number_held (field r)

module _ {k : ℕ} {field : Frame → OptionalNumber} (key : NumberKey k field) where
  -- where 9 does not come, the field says present exactly where the key stands
  pub placed : (c : ℕ) (s : Bytes) (f g : ℕ → Place) → (suited header_table s f && suited body_table s g) ≡ true → (g k).present ≡ (field (frame_at c s f g)).present
  placed c s f g e =
      let h = (both (suited header_table s f) _ e).1 in
      sym (ap (λ (n : OptionalNumber). n.present) (key.shows c s f g) ∙ suits_present key.most s (g k) (rule-suits body_table s g k _ h key.rule))

  -- and an item is written where its field says present
  pub holds_present : (r : Frame) (s : Bytes) → is_some (encoded (locate (body_items r s) k)) ≡ (field r).present
  holds_present r s = ap (λ (h : Held). is_some (encoded h)) (key.holds r s) ∙ held_present (field r)

  nothing : (field empty_frame).present ≡ false
  unfolding empty_frame number_in optional
  nothing = ap (λ (n : OptionalNumber). n.present) (key.shows 0 [] (λ j. nowhere) (λ j. nowhere))

  -- an answer on a frame in whose body these keys stand
  record Answered (ks : List ℕ) (a : FrameAnswer) : Type 0 where
    told : a.number ≡ 0 → (field a.frame).present ≡ has k ks
    counted : (field a.frame).value ≡ counts_as (field a.frame)

  shown_counts : (c : ℕ) (s : Bytes) (f g : ℕ → Place) → (field (frame_at c s f g)).value ≡ counts_as (field (frame_at c s f g))
  shown_counts c s f g = rw (key.shows c s f g) (optional_counts (number_in s (g k)))

  refusal : (ks : List ℕ) (n : ℕ) {p : OptionalNumber} → (n ≡ 0 → false ≡ has k ks) → Answered ks (refuse_at n p)
  unfolding empty_frame
  refusal ks n h = record { told = λ e. nothing ∙ h e; counted = shown_counts 0 [] (λ j. nowhere) (λ j. nowhere) }

  answered : (a : Apart) → Answered (body_keys a) (read_by required a)
  unfolding body_keys read_by by_places has refuse accept
  answered (stops_at n p) = refusal [] n (λ e. refl)
  answered (maps s hs bs) =
      let A : FrameAnswer → Type 0 = Answered (keys bs) in
      let no : (n : ℕ) → leb 1 n ≡ true → A (refuse n) = λ n h. let l = leb-true 1 n h in refusal (keys bs) n (λ e. absurd (omega arith)) in
      by_given A _ (no 8 refl) (λ c _.
      by_given A _ (no 8 refl) (λ needs _.
      by_check A _ (no 9 refl) (λ e.
      by_check A _ (no 10 refl) (λ _.
      record { told = λ z. sym (placed c s (find hs) (find bs) e) ∙ find-has bs k; counted = shown_counts c s (find hs) (find bs) }))))

  read-answered : (s : Bytes) → Answered (body_keys (apart s)) (frame_read s)
  read-answered s = rw (reads s) at (answered (apart s))

  -- what the call wrote has the key where the record says so
  written_back : (r : Frame) (s w : Bytes) → (frame_read w).number ≡ 0 → body_items (frame_read w).frame w ≡ body_items r s
      → has k (body_keys (apart w)) ≡ (field r).present
  written_back r s w a b =
      sym ((read-answered w).told a)
      ∙ sym (holds_present (frame_read w).frame w)
      ∙ ap (λ (xs : List Item). is_some (encoded (locate xs k))) b
      ∙ holds_present r s

  may_be_absent : all (λ (x : Code). not (has k x.needs)) codes ≡ true → has k (0x31 ∷ []) ≡ false → MayBeAbsent k field
  unfolding required
  may_be_absent h e =
      record {
        never_required = λ c. by_error c (is_error c);
        told = λ s. (read-answered s).told;
        counted = λ s. (read-answered s).counted;
        written = λ r s old z. let t = round_trip r s old z in written_back r s _ t.accepted t.body;
      }
    where
      by_error : (c : ℕ) (t : Bool) → given false (pick t (some (0x31 ∷ [])) (among c codes)) (has k) ≡ false
      by_error c true = unfold given in e
      by_error c false = needed-nowhere k c codes h

-- ---- the four

pub index : NumberKey 0x11 (λ (r : Frame). r.index)
unfolding frame_at rule_in body_items locate
index = record { most = max32; shows = λ c s f g. refl; rule = refl; holds = λ r s. refl }

pub offset : NumberKey 0x13 (λ (r : Frame). r.offset)
unfolding frame_at rule_in body_items locate
offset = record { most = max32; shows = λ c s f g. refl; rule = refl; holds = λ r s. refl }

pub iterator : NumberKey 0x14 (λ (r : Frame). r.iterator)
unfolding frame_at rule_in body_items locate
iterator = record { most = max32; shows = λ c s f g. refl; rule = refl; holds = λ r s. refl }

base : NumberKey 0x15 (λ (r : Frame). r.index_base)
unfolding frame_at rule_in body_items locate
base = record { most = max_base; shows = λ c s f g. refl; rule = refl; holds = λ r s. refl }

pub absent-keys : AbsentKeys
unfolding has codes
absent-keys =
    record {
      index = may_be_absent index refl refl;
      offset = may_be_absent offset refl refl;
      iterator = may_be_absent iterator refl refl;
      base = may_be_absent base refl refl;
    }
