-- 6 to 10: what the tables and look-ups say of the cascade. Assumes nothing.
use Rattle.std.specs.Prelude.{Option as Maybe, Some, None, Result, Ok, Err}
use mathlib.Core.Path.{◌≡◌, refl, sym, ap, ap₂, ◌∙◌}
use mathlib.Core.List.{List}
use mathlib.Core.Bool.{Bool, true, false, ◌&&◌, ◌||◌}
use mathlib.Core.Option.{Option, none, some}
use Prim.Native.Nat.{ℕ}
use lib.Dec.{eqb}
use lib.ListN.{length, replicate}
use Rattle.msgpack_first_bytes.specs.Bytes.{Bytes, pick}
use Rattle.msgpack_values.specs.declared.OptionalNumber.{OptionalNumber}
use Rattle.frames.specs.declared.Place.{Place}
use Rattle.frames.specs.declared.Frame.{Frame}
use Rattle.frames.specs.declared.FrameAnswer.{FrameAnswer}
use Rattle.frames.specs.Held.{all}
use Rattle.frames.specs.Keys.{optional, code_in, frame_at, header_table, body_table}
use Rattle.frames.specs.Codes.{required}
use Rattle.frames.specs.Limits.{held_depth}
use Rattle.frames.specs.Maps.{Entry, entries_at, keys, distinct}
use Rattle.frames.specs.Cascade.{check, given}
use Rattle.frames.specs.Reading.{refuse, accept, suited, by_places, by_entries}
use Rattle.msgpack_first_bytes.proofs.Logic.{impossible}
use Rattle.frame_tables.specs.Tables.{no_value, number_of, Table, table, empty_table, laid_all, tabled_on, tabled, place_in}
use Rattle.frame_tables.specs.declared.Value.{Value}
use Rattle.frame_tables.specs.declared.Untabled.{Untabled}
use Rattle.frame_tables.specs.declared.Untabled.TheVariants.{NoMap as No, Twice as Again}
use Rattle.frame_reading.specs.declared.Refusal.{Refusal}
use Rattle.frame_reading.specs.declared.Refusal.TheVariants.{NoMap, Twice}
use Rattle.frame_tables.proofs.Entries.{AllFit, nil, all_fit}
use Rattle.frame_tables.proofs.Found.{places-found, number-found}
use Rattle.frame_reading.specs.Steps.{answer_of, both_tabled, entries_in}

differ : {A : Type 0} → true ≡ false → A
differ e = impossible cc

-- ---- what the answers below are

pub code-absent : (o : Option ℕ) (n : OptionalNumber) → n ≡ optional o → n.present ≡ false → o ≡ none
unfolding optional
code-absent none n e h = refl
code-absent (some c) n e h = differ (sym (ap (λ (x : OptionalNumber). x.present) e) ∙ h)

pub code_there : (o : Option ℕ) (n : OptionalNumber) → n ≡ optional o → n.present ≡ true → o ≡ some n.value
unfolding optional
code_there none n e h = differ (sym h ∙ ap (λ (x : OptionalNumber). x.present) e)
code_there (some c) n e h = rw e

-- ---- 8 to 10

pub no_code : (s : Bytes) (f g : ℕ → Place) → code_in s f ≡ none → refuse 8 ≡ by_places required s f g
unfolding by_places given
no_code s f g e = rw e

pub no_such_code : (s : Bytes) (f g : ℕ → Place) (c : ℕ) → code_in s f ≡ some c → required c ≡ none → refuse 8 ≡ by_places required s f g
unfolding by_places given
no_such_code s f g c e h = rw (e, h)

-- a known code, and whether all keys hold what they must
pub record Judged (s : Bytes) (f g : ℕ → Place) (c : ℕ) (ks : List ℕ) (b : Bool) : Type 0 where
  pub coded : code_in s f ≡ some c
  pub known : required c ≡ some ks
  pub nine : b ≡ (suited header_table s f && suited body_table s g)

module _ {s : Bytes} {f g : ℕ → Place} {c : ℕ} {ks : List ℕ} {b : Bool} (j : Judged s f g c ks b) where
  pub unsuited : b ≡ false → refuse 9 ≡ by_places required s f g
  unfolding by_places given check
  unsuited e = rw (j.coded, j.known, ← j.nine, e)

  module _ (e : b ≡ true) {t : Bool} (h : t ≡ all (λ (k : ℕ). (g k).present) ks) where
    pub not_all_there : t ≡ false → refuse 10 ≡ by_places required s f g
    unfolding by_places given check
    not_all_there q = rw (j.coded, j.known, ← j.nine, e, ← h, q)

    pub accepted : t ≡ true → {r : Frame} → r ≡ frame_at c s f g → accept (length s) r ≡ by_places required s f g
    unfolding by_places given check
    accepted q p = rw (j.coded, j.known, ← j.nine, e, ← h, q, p)

-- ---- 6 and 7

-- 6 and 7, which the tables tell, then the rest
unfoldable pub judged : Bytes → Table → Table → FrameAnswer
judged s h b =
    pick (eqb h.number 6 || eqb b.number 6) (refuse 6)
    (pick (eqb h.number 7 || eqb b.number 7) (refuse 7)
    (by_places required s (place_in h.values) (place_in b.values)))

-- the entries that a table was made of can all be held by it
abbrev pub Holds : Bytes → Option (List Entry) → Type 0
Holds s none = Unit {0}
Holds s (some es) = AllFit s es

by_numbers : (m n : ℕ) (d e : Bool) (x : FrameAnswer) → m ≡ pick d 0 7 → n ≡ pick e 0 7
    → pick (eqb m 6 || eqb n 6) (refuse 6) (pick (eqb m 7 || eqb n 7) (refuse 7) x) ≡ check (refuse 7) (d && e) x
unfolding check
by_numbers m n true true x p q = rw (p, q)
by_numbers m n true false x p q = rw (p, q)
by_numbers m n false true x p q = rw (p, q)
by_numbers m n false false x p q = rw (p, q)

or_true : (b : Bool) → (b || true) ≡ true
or_true true = refl
or_true false = refl

-- the tables tell what the entries tell
judged-entries : (s : Bytes) (ho bo : Option (List Entry)) → Holds s ho → Holds s bo → judged s (tabled ho) (tabled bo) ≡ by_entries s ho bo
unfolding judged by_entries given tabled_on empty_table
judged-entries s none bo p q = refl
judged-entries s (some hs) none p q = rw (or_true (eqb (laid_all hs (empty_table 0)).number 6))
judged-entries s (some hs) (some bs) p q =
    by_numbers (laid_all hs (empty_table 0)).number (laid_all bs (empty_table 0)).number (distinct (keys hs)) (distinct (keys bs)) _ (number-found p) (number-found q)
    ∙ ap₂ (λ (f g : ℕ → Place). check (refuse 7) (distinct (keys hs) && distinct (keys bs)) (by_places required s f g)) (places-found p) (places-found q)

holds : (s : Bytes) (at : ℕ) → Holds s (entries_at held_depth s at)
holds s at = go (entries_at held_depth s at) refl
  where
    go : (o : Option (List Entry)) → entries_at held_depth s at ≡ o → Holds s o
    go none e = tt
    go (some es) e = all_fit held_depth s at es e

body_holds : (s : Bytes) (b : Maybe ℕ) → Holds s (entries_in s b)
unfolding entries_in
body_holds s None = nil
body_holds s (Some at) = holds s at

-- laid into an empty table
abbrev pub fresh : Option (List Entry) → Table
fresh o = tabled_on (table 0 (replicate 128 no_value)) o

pub told : (s : Bytes) (at : ℕ) (body : Maybe ℕ) {m n : ℕ} {f g : List Value} → table m f ≡ fresh (entries_at held_depth s at) → table n g ≡ fresh (entries_in s body)
    → judged s (table m f) (table n g) ≡ by_entries s (entries_at held_depth s at) (entries_in s body)
unfolding empty_table
told s at body p q = ap₂ (judged s) p q ∙ judged-entries s _ _ (holds s at) (body_holds s body)

-- the answers of both tables say so
pub both_told : (s : Bytes) (x y : Result (Unit {0}) Untabled) (f g : List Value) (u : Unit {0}) → both_tabled x y ≡ Ok u
    → by_places required s (place_in f) (place_in g) ≡ judged s (table (number_of x) f) (table (number_of y) g)
unfolding judged
both_told s (Ok a) (Ok b) f g u e = refl
both_told s (Ok a) (Err No) f g u e = impossible cc
both_told s (Ok a) (Err Again) f g u e = impossible cc
both_told s (Err No) y f g u e = impossible cc
both_told s (Err Again) (Ok b) f g u e = impossible cc
both_told s (Err Again) (Err No) f g u e = impossible cc
both_told s (Err Again) (Err Again) f g u e = impossible cc

pub refusal_told : (s : Bytes) (x y : Result (Unit {0}) Untabled) (f g : List Value) (e : Refusal) → both_tabled x y ≡ Err e
    → answer_of (length s) (Err e) ≡ judged s (table (number_of x) f) (table (number_of y) g)
unfolding judged answer_of
refusal_told s (Ok a) (Ok b) f g e q = impossible cc
refusal_told s (Ok a) (Err No) f g e q = let z : NoMap ≡ e = cc in rw (← z)
refusal_told s (Ok a) (Err Again) f g e q = let z : Twice ≡ e = cc in rw (← z)
refusal_told s (Err No) y f g e q = let z : NoMap ≡ e = cc in rw (← z)
refusal_told s (Err Again) (Ok b) f g e q = let z : Twice ≡ e = cc in rw (← z)
refusal_told s (Err Again) (Err No) f g e q = let z : NoMap ≡ e = cc in rw (← z)
refusal_told s (Err Again) (Err Again) f g e q = let z : Twice ≡ e = cc in rw (← z)
