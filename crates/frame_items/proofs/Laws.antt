-- What the code's own account of a known key says of the record's items. Assumes nothing.
use mathlib.Core.Path.{◌≡◌, refl, ap, ap₂, fun_ext, ◌∙◌}
use mathlib.Core.Bool.{Bool, true, false}
use mathlib.Core.List.{List, [], ◌∷◌, ◌++◌, map}
use Prim.Native.Nat.{ℕ, zero, suc, ◌+◌, ◌<◌, ◌≤◌}
use native.Mathlib.Omega.{arith}
use borrow.Author.Tests.{le-leb, lt-leb}
use lib.Dec.{leb}
use lib.ListN.{length, get_or, get_or-eq_default}
use Rattle.msgpack_first_bytes.specs.Bytes.{Bytes, pick}
use Rattle.frames.specs.declared.Frame.{Frame}
use Rattle.frames.specs.declared.Line.{Line}
use Rattle.msgpack_values.specs.declared.OptionalNumber.{OptionalNumber}
use Rattle.frames.specs.declared.Place.{Place}
use Rattle.frames.specs.Limits.{max_size, known_keys}
use Rattle.frames.specs.Held.{Held, absent, number, number_held, place_held}
use Rattle.frames.specs.Keys.{all_lines, header_fields, body_fields, with_held, header_items, body_items}
use Rattle.msgpack_first_bytes.proofs.Logic.{impossible}
use Rattle.frame_rules.specs.Needs.{line_at, no_line}
use Rattle.frame_items.specs.Content.{held_of, item_of, all_items, blank, number_content, place_content, all_contents, content_at, known_key_at, capped}
use Rattle.frame_items.specs.declared.Content.{Content}
use Rattle.frame_items.specs.declared.Content.TheVariants.{Absent, Outside, Number, View}

-- ---- the i-th

held-pick : (s : Bytes) (b : Bool) (x y : Content) → held_of s (pick b x y) ≡ pick b (held_of s x) (held_of s y)
held-pick s true x y = refl
held-pick s false x y = refl

held_number : (s : Bytes) (n : OptionalNumber) → held_of s (number_content n) ≡ number_held n
unfolding held_of number_content number_held
held_number s n = held-pick s n.present (Number n.value) Absent

held_place : (s : Bytes) (p : Place) → held_of s (place_content s p) ≡ place_held s p
unfolding held_of place_content place_held
held_place s p =
    held-pick s p.present _ Absent ∙ ap (λ (h : Held). pick p.present h absent) (held-pick s (leb (p.start + p.length) (length s)) (View p) Outside)

all_held : (r : Frame) (s : Bytes) → map (held_of s) (all_contents r s) ≡ header_fields number number_held r ++ body_fields number_held (place_held s) r
unfolding held_of
all_held r s =
    ap₂ (λ (n : OptionalNumber → Held) (p : Place → Held). header_fields number n r ++ body_fields n p r) (fun_ext (held_number s)) (fun_ext (held_place s))

item-at : (s : Bytes) (ls : List Line) (cs : List Content) (i : ℕ) → length ls ≡ length cs
    → item_of s (record { key = (get_or ls i no_line).key; rule = (get_or ls i no_line).rule; content = get_or cs i Absent }) ≡ get_or (with_held ls (map (held_of s) cs)) i blank
unfolding item_of held_of
item-at s [] [] i e = refl
item-at s [] (c ∷ cs) i e = impossible (omega arith)
item-at s (l ∷ ls) [] i e = impossible (omega arith)
item-at s (l ∷ ls) (c ∷ cs) zero e = refl
item-at s (l ∷ ls) (c ∷ cs) (suc i) e = item-at s ls cs i (omega arith)

pub known_item : (r : Frame) (s : Bytes) (i : ℕ) → item_of s (known_key_at r s i) ≡ get_or (all_items r s) i blank
unfolding known_key_at content_at line_at all_items header_items body_items
known_item r s i =
    item-at s all_lines (all_contents r s) i refl ∙ ap (λ (hs : List Held). get_or (with_held all_lines hs) i blank) (all_held r s)

pub content_past : (r : Frame) (s : Bytes) (i : ℕ) → known_keys ≤ i → content_at r s i ≡ Absent
unfolding content_at
content_past r s i h = get_or-eq_default (all_contents r s) Absent {n = i} h

-- ---- lengths

pub capped-low : (n : ℕ) → n ≤ max_size → n ≡ capped n
unfolding capped
capped-low n h = rw (le-leb n max_size h)

pub capped_high : (n : ℕ) → max_size < n → max_size + 1 ≡ capped n
unfolding capped
capped_high n h = rw (lt-leb n max_size h)
