-- The round trip: from what the writer accepts to bytes, to maps, to the record, and back. Assumes nothing.
use Rattle.std.specs.Prelude.{Ok}
use Prim.Native.Nat.{ℕ, suc, ◌+◌, ◌^◌, ◌≤◌, ◌<◌}
use mathlib.Core.Path.{◌≡◌, refl, sym, ap, ap₂, fun_ext, ◌∙◌, subst}
use mathlib.Core.Bool.{Bool, true}
use mathlib.Core.List.{List, [], ◌∷◌, ◌++◌, append_assoc, append-nil}
use mathlib.Core.Option.{Option, some}
use native.Mathlib.Omega.{arith}
use borrow.Author.Tests.{ltb-true, leb-true, le-leb, eq-eqb}
use lib.Dec.{leb, ltb}
use lib.ListN.{length, take, drop, length-append}
use lib.Seq.{take_at, drop_at, take-append_seam, drop-append_seam, drop-drop}
use Rattle.msgpack_first_bytes.specs.Bytes.{Bytes}
use Rattle.msgpack_values.specs.Value.{value}
use Rattle.msgpack_values.specs.Pieces.{joined}
use Rattle.msgpack_values.proofs.Local.{value_pos}
use Rattle.msgpack_scalars.specs.Integer.{unsigned}
use Rattle.msgpack_writing.specs.Forms.{big_endian, tagged, map_header}
use Rattle.msgpack_writing.proofs.Lengths.{length-big_endian}
use Rattle.frames.specs.declared.Place.{Place}
use Rattle.frames.specs.declared.Frame.{Frame}
use Rattle.frames.specs.declared.FrameAnswer.{FrameAnswer}
use Rattle.frames.specs.Limits.{max_size, max_depth, held_depth, max64}
use Rattle.frames.specs.Held.{all, Held, number, suits, number_held, encoded, is_some, Item, locate}
use Rattle.frames.specs.Keys.{header_items, body_items, optional, code_in, frame_at, header_table, body_table}
use Rattle.frames.specs.Codes.{required}
use Rattle.frames.specs.Maps.{Entry, entries_at, has, keys, distinct, find}
use Rattle.frames.specs.Cascade.{check, given, whole}
use Rattle.frames.specs.Reading.{accept, suited, by_places, by_entries, body_value, body_entries, in_frame, size_by, size_of, by_size, frame_read}
use Rattle.frames.specs.Writing.{flat, pairs, map_form, contents, frame_form, sound, each, Outcome, refused, written, write_items, frame_write, call_of, frame_write_call}
use Rattle.frame_round_trip.specs.RoundTrip.{RoundTrip, RoundTrips}
use Rattle.frame_round_trip.proofs.Numbers.{size_read}
use Rattle.frame_round_trip.proofs.Maps.{All, Fine, located, behind, Stands, seek, map_whole, map-entries, found}
use Rattle.frames.proofs.Pairs.{pairs-few}
use Rattle.frames.proofs.Cascade.{by_check, by_given}
use Rattle.frame_round_trip.proofs.Items.{both, item_keys, narrow, Ready, ready, tabled, pairs_fine, distinct-located, seek-pairs, again, Backs, number-back, backs, reread, reread-back, suited_items, suited-back, present_stands}

-- ---- from bytes to maps

-- w is a size number of five bytes, a header a and a body b, and t follows
module _ (w a b t : Bytes) (n : ℕ) (u : unsigned (w ++ t) ≡ Ok (n, 5)) (e : drop 5 w ≡ a ++ b) (lw : length w ≡ 5 + n) (l : length (a ++ b) ≡ n) (hi : n ≤ max_size)
    (va : value max_depth (a ++ b) ≡ Ok (length a)) (vb : value max_depth b ≡ Ok (length b)) where
  body_at : drop (5 + length a) w ≡ b
  body_at = sym (drop-drop (length a) 5 w) ∙ ap (drop (length a)) e ∙ drop-append_seam a b

  -- a body that is there
  body_is : (b : Bytes) (s : Bytes) (at : ℕ) → value max_depth b ≡ Ok (length b) → (body_value b ≡ Ok (length b)) × (body_entries s at b ≡ entries_at held_depth s at)
  unfolding body_value body_entries
  body_is [] s at v = absurd (let p = value_pos max_depth [] 0 v in omega arith)
  body_is (x ∷ b) s at v = (v, refl)

  sized : size_of (w ++ t) ≡ Ok (n, 5)
  unfolding size_of size_by
  sized =
      let p : 1 ≤ n = omega (arith, value_pos max_depth (a ++ b) (length a) va, length-append a b) in
      rw (u, le-leb 1 n p, le-leb n max_size hi)

  contents-read : in_frame w 5 ≡ by_entries w (entries_at held_depth w 5) (entries_at held_depth w (5 + length a))
  unfolding in_frame whole check
  contents-read =
      let c : 5 + length a + length b ≡ length w = omega (arith, length-append a b) in
      let d = body_is b w (5 + length a) vb in
      rw (e, va, body_at, d.0, d.1, eq-eqb (5 + length a + length b) (length w) c)

  to_maps : frame_read (w ++ t) ≡ by_entries w (entries_at held_depth w 5) (entries_at held_depth w (5 + length a))
  unfolding frame_read by_size check
  to_maps =
      let k : 5 + n ≤ length (w ++ t) = omega (arith, length-append w t) in
      rw (sized, le-leb (5 + n) (length (w ++ t)) k, take_at w t (5 + n) lw) contents-read

-- ---- from maps to the record: items that the writer accepts

-- items of which a map is written: distinct keys, few, each ready
record Listed (xs : List Item) : Type 0 where
  apart : distinct (item_keys xs) ≡ true
  few : length xs < 65536
  ready : All Ready xs

few-pairs : {xs : List Item} → Listed xs → length (pairs xs) < 2 ^ 32
few-pairs {xs} m = omega (arith, pairs-few xs, m.few)

fine : {xs : List Item} → Listed xs → All (Fine held_depth) (pairs xs)
fine {xs} m = pairs_fine xs m.ready

-- in w, from `at` on, the map of the items xs, and then t
module _ (w : Bytes) (at : ℕ) (xs : List Item) (t : Bytes) (m : Listed xs) (e : drop at w ≡ map_form (pairs xs) ++ t) where
  entries_of : List Entry
  entries_of = located (at + length (map_header (length (pairs xs)))) (pairs xs)

  entries_are : entries_at held_depth w at ≡ some entries_of
  unfolding entries_of
  entries_are = map-entries held_depth w at (pairs xs) t (fine m) (few-pairs m) e

  stand : (k : ℕ) → Stands w (find entries_of k) (seek (pairs xs) k)
  unfolding entries_of map_form
  stand k =
      found held_depth w (pairs xs) (at + length (map_header (length (pairs xs)))) t k (fine m)
      (behind w at (map_header (length (pairs xs))) (joined (flat (pairs xs)) ++ t) (e ∙ append_assoc (map_header (length (pairs xs))) (joined (flat (pairs xs))) t))

  held_stand : (k : ℕ) → Stands w (find entries_of k) (encoded (locate xs k))
  held_stand k = subst (λ (o : Option Bytes). Stands w (find entries_of k) o) (seek-pairs xs k m.apart) (stand k)

  come_back : Backs w (find entries_of) xs
  come_back = backs w (find entries_of) xs m.apart m.ready stand

  suit : suited_items xs w (find entries_of) ≡ true
  suit = suited-back w (find entries_of) xs come_back m.ready

  once : distinct (keys entries_of) ≡ true
  unfolding entries_of
  once = distinct-located (at + length (map_header (length (pairs xs)))) xs m.apart

record Accepted (c : ℕ) (hs bs : List Item) (ks : List ℕ) : Type 0 where
  head : Listed hs
  body : Listed bs
  coded : locate hs 0 ≡ number c
  small : c < 2 ^ 64
  known : required c ≡ some ks
  needed : all (λ (k : ℕ). is_some (encoded (locate bs k))) ks ≡ true
  short : length (contents hs bs) ≤ max_size
  head_known : (s : Bytes) (f : ℕ → Place) → suited header_table s f ≡ suited_items hs s f
  body_known : (s : Bytes) (g : ℕ → Place) → suited body_table s g ≡ suited_items bs s g

module _ (c : ℕ) (hs bs : List Item) (ks : List ℕ) (ok : Accepted c hs bs ks) where
  abbrev a : Bytes
  a = map_form (pairs hs)

  abbrev b : Bytes
  b = map_form (pairs bs)

  w : Bytes
  w = frame_form (a ++ b)

  after_size : drop 5 w ≡ a ++ b
  unfolding w frame_form
  after_size = drop_at (tagged 0xce 4 (length (a ++ b))) (a ++ b) 5 (ap suc (length-big_endian 4 (length (a ++ b))))

  after-head : drop (5 + length a) w ≡ b ++ []
  after-head = sym (drop-drop (length a) 5 w) ∙ ap (drop (length a)) after_size ∙ drop-append_seam a b ∙ sym (append-nil b)

  f : ℕ → Place
  f = find (entries_of w 5 hs b ok.head after_size)

  g : ℕ → Place
  g = find (entries_of w (5 + length a) bs [] ok.body after-head)

  head_backs : Backs w f hs
  unfolding f
  head_backs = come_back w 5 hs b ok.head after_size

  body_backs : Backs w g bs
  unfolding g
  body_backs = come_back w (5 + length a) bs [] ok.body after-head

  short : length (a ++ b) ≤ max_size
  unfolding contents
  short = ok.short

  size_first : (t : Bytes) → unsigned (w ++ t) ≡ Ok (length (a ++ b), 5)
  unfolding w frame_form
  size_first t =
      let l = short in
      ap unsigned (append_assoc (tagged 0xce 4 (length (a ++ b))) (a ++ b) t) ∙ size_read (length (a ++ b)) ((a ++ b) ++ t) (omega arith)

  long : length w ≡ 5 + length (a ++ b)
  unfolding w frame_form
  long = omega (arith, length-append (big_endian 4 (length (a ++ b))) (a ++ b), length-big_endian 4 (length (a ++ b)))

  code_read : code_in w f ≡ some c
  unfolding code_in encoded f
  code_read =
      number-back c w (f 0) ok.small
      (subst (λ (h : Held). Stands w (f 0) (encoded h)) ok.coded (held_stand w 5 hs b ok.head after_size 0))

  needs_there : all (λ (k : ℕ). (g k).present) ks ≡ true
  unfolding g
  needs_there =
      ap (λ (p : ℕ → Bool). all p ks) (fun_ext (λ k. present_stands w (g k) (encoded (locate bs k)) (held_stand w (5 + length a) bs [] ok.body after-head k))) ∙ ok.needed

  places-read : by_places required w f g ≡ accept (length w) (frame_at c w f g)
  unfolding by_places given check f g
  places-read =
      rw (code_read, ok.known, ok.head_known w f, ok.body_known w g, suit w 5 hs b ok.head after_size, suit w (5 + length a) bs [] ok.body after-head, needs_there)

  read_back : (t : Bytes) → frame_read (w ++ t) ≡ accept (length w) (frame_at c w f g)
  unfolding by_entries given check f g
  read_back t =
      to_maps w a b t (length (a ++ b)) (size_first t) after_size long refl short (map_whole held_depth (pairs hs) b (fine ok.head) (few-pairs ok.head))
      (rw append-nil at (map_whole held_depth (pairs bs) [] (fine ok.body) (few-pairs ok.body)))
      ∙ rw (
        entries_are w 5 hs b ok.head after_size,
        entries_are w (5 + length a) bs [] ok.body after-head,
        once w 5 hs b ok.head after_size,
        once w (5 + length a) bs [] ok.body after-head,
      ) places-read

-- ---- what the writer accepts

record Passed (c : ℕ) (hs bs : List Item) (room : ℕ) (v : Bytes) : Type 0 where
  ks : List ℕ
  known : required c ≡ some ks
  sounds : each (λ (x : Item). sound x.held) hs bs ≡ true
  fits : each (λ (x : Item). suits x.rule x.held) hs bs ≡ true
  needed : all (λ (k : ℕ). is_some (encoded (locate bs k))) ks ≡ true
  short : length (contents hs bs) ≤ max_size
  roomy : length v ≤ room
  made : v ≡ frame_form (contents hs bs)

module _ (c : ℕ) (hs bs : List Item) (room : ℕ) where
  -- what an outcome says of the items; a refusal is never 0
  abbrev Says : Outcome → Type 0
  Says (refused n) = n ≡ 0 → ⊥
  Says (written v) = Passed c hs bs room v

  no : (n : ℕ) → leb 1 n ≡ true → Says (refused n)
  no n h e = let l = leb-true 1 n h in omega arith

  says : Says (write_items (required c) hs bs room)
  unfolding write_items
  says =
      by_given Says (required c) (no 8 refl) (λ ks known.
      by_check Says _ (no 4 refl) (λ sounds.
      by_check Says _ (no 9 refl) (λ fits.
      by_check Says _ (no 10 refl) (λ needed.
      by_check Says _ (no 3 refl) (λ short.
      by_check Says _ (no 18 refl) (λ roomy.
      record { ks = ks; known = known; sounds = sounds; fits = fits; needed = needed; short = leb-true _ _ short; roomy = leb-true _ _ roomy; made = refl }))))))

again-written : (c : ℕ) (hs bs : List Item) (room large : ℕ) (v : Bytes) → Passed c hs bs room v → length v ≤ large → write_items (required c) hs bs large ≡ written v
unfolding write_items given check
again-written c hs bs room large v p l =
    let k : length (frame_form (contents hs bs)) ≤ large = subst (λ (x : Bytes). length x ≤ large) p.made l in
    rw (p.known, p.sounds, p.fits, p.needed, le-leb _ _ p.short, le-leb _ _ k) (ap written (sym p.made))

-- ---- the steps that name the keys: all by computation

head-tabled : (r : Frame) → tabled (header_items r) ≡ true
unfolding tabled header_items item_keys distinct has narrow
head-tabled r = refl

body-tabled : (r : Frame) (s : Bytes) → tabled (body_items r s) ≡ true
unfolding tabled body_items item_keys distinct has narrow
body-tabled r s = refl

head-same : (r : Frame) (s : Bytes) (f : ℕ → Place) → suited header_table s f ≡ suited_items (header_items r) s f
unfolding suited header_items
head-same r s f = refl

body_same : (r : Frame) (b s : Bytes) (g : ℕ → Place) → suited body_table s g ≡ suited_items (body_items r b) s g
unfolding suited body_items
body_same r b s g = refl

head-shown : (r : Frame) (c : ℕ) (s : Bytes) (f g : ℕ → Place) → code_in s f ≡ some c → header_items (frame_at c s f g) ≡ reread s f (header_items r)
unfolding header_items frame_at reread again code_in optional number_held
head-shown r c s f g e = rw e

body-shown : (r : Frame) (c : ℕ) (b s : Bytes) (f g : ℕ → Place) → body_items (frame_at c s f g) s ≡ reread s g (body_items r b)
unfolding body_items frame_at reread again
body-shown r c b s f g = refl

head_coded : (r : Frame) → locate (header_items r) 0 ≡ number r.code
unfolding header_items locate
head_coded r = refl

code-small : (r : Frame) → all (λ (x : Item). suits x.rule x.held) (header_items r) ≡ true → r.code < 2 ^ 64
unfolding header_items suits
code-small r h = let l = leb-true r.code max64 (both (leb r.code max64) _ h).0 in omega arith

-- ---- the theorem

listed : (xs : List Item) → tabled xs ≡ true → all (λ (x : Item). sound x.held) xs ≡ true → all (λ (x : Item). suits x.rule x.held) xs ≡ true → Listed xs
unfolding tabled
listed xs h x y =
    let a = both (distinct (item_keys xs)) _ h in
    let b = both (ltb (length xs) 65536) _ a.1 in
    record { apart = a.0; few = ltb-true _ _ b.0; ready = ready xs b.1 x y }

accepts : (r : Frame) (s : Bytes) (room : ℕ) (v : Bytes) (p : Passed r.code (header_items r) (body_items r s) room v)
    → Accepted r.code (header_items r) (body_items r s) p.ks
unfolding each
accepts r s room v p =
    let x = both _ _ p.sounds in
    let y = both _ _ p.fits in
    record {
      head = listed (header_items r) (head-tabled r) x.0 y.0;
      body = listed (body_items r s) (body-tabled r s) x.1 y.1;
      coded = head_coded r;
      small = code-small r y.0;
      known = p.known;
      needed = p.needed;
      short = p.short;
      head_known = head-same r;
      body_known = body_same r s;
    }

module _ (r : Frame) (s : Bytes) (room : ℕ) (p : Passed r.code (header_items r) (body_items r s) room (frame_form (contents (header_items r) (body_items r s)))) where
  x : Bytes
  x = frame_form (contents (header_items r) (body_items r s))

  ok : Accepted r.code (header_items r) (body_items r s) p.ks
  ok = accepts r s room (frame_form (contents (header_items r) (body_items r s))) p

  F : ℕ → Place
  F = f r.code (header_items r) (body_items r s) p.ks ok

  G : ℕ → Place
  G = g r.code (header_items r) (body_items r s) p.ks ok

  read-front : (t : Bytes) → frame_read (x ++ t) ≡ accept (length x) (frame_at r.code x F G)
  unfolding x F G w contents
  read-front t = read_back r.code (header_items r) (body_items r s) p.ks ok t

  read-alone : frame_read x ≡ accept (length x) (frame_at r.code x F G)
  read-alone = ap frame_read (sym (append-nil x)) ∙ read-front []

  same-header : header_items (frame_read x).frame ≡ header_items r
  unfolding x F w contents accept
  same-header =
      ap (λ (o : FrameAnswer). header_items o.frame) read-alone
      ∙ head-shown r r.code x F G (code_read r.code (header_items r) (body_items r s) p.ks ok)
      ∙ reread-back x F (header_items r) (head_backs r.code (header_items r) (body_items r s) p.ks ok)

  same_body : body_items (frame_read x).frame x ≡ body_items r s
  unfolding x G w contents accept
  same_body =
      ap (λ (o : FrameAnswer). body_items o.frame x) read-alone
      ∙ body-shown r r.code s x F G
      ∙ reread-back x G (body_items r s) (body_backs r.code (header_items r) (body_items r s) p.ks ok)

  same_code : (frame_read x).frame.code ≡ r.code
  unfolding accept frame_at
  same_code = ap (λ (o : FrameAnswer). o.frame.code) read-alone

  rewritten : (large : ℕ) → length x ≤ large → frame_write (frame_read x).frame x large ≡ written x
  unfolding frame_write x
  rewritten large l =
      ap₂ (λ (c : ℕ) (hs : List Item). write_items (required c) hs (body_items (frame_read x).frame x) large) same_code same-header
      ∙ ap (λ (bs : List Item). write_items (required r.code) (header_items r) bs large) same_body
      ∙ again-written r.code (header_items r) (body_items r s) room large x p l

  trip : RoundTrip r s x
  unfolding accept frame_write_call call_of
  trip =
      record {
        accepted = ap (λ (o : FrameAnswer). o.number) read-alone;
        whole = ap (λ (o : FrameAnswer). o.length) read-alone;
        header = same-header;
        body = same_body;
        followed = λ t. read-front t ∙ sym read-alone;
        again = λ old l. ap (call_of old) (rewritten (length old) l);
      }

written_trip : (r : Frame) (s : Bytes) (room : ℕ) (v : Bytes) → Passed r.code (header_items r) (body_items r s) room v → RoundTrip r s v
unfolding x
written_trip r s room v p =
    subst (RoundTrip r s) (sym p.made) (trip r s room (subst (Passed r.code (header_items r) (body_items r s) room) p.made p))

pub round_trip : RoundTrips
unfolding frame_write_call call_of frame_write
round_trip r s old h = go (frame_write r s (length old)) (says r.code (header_items r) (body_items r s) (length old)) h
  where
    go : (o : Outcome) → Says r.code (header_items r) (body_items r s) (length old) o → (call_of old o).number ≡ 0
        → RoundTrip r s (take (call_of old o).length (call_of old o).buffer)
    go (refused n) f h = absurd (f h)
    go (written v) p h = subst (RoundTrip r s) (sym (take-append_seam v (drop (length v) old))) (written_trip r s (length old) v p)
