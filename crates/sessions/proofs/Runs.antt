-- Every run of feeds shows what the bytes that it takes show uncut. Assumes nothing.
use mathlib.Core.Path.{◌≡◌, refl, sym, ap, ◌∙◌}
use mathlib.Core.List.{List, [], ◌∷◌, ◌++◌, append_assoc, append-nil}
use mathlib.Core.Bool.{Bool, true, false, not}
use mathlib.Core.Logic.{⊎_elim}
use Prim.Native.Nat.{ℕ, ◌+◌, ◌-◌, ◌<◌, ◌≤◌}
use native.Mathlib.Omega.{arith}
use borrow.Author.Tests.{eqb-true, eqb-false, eq-eqb, ne_eqb, le-ltb}
use lib.Dec.{eqb, ltb}
use lib.ListN.{length, take, drop, length-take, length-append, take-append-drop}
use lib.Seq.{take_all, take-take, take-add, take-append-le, length-take-le}
use Rattle.msgpack_first_bytes.specs.Bytes.{Bytes, pick}
use Rattle.msgpack_first_bytes.proofs.Logic.{either}
use Rattle.msgpack_values.specs.Spoiled.{no_place}
use Rattle.msgpack_writing.specs.Put.{next as after}
use Rattle.msgpack_writing.proofs.Put.{wrote, through, length-put}
use Rattle.msgpack_scalars.specs.Integer.{due, unsigned_by, unsigned}
use Rattle.frames.specs.Reading.{refuse, size_by, size_of, by_size, frame_read}
use Rattle.frames.specs.declared.FrameAnswer.{FrameAnswer}
use Rattle.sessions.specs.Session.{carry_room, round, fresh, idle, session_after, fed, kept, go_on, carried_on, begun, feed_of, carry_of, view_of}
use Rattle.sessions.specs.declared.Session.{Session}
use Rattle.sessions.specs.declared.SessionAnswer.{SessionAnswer}
use Rattle.sessions.proofs.Settled.{front}
use Rattle.sessions.proofs.Shown.{take-both, shown}
use Rattle.sessions.specs.Cutting.{Shown, Seen, none, before, frames_from, frames_of, Run, adding, run, EveryCutting, AnyTwo}
use Rattle.sessions.proofs.Uncut.{round-add, stop, settled, uncut_open, own-refused, own-next, uncut_more}

-- x, and of b the rest of k bytes and r more: the first k of x and a piece of b that has them, then r more
pieces : (x b : Bytes) (n k r : ℕ) → length x ≤ k → k ≤ length (x ++ take n b)
    → x ++ take (k - length x + r) b ≡ take k (x ++ take n b) ++ take r (drop (k - length x) b)
pieces x b n k r h i =
    let l = length-append x (take n b) in
    let m = length-take n b in
    let e : take k (x ++ take n b) ≡ x ++ take (k - length x) b = take-both k x (take n b) ∙ rw (take_all k x h, take-take (k - length x) n b (omega arith)) in
    rw (e, take-add (k - length x) r b, append_assoc)

-- ---- a session between two feeds, none refused: what is held is not settled yet

pub record Between (s : Session) (c : Bytes) : Type 0 where
  pub clean : s.refused ≡ 0
  pub room : carry_room ≤ length c
  pub inside : s.held ≤ length c
  pub waits : (frame_read (begun s c)).number ≡ 1

-- nothing is held
pub start : (o : ℕ) (c : Bytes) → carry_room ≤ length c → Between (record { offset = o; held = 0; refused = 0; place = no_place }) c
unfolding begun frame_read by_size size_of size_by unsigned unsigned_by due refuse
start o c h = record { clean = refl; room = h; inside = omega arith; waits = refl }

module _ (s : Session) (p c : Bytes) (r : carry_room ≤ length c) where
  feed_clean : s.refused ≡ 0 → (feed_of s p c ≡ go_on s (begun s c) p) × (carry_of s p c ≡ carried_on (begun s c) p c)
  unfolding feed_of carry_of
  feed_clean e = rw (le-ltb (length c) carry_room r, eq-eqb s.refused 0 e) (refl, refl)

  feed-refused : (s.refused ≡ 0 → ⊥) → (feed_of s p c ≡ idle s.refused s.place s) × (carry_of s p c ≡ c)
  unfolding feed_of carry_of
  feed-refused e = rw (le-ltb (length c) carry_room r, ne_eqb s.refused 0 e) (refl, refl)

-- a run by its first feed
first : (n : ℕ) (ns : List ℕ) (b : Bytes) (s : Session) (c : Bytes) {a : SessionAnswer} {d : Bytes} → feed_of s (take n b) c ≡ a → carry_of s (take n b) c ≡ d
    → run (n ∷ ns) b s c ≡ adding a (take n b) d (run ns (drop a.taken b) a.session d)
unfolding run
first n ns b s c e g = rw (e, g)

-- "After a refused frame each feed repeats that answer, takes 0 bytes and changes nothing"
refused-run : (ns : List ℕ) (b : Bytes) (s : Session) (c : Bytes) → carry_room ≤ length c → (s.refused ≡ 0 → ⊥) → (run ns b s c).taken ≡ 0
unfolding run adding idle
refused-run [] b s c r h = refl
refused-run (n ∷ ns) b s c r h =
    let e = feed-refused s (take n b) c r h in
    ap (λ (u : Run). u.taken) (first n ns b s c e.0 e.1) ∙ rw (refused-run ns b s c r h)

-- ---- a feed, by what it meets

module _ (s : Session) (p c : Bytes) (g : Between s c) where
  abbrev x : Bytes
  x = begun s c

  abbrev y : Bytes
  y = begun s c ++ p

  begun-long : length x ≡ s.held
  unfolding begun
  begun-long = length-take-le s.held c g.inside

  -- the frame is settled past what was held
  beyond : ((frame_read y).number ≡ 1 → ⊥) → length x < stop y
  beyond h =
      ⊎_elim (λ i.
      let e : take (stop y) y ++ drop (stop y) x ≡ x = ap (λ (l : Bytes). l ++ drop (stop y) x) (take-append-le (stop y) x p i) ∙ take-append-drop (stop y) x in
      let q = ap (λ (a : FrameAnswer). a.number) (sym ((settled y h).known.local (drop (stop y) x)) ∙ ap frame_read e) in
      absurd (h (q ∙ g.waits))) (λ i. i) (either (stop y) (length x))

  carried : (t : Bool) → not (eqb (frame_read y).number 1) ≡ t → carried_on x p c ≡ kept s.held p (stop y) t c
  unfolding carried_on
  carried t e = rw (e, begun-long)

  kept-long : (t : Bool) → length (kept s.held p (stop y) t c) ≡ length c
  unfolding kept
  kept-long t = length-put s.held _ c

  -- what waits
  abbrev waited : Session
  waited = record { offset = s.offset; held = length x + length p; refused = 0; place = no_place }

  wait_begun : (frame_read y).number ≡ 1 → begun waited (kept s.held p (stop y) false c) ≡ y
  unfolding begun kept
  wait_begun e =
      let l = (front y).0 e in
      let j = length-append x p in
      let i = begun-long in
      let r = g.room in
      let w = wrote c s.held p (refl, refl) (omega arith) in
      let a : length x + length p ≡ after s.held p c = sym (w.end ∙ omega arith) in
      rw a (through w)

  wait_good : (frame_read y).number ≡ 1 → Between waited (kept s.held p (stop y) false c)
  wait_good e =
      let l = (front y).0 e in
      let j = length-append x p in
      let r = g.room in
      let k = kept-long false in
      record { clean = refl; room = omega arith; inside = omega arith; waits = ap (λ (l : Bytes). (frame_read l).number) (wait_begun e) ∙ e }

  view-is : (frame_read y).number ≡ 0 → view_of (ltb 0 (length x)) (frame_read y).length p (kept s.held p (stop y) true c) ≡ take (stop y) y
  unfolding begun
  view-is z =
      let h : (frame_read y).number ≡ 1 → ⊥ = λ e. omega arith in
      let w = settled y h in
      let i = w.known.few in
      let r = g.room in
      rw (begun-long, w.whole z) (shown p c s.held (stop y) g.inside (omega arith) w.known.inside)

-- ---- all feeds

abbrev Shows : List ℕ → Type 0
Shows ns = (b : Bytes) (s : Session) (c : Bytes) → Between s c → (o : ℕ) → s.offset ≡ round o → (run ns b s c).seen ≡ frames_from 0 o (begun s c ++ take (run ns b s c).taken b)

module _ (n : ℕ) (ns : List ℕ) (ih : Shows ns) (b : Bytes) (s : Session) (c : Bytes) (g : Between s c) (o : ℕ) (at : s.offset ≡ round o) where
  abbrev p : Bytes
  p = take n b

  abbrev u : Bytes
  u = begun s c

  abbrev v : Bytes
  v = begun s c ++ take n b

  abbrev Claim : Type 0
  Claim = (run (n ∷ ns) b s c).seen ≡ frames_from 0 o (u ++ take (run (n ∷ ns) b s c).taken b)

  -- by what the first feed leaves
  feeds : (t : Bool) → not (eqb (frame_read v).number 1) ≡ t
      → run (n ∷ ns) b s c ≡ adding (fed s (length u) (length p) (stop v) (frame_read v)) p (kept s.held p (stop v) t c)
      (run ns (drop (fed s (length u) (length p) (stop v) (frame_read v)).taken b) (fed s (length u) (length p) (stop v) (frame_read v)).session (kept s.held p (stop v) t c))
  unfolding go_on
  feeds t e = let f = feed_clean s p c g.room g.clean in first n ns b s c f.0 (f.1 ∙ carried s p c g t e)

  by_run : (r : Run) (l : Bytes) → run (n ∷ ns) b s c ≡ r → u ++ take r.taken b ≡ l → r.seen ≡ frames_from 0 o l → Claim
  by_run r l e f q = rw (e, f) q

  waits : (frame_read v).number ≡ 1 → Claim
  unfolding adding fed session_after
  waits e =
      let d = kept s.held p (stop v) false c in
      let w : Session = waited s p c g in
      let r = run ns (drop (length p) b) w d in
      let f : run (n ∷ ns) b s c ≡ record { seen = r.seen; taken = length p + r.taken } = feeds false (rw e) ∙ rw e in
      let l = length-append u p in
      let k : length v - length u ≡ length p = omega arith in
      let j : u ++ take (length p + r.taken) b ≡ v ++ take r.taken (drop (length p) b) =
      rw (k, take_all (length v) v (omega arith)) at (pieces u b n (length v) r.taken (omega arith) (omega arith)) in
      by_run _ _ f j (ih (drop (length p) b) w d (wait_good s p c g e) o at ∙ rw (wait_begun s p c g e))

  module _ (h : (frame_read v).number ≡ 1 → ⊥) where
    told : not (eqb (frame_read v).number 1) ≡ true
    told = rw (ne_eqb (frame_read v).number 1 h)

    join : (r : ℕ) → u ++ take (stop v - length u + r) b ≡ take (stop v) v ++ take r (drop (stop v - length u) b)
    join r = let i = beyond s p c g h in pieces u b n (stop v) r (omega arith) (settled v h).known.inside

    refuses : ((frame_read v).number ≡ 0 → ⊥) → Claim
    unfolding adding fed session_after
    refuses z =
        let d = kept s.held p (stop v) true c in
        let k = kept-long s p c g true in
        let m = g.room in
        let t : Session = record { offset = s.offset; held = pick (eqb (length u) 0) 0 (stop v); refused = (frame_read v).number; place = (frame_read v).place } in
        let q = refused-run ns (drop (stop v - length u) b) t d (omega arith) z in
        let f : run (n ∷ ns) b s c ≡ record { seen = none (frame_read v).number (frame_read v).place s.offset; taken = stop v - length u + 0 } =
        feeds true told ∙ rw (ne_eqb (frame_read v).number 0 z, ne_eqb (frame_read v).number 1 h, q) in
        by_run _ _ f (join 0) (ap (none (frame_read v).number (frame_read v).place) at ∙ sym (own-refused v [] h o z))

    answers : (frame_read v).number ≡ 0 → Claim
    unfolding adding fed session_after begun
    answers z =
        let d = kept s.held p (stop v) true c in
        let k = kept-long s p c g true in
        let m = g.room in
        let a = frame_read v in
        let t : Session = record { offset = round (s.offset + a.length); held = 0; refused = 0; place = no_place } in
        let rest = drop (stop v - length u) b in
        let r = run ns rest t d in
        let sh : ℕ → Shown = λ l. record { bytes = take (stop v) v; frame = a.frame; offset = l } in
        let f : run (n ∷ ns) b s c ≡ record { seen = before (sh s.offset) r.seen; taken = stop v - length u + r.taken } =
        feeds true told ∙ rw (eq-eqb (frame_read v).number 0 z, ne_eqb (frame_read v).number 1 h, view-is s p c g z) in
        let next : round (s.offset + a.length) ≡ round (o + stop v) =
        ap (λ (l : ℕ). round (l + a.length)) at ∙ round-add o a.length ∙ ap (λ (l : ℕ). round (o + l)) ((settled v h).whole z) in
        let i : r.seen ≡ frames_from 0 (o + stop v) (take r.taken rest) = ih rest t d (start (round (s.offset + a.length)) d (omega arith)) (o + stop v) next in
        by_run _ _ f (join r.taken) (ap (λ (l : ℕ). before (sh l) r.seen) at ∙ ap (before (sh (round o))) i ∙ sym (own-next v (take r.taken rest) h o z))

  claim : Claim
  claim = go (eqb (frame_read v).number 1) refl (eqb (frame_read v).number 0) refl
    where
      go : (x : Bool) → eqb (frame_read v).number 1 ≡ x → (y : Bool) → eqb (frame_read v).number 0 ≡ y → Claim
      go true e y f = waits (eqb-true _ 1 e)
      go false e true f = answers (eqb-false _ 1 e) (eqb-true _ 0 f)
      go false e false f = refuses (eqb-false _ 1 e) (eqb-false _ 0 f)

shows : (ns : List ℕ) → Shows ns
unfolding run
shows [] b s c g o at =
    ap (none 0 no_place) at ∙ sym (ap (frames_from 0 o) (append-nil (begun s c)) ∙ uncut_open o (begun s c) g.waits)
shows (n ∷ ns) b s c g o at = claim n ns (shows ns) b s c g o at

pub every : EveryCutting
unfolding fresh frames_of begun
every ns b c h =
    let r = run ns b fresh c in
    let e : r.seen ≡ frames_of (take r.taken b) = shows ns b fresh c (start 0 c h) 0 refl in
    record {
      so_far = e;
      at_end = λ f. ⊎_elim (λ i. e ∙ ap frames_of (take_all r.taken b i)) (λ i.
          e ∙ sym (uncut_more 0 0 (take r.taken b) (drop r.taken b) (λ z. i (ap (λ (x : Seen). x.refused) e ∙ z)))
          ∙ ap (frames_from 0 0) (take-append-drop r.taken b)) f;
    }

pub any_two : AnyTwo
any_two ns ms b c d hc hd fc fd = (every ns b c hc).at_end fc ∙ sym ((every ms b d hd).at_end fd)
