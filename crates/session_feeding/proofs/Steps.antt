-- What each step of a feed says of the definition. Assumes nothing.
use Rattle.std.specs.Prelude.{Ok, Err}
use Rattle.std.proofs.Common.{◌≡◌, ℕ, ◌+◌, ◌-◌, ◌≤◌, min, Bool, not, eqb, ltb, leb, [], ◌∷◌, ◌++◌, length, take, sym, refl, ap, ◌∙◌, subst, ⊎_elim, arith, length-append, length-take-le, ne_eqb, le-leb}
use Rattle.std.proofs.lemmas.List.{take_min}
use borrow.Author.Tests.{lt-leb}
use Rattle.msgpack_first_bytes.specs.Bytes.{Bytes}
use Rattle.msgpack_first_bytes.proofs.Logic.{either}
use Rattle.msgpack_writing.specs.Put.{put, next as after}
use Rattle.msgpack_writing.proofs.Put.{wrote, through}
use Rattle.frames.specs.Cascade.{check}
use Rattle.frames.specs.Reading.{refuse, in_frame, size_of, by_size, frame_read}
use Rattle.frames.specs.declared.FrameAnswer.{FrameAnswer}
use Rattle.sessions.specs.Session.{carry_room, settled_by, fed, kept, go_on, carried_on, view_of}
use Rattle.sessions.specs.declared.Session.{Session}
use Rattle.sessions.specs.declared.SessionAnswer.{SessionAnswer}
use Rattle.frames.proofs.Sizes.{Told, size_told, size_nine}
use Rattle.frames.proofs.Judged.{judged}
use Rattle.sessions.proofs.Settled.{front}
use Rattle.sessions.proofs.Shown.{take-both, shown}

-- ---- lists

pub take_least : (n : ℕ) (x : Bytes) {m : ℕ} → m ≡ min n (length x) → take m x ≡ take n x
take_least n x e = rw e (take_min n x)

-- ---- the size number, over two pieces

module _ (x y z : Bytes) {a b : ℕ} (h : length z ≡ 9) (ea : a ≡ min 9 (length x)) (eb : b ≡ min (9 - a) (length y)) where
  nine : take (a + b) (put a (take b y) (put 0 (take a x) z)) ≡ take 9 (x ++ y)
  nine =
      let tx = take_least 9 x ea in
      let ty = take_least (9 - a) y eb in
      let lx : length (take a x) ≡ a = length-take-le a x (omega arith) in
      let ly : length (take b y) ≡ b = length-take-le b y (omega arith) in
      let v = wrote z 0 (take a x) (refl, refl) (omega arith) in
      let lv = v.long in
      let w = wrote (put 0 (take a x) z) a (take b y) (refl, refl) (omega arith) in
      let ev : after 0 (take a x) z ≡ a = v.end ∙ omega arith in
      let ew : after a (take b y) (put 0 (take a x) z) ≡ a + b = w.end ∙ omega arith in
      let tv : take a (put 0 (take a x) z) ≡ take a x = rw ev at (through v) in
      let tw = rw (ew, tv) at (through w) in
      let d : 9 - a ≡ 9 - length x = omega (arith, ea) in
      tw ∙ rw (tx, ty, d) (sym (take-both 9 x y))

  pub size_both : size_of (take (a + b) (put a (take b y) (put 0 (take a x) z))) ≡ size_of (x ++ y)
  size_both = ap size_of nine ∙ size_nine (x ++ y)

-- ---- what a feed answers, and leaves

module _ (b p : Bytes) where
  module _ {n k : ℕ} (e : Err (n, k) ≡ size_of (b ++ p)) where
    pub refused-stop : k ≡ settled_by (size_of (b ++ p))
    unfolding settled_by
    refused-stop = rw (← e)

    pub refused-read : refuse n ≡ frame_read (b ++ p)
    unfolding frame_read by_size
    refused-read = rw (← e)

    pub refused_settled : not (eqb n 1) ≡ not (eqb (frame_read (b ++ p)).number 1)
    unfolding refuse
    refused_settled = ap (λ (a : FrameAnswer). not (eqb a.number 1)) refused-read

  module _ {n k : ℕ} (e : Ok (n, k) ≡ size_of (b ++ p)) where
    pub promised_stop : k + n ≡ settled_by (size_of (b ++ p))
    unfolding settled_by
    promised_stop = rw (← e)

    pub promised_few : k + n ≤ carry_room
    promised_few =
        let t : Told (b ++ p) (Ok (n, k)) = subst (Told (b ++ p)) (sym e) (size_told (b ++ p)) in
        let i = t.0.1 in
        let j = t.1.few in
        omega arith

    -- all of it has come
    pub come : {held : ℕ} → held ≡ length b → leb (k + n - held) (length p) ≡ leb (k + n) (length (b ++ p))
    come {held} h =
        let l = length-append b p in
        ⊎_elim (λ i. rw (le-leb (k + n) (length (b ++ p)) i, le-leb (k + n - held) (length p) (omega arith)))
        (λ i. rw (lt-leb (k + n) (length (b ++ p)) i, lt-leb (k + n - held) (length p) (omega arith)))
        (either (k + n) (length (b ++ p)))

    read_by : frame_read (b ++ p) ≡ check (refuse 1) (leb (k + n) (length (b ++ p))) (in_frame (take (k + n) (b ++ p)) k)
    unfolding frame_read by_size
    read_by = rw (← e)

    pub promised_read : (f : Bytes) → (k + n ≤ length (b ++ p) → f ≡ take (k + n) (b ++ p)) → check (refuse 1) (leb (k + n) (length (b ++ p))) (in_frame f k) ≡ frame_read (b ++ p)
    unfolding check
    promised_read f h =
        let q = read_by in
        ⊎_elim (λ i. rw (q, le-leb (k + n) (length (b ++ p)) i, h i)) (λ i. rw (q, lt-leb (k + n) (length (b ++ p)) i)) (either (k + n) (length (b ++ p)))

    pub promised_settled : leb (k + n) (length (b ++ p)) ≡ not (eqb (frame_read (b ++ p)).number 1)
    unfolding check refuse
    promised_settled =
        let q = read_by in
        ⊎_elim (λ i. rw (q, le-leb (k + n) (length (b ++ p)) i, ne_eqb _ 1 (judged (take (k + n) (b ++ p)) k).settled))
        (λ i. rw (q, lt-leb (k + n) (length (b ++ p)) i)) (either (k + n) (length (b ++ p)))

  module _ {held : ℕ} {a : FrameAnswer} (l : held ≡ length b) (f : a ≡ frame_read (b ++ p)) where
    -- what is not settled has room
    pub waits : a.number ≡ 1 → held + length p ≤ carry_room
    waits e =
        let i = (front (b ++ p)).0 (sym (ap (λ (x : FrameAnswer). x.number) f) ∙ e) in
        let j = length-append b p in
        omega arith

    pub answer-is : (s : Session) {k : ℕ} {r : SessionAnswer} → k ≡ settled_by (size_of (b ++ p)) → r ≡ fed s held (length p) k a → r ≡ go_on s b p
    unfolding go_on
    answer-is s e r = rw (l, e, f) at r

  pub carry_is : (c : Bytes) {held k : ℕ} {settled : Bool} {d : Bytes} → held ≡ length b → k ≡ settled_by (size_of (b ++ p))
      → settled ≡ not (eqb (frame_read (b ++ p)).number 1) → d ≡ kept held p k settled c → d ≡ carried_on b p c
  unfolding carried_on
  carry_is c l e g d = rw (l, e, g) at d

-- the contents, from where the frame is shown
pub promised_answer : (p c : Bytes) (held : ℕ) {n k u : ℕ} {d f : Bytes} {a : FrameAnswer} → held ≤ length c → carry_room ≤ length c
    → Ok (n, k) ≡ size_of (take held c ++ p) → u ≡ k + n - held → d ≡ kept held p (k + n) (leb u (length p)) c → f ≡ view_of (ltb 0 held) (k + n) p d
    → a ≡ check (refuse 1) (leb u (length p)) (in_frame f k) → a ≡ frame_read (take held c ++ p)
promised_answer p c held {n} {k} {u} {d} {f} {a} h room e eu ed ef ea =
    let b = take held c in
    let l : held ≡ length b = sym (length-take-le held c h) in
    let g : leb u (length p) ≡ leb (k + n) (length (b ++ p)) = rw eu (come b p e l) in
    let few = promised_few b p e in
    rw g at ea ∙ promised_read b p e f (λ i.
    ef ∙ ap (view_of (ltb 0 held) (k + n) p) (ed ∙ ap (λ (t : Bool). kept held p (k + n) t c) (g ∙ le-leb (k + n) (length (b ++ p)) i))
    ∙ shown p c held (k + n) h (omega arith) i)

-- nothing is held
pub none-begun : (b p : Bytes) → length b ≡ 0 → size_of p ≡ size_of (b ++ p)
none-begun [] p e = refl
none-begun (x ∷ b) p e = absurd (omega arith)
