-- What the caller sees, for each way that the judgement ends. Assumes nothing.
use mathlib.Core.Path.{◌≡◌, refl, ap₂, ◌∙◌}
use mathlib.Core.Bool.{Bool, true, false, ◌&&◌}
use mathlib.Core.List.{List, ◌++◌}
use mathlib.Core.Option.{Option, none, some}
use Rattle.std.specs.Prelude.{Some, None}
use Rattle.msgpack_first_bytes.proofs.Logic.{impossible}
use Rattle.frame_rules.specs.Needs.{answer, needs_of}
use Prim.Native.Nat.{ℕ, ◌+◌, ◌<◌, ◌≤◌}
use native.Mathlib.Omega.{arith}
use borrow.Author.Tests.{le-leb, lt-leb}
use lib.ListN.{length, drop, length-append}
use Rattle.msgpack_first_bytes.specs.Bytes.{Bytes}
use Rattle.msgpack_writing.specs.Put.{put, next}
use Rattle.msgpack_writing.proofs.Lengths.{length-tagged}
use Rattle.msgpack_writing.proofs.Put.{wrote}
use Rattle.frames.specs.declared.Frame.{Frame}
use Rattle.frames.specs.Limits.{max_size}
use Rattle.frames.specs.Held.{all, suits, encoded, is_some, Item, locate}
use Rattle.frames.specs.Keys.{header_items, body_items}
use Rattle.frames.specs.Codes.{required}
use Rattle.frames.specs.Cascade.{check, given}
use Rattle.frames.specs.Writing.{contents, frame_form, sound, each, write_items, frame_write, Call, call_of, frame_write_call}
use Rattle.frame_items.specs.Content.{capped}
use Rattle.frame_judging.proofs.Lengths.{capped-within, capped_past}

-- what the answer says of the definition
pub code_unknown : (c : ℕ) → None ≡ needs_of c → required c ≡ none
unfolding needs_of answer
code_unknown c = go (required c)
  where
    go : (o : Option (List ℕ)) → None ≡ answer o → o ≡ none
    go none e = refl
    go (some ks) e = impossible (cc)

pub code_known : (c : ℕ) (keys : List ℕ) → Some keys ≡ needs_of c → required c ≡ some keys
unfolding needs_of answer
code_known c keys = go (required c)
  where
    go : (o : Option (List ℕ)) → Some keys ≡ answer o → o ≡ some keys
    go none e = impossible (cc)
    go (some ks) e = let q : keys ≡ ks = cc in rw q

-- nothing written
abbrev pub unwritten : ℕ → Bytes → Call
unwritten n old = record { number = n; length = 0; buffer = old }

abbrev pub contents_of : Frame → Bytes → Bytes
contents_of r s = contents (header_items r) (body_items r s)

pub both : (p : Item → Bool) (xs ys : List Item) {h b : Bool} → h ≡ all p xs → b ≡ all p ys → (h && b) ≡ each p xs ys
unfolding each
both p xs ys e g = ap₂ ◌&&◌ e g

form_long : (c : Bytes) → length (frame_form c) ≡ length c + 5
unfolding frame_form
form_long c = let e = length-tagged 0xce 4 (length c) in simp length-append (omega arith)

pub call_8 : (r : Frame) (s old : Bytes) → required r.code ≡ none → unwritten 8 old ≡ frame_write_call r s old
unfolding frame_write_call frame_write write_items given call_of
call_8 r s old e = rw e

-- the judgements over the items of a known code, as the code answers them
pub record Judged (r : Frame) (s : Bytes) (needs : List ℕ) (b4 b9 b10 : Bool) (n : ℕ) : Type 0 where
  pub known : required r.code ≡ some needs
  pub four : b4 ≡ each (λ (x : Item). sound x.held) (header_items r) (body_items r s)
  pub nine : b9 ≡ each (λ (x : Item). suits x.rule x.held) (header_items r) (body_items r s)
  pub ten : b10 ≡ all (λ (k : ℕ). is_some (encoded (locate (body_items r s) k))) needs
  pub size : n ≡ capped (length (contents_of r s))

module _ {r : Frame} {s : Bytes} (old : Bytes) {needs : List ℕ} {b4 b9 b10 : Bool} {n : ℕ} (j : Judged r s needs b4 b9 b10 n) where
  pub sized : n ≤ max_size → n ≡ length (contents_of r s)
  sized h = let z = j.size in z ∙ capped-within _ (omega arith)

  pub room : n ≤ max_size → n + 5 ≤ length old → length (frame_form (contents_of r s)) ≤ length old
  room h k = let z = sized h in let f = form_long (contents_of r s) in omega arith

  pub call_4 : b4 ≡ false → unwritten 4 old ≡ frame_write_call r s old
  unfolding frame_write_call frame_write write_items given check call_of
  call_4 e4 = rw (j.known, ← j.four, e4)

  pub call_9 : b4 ≡ true → b9 ≡ false → unwritten 9 old ≡ frame_write_call r s old
  unfolding frame_write_call frame_write write_items given check call_of
  call_9 e4 e9 = rw (j.known, ← j.four, e4, ← j.nine, e9)

  module _ (e4 : b4 ≡ true) (e9 : b9 ≡ true) where
    pub call_10 : b10 ≡ false → unwritten 10 old ≡ frame_write_call r s old
    unfolding frame_write_call frame_write write_items given check call_of
    call_10 e10 = rw (j.known, ← j.four, e4, ← j.nine, e9, ← j.ten, e10)

    pub call_3 : b10 ≡ true → max_size < n → unwritten 3 old ≡ frame_write_call r s old
    unfolding frame_write_call frame_write write_items given check call_of
    call_3 e10 h =
        let z = j.size in
        let k = capped_past (length (contents_of r s)) (omega arith) in
        rw (j.known, ← j.four, e4, ← j.nine, e9, ← j.ten, e10, lt-leb (length (contents_of r s)) max_size k)

    module _ (e10 : b10 ≡ true) (h : n ≤ max_size) where
      pub call_18 : length old < n + 5 → unwritten 18 old ≡ frame_write_call r s old
      unfolding frame_write_call frame_write write_items given check call_of
      call_18 k =
          let z = sized h in
          let f = form_long (contents_of r s) in
          rw (j.known, ← j.four, e4, ← j.nine, e9, ← j.ten, e10, le-leb (length (contents_of r s)) max_size (omega arith), lt-leb (length (frame_form (contents_of r s))) (length old) (omega arith))

      pub call_0 : n + 5 ≤ length old → {m : ℕ} {cur : Bytes} → (m ≡ next 0 (frame_form (contents_of r s)) old) × (cur ≡ put 0 (frame_form (contents_of r s)) old)
          → ◌≡◌ {A = Call} (record { number = 0; length = m; buffer = cur }) (frame_write_call r s old)
      unfolding frame_write_call frame_write write_items given check call_of
      call_0 k {m} {cur} e =
          let z = sized h in
          let f = frame_form (contents_of r s) in
          let g = room h k in
          let w = wrote old 0 f e (omega arith) in
          let y : 0 + length f ≡ length f = omega arith in
          let em : m ≡ length f = omega arith in
          let ec : cur ≡ f ++ drop (length f) old = rw y at w.is in
          rw (j.known, ← j.four, e4, ← j.nine, e9, ← j.ten, e10, le-leb (length (contents_of r s)) max_size (omega arith), le-leb (length f) (length old) g, em, ec)
