-- Entries in three parts, of which the outer two lie side by side. Assumes nothing.
use mathlib.Core.Path.{◌≡◌, refl, sym, ap, ◌∙◌, subst}
use mathlib.Core.List.{List, [], ◌∷◌, ◌++◌, map, append_assoc}
use Prim.Native.Nat.{ℕ, ◌+◌, ◌-◌, ◌<◌, ◌≤◌}
use native.Mathlib.Omega.{arith}
use lib.ListN.{length, take, drop, get_or, length-drop, length-take, length-append}
use lib.Seq.{drop-drop, take_all}
use Rattle.msgpack_first_bytes.specs.Bytes.{Bytes}
use Rattle.msgpack_values.specs.Pieces.{joined}
use Rattle.msgpack_writing.specs.Put.{put, next}
use Rattle.msgpack_writing.proofs.Put.{Wrote, wrote, nothing, join as join-writes}
use Rattle.update_places.specs.Place.{start_of, length_of, bytes_from, fields_in, sum}
use Rattle.update_places.proofs.Chains.{chain-drop, chain-joined, chain_first, chain-last}
use Rattle.update_delivering.specs.Gathering.{Gathers, Side, Sides}
use Rattle.update_delivering.proofs.Runs.{Front, front_split, fields_split, whole_drop, whole_take}

pub side_none : {t l w : Bytes} {es : List ℕ} {out : Bytes} {at : ℕ} → Gathers t l w es out at → length es ≡ 0
    → (at ≡ next at (joined (fields_in t l w es)) out) × (out ≡ put at (joined (fields_in t l w es)) out)
unfolding fields_in joined
side_none {es = []} {out} {at} G e = nothing out at [] refl
side_none {es = x ∷ es} G e = absurd (omega arith)

-- ---- one side: from the first entry's start to the last one's end

module _ {t l w : Bytes} {es : List ℕ} {out : Bytes} {at : ℕ} (G : Gathers t l w es out at) (S : Side es) (h : 0 < length es)
    (from k m : ℕ) (a : from ≡ start_of (get_or es 0 0)) (b : k ≡ start_of (get_or es (length es - 1) 0)) (c : m ≡ length_of (get_or es (length es - 1) 0)) where
  ends : k + m ≡ from + sum (map length_of es)
  ends =
      let e = chain_first S.start es S.chain h in
      let f = chain-last S.start es S.chain h in
      omega arith

  pub side_after : from ≤ k + m
  side_after = let e = ends in omega arith

  side_bytes : bytes_from t l w from (k + m - from) ≡ joined (fields_in t l w es)
  side_bytes =
      let e : k + m - from ≡ sum (map length_of es) = let f = ends in omega arith in
      let f : from ≡ S.start = a ∙ chain_first S.start es S.chain h in
      rw (e, f) (sym (chain-joined t l w G.sources S.start es S.chain G.whole))

  pub side_written : {new : Bytes} {r : ℕ} → (r ≡ next at (bytes_from t l w from (k + m - from)) out) × (new ≡ put at (bytes_from t l w from (k + m - from)) out)
      → (r ≡ next at (joined (fields_in t l w es)) out) × (new ≡ put at (joined (fields_in t l w es)) out)
  side_written {new} {r} d = rw side_bytes at d

-- ---- the three parts

module _ {t l w : Bytes} {es : List ℕ} {out : Bytes} {at low tail : ℕ} (G : Gathers t l w es out at) (S : Sides es low tail)
    (last : ℕ) (h : low ≤ last) (k : last ≤ length es) (m : length es - tail ≤ last) where
  abbrev P : Bytes
  P = joined (fields_in t l w (take low es))

  abbrev Q : Bytes
  Q = joined (fields_in t l w (take (last - low) (drop low es)))

  abbrev R : Bytes
  R = joined (fields_in t l w (take (length es - last) (drop last es)))

  rest : take (length es - last) (drop last es) ≡ drop last es
  rest = take_all (length es - last) (drop last es) (let e = length-drop last es in omega arith)

  three : joined (fields_in t l w es) ≡ P ++ (Q ++ R)
  three =
      let e : low + (last - low) ≡ last = omega arith in
      fields_split t l w es last ∙ ap (λ (x : List ℕ). Front t l w es last ++ joined (fields_in t l w x)) (sym rest) ∙ ap (λ (x : Bytes). x ++ R) (ap (Front t l w es) (sym e) ∙ front_split t l w es low (last - low)) ∙ append_assoc P Q R

  sizes : length (joined (fields_in t l w es)) ≡ length P + (length Q + length R)
  sizes = ap length three ∙ length-append P (Q ++ R) ∙ ap (λ (n : ℕ). length P + n) (length-append Q R)

  pub rear_side : Side (take (length es - last) (drop last es))
  rear_side =
      let n = length es - tail in
      let e : drop (last - n) (drop n es) ≡ drop last es = drop-drop (last - n) n es ∙ ap (λ (x : ℕ). drop x es) (let q : n + (last - n) ≡ last = omega arith in q) in
      rw rest (record { start = S.rear.start + sum (map length_of (take (last - n) (drop n es))); chain = rw (← e) (chain-drop S.rear.start (drop n es) S.rear.chain (last - n)) })

  pub gathers_front : Gathers t l w (take low es) out at
  gathers_front =
      record {
        sources = G.sources;
        few = let e = length-take low es in omega (arith, G.few);
        whole = whole_take t l w es low G.whole;
        room = let e = sizes in omega (arith, G.room);
      }

  module _ {o₁ : Bytes} {a : ℕ} (u : (a ≡ next at P out) × (o₁ ≡ put at P out)) where
    first-written : Wrote out at P o₁ a
    first-written = wrote out at P u gathers_front.room

    pub gathers_middle : Gathers t l w (take (last - low) (drop low es)) o₁ a
    gathers_middle =
        let v = first-written in
        record {
          sources = G.sources;
          few = let e = length-take (last - low) (drop low es) in let f = length-drop low es in omega (arith, G.few);
          whole = whole_take t l w (drop low es) (last - low) (whole_drop t l w es low G.whole);
          room = let e = sizes in omega (arith, G.room, v.end, v.long);
        }

    module _ {o₂ : Bytes} {b : ℕ} (x : (b ≡ next a Q o₁) × (o₂ ≡ put a Q o₁)) where
      second_written : Wrote o₁ a Q o₂ b
      second_written = wrote o₁ a Q x gathers_middle.room

      pub gathers_rear : Gathers t l w (take (length es - last) (drop last es)) o₂ b
      gathers_rear =
          let v = first-written in
          let y = second_written in
          record {
            sources = G.sources;
            few = let f = length-take (length es - last) (drop last es) in let g = length-drop last es in omega (arith, G.few);
            whole = rw rest (whole_drop t l w es last G.whole);
            room = let e = sizes in omega (arith, G.room, v.end, v.long, y.end, y.long);
          }

      pub gathered_all : {o₃ : Bytes} {d : ℕ} → (d ≡ next b R o₂) × (o₃ ≡ put b R o₂) → Wrote out at (joined (fields_in t l w es)) o₃ d
      gathered_all {o₃} {d} y =
          subst (λ (z : Bytes). Wrote out at z o₃ d) (sym three) (join-writes first-written (join-writes second_written (wrote o₂ b R y gathers_rear.room)))
