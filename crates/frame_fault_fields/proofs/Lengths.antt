-- How long the words and the dump are at most. Assumes nothing.
use mathlib.Core.Path.{◌≡◌, refl}
use mathlib.Core.Bool.{Bool, true, false}
use mathlib.Core.List.{[], ◌++◌}
use Prim.Native.Nat.{ℕ, zero, suc, ◌+◌, ◌-◌, ◌*◌, ◌/◌, ◌%◌, ◌<◌, ◌≤◌}
use native.Mathlib.Omega.{arith}
use borrow.Author.Tests.{leb-true, eqb-true, eqb-false}
use lib.Dec.{leb, ltb, eqb}
use lib.ListN.{length, get_or, length-append, length-drop}
use Rattle.msgpack_first_bytes.specs.Bytes.{Bytes, pick}
use Rattle.msgpack_values.specs.declared.OptionalNumber.{OptionalNumber}
use Rattle.frame_listing_fields.specs.Text.{text}
use Rattle.frame_listing_fields.proofs.Decimal.{few}
use Rattle.frame_listing_fields.proofs.Names.{short, name-short}
use Rattle.frame_fault_fields.specs.Words.{refusals, words_of}
use Rattle.frame_fault_fields.specs.Dump.{is_at, between, column, margin, cell, cells, dump_start, dump}

-- ---- the words

pub words_short : (n : ℕ) → length (words_of n) ≤ 53
unfolding words_of refusals short
words_short n = name-short 53 refusals n tt

-- ---- the dump: four bytes for each of the frame's, and eight where a line begins

column-short : (i : ℕ) → i < 1000000 → length (column i) ≤ 8
unfolding column
column-short i h = let f = few 5 i (omega arith) in simp (length-append, length-drop) (omega arith)

margin-short : (i : ℕ) → i < 1000000 → (length (margin i) ≤ 8) × ((i % 16 ≡ 0 → ⊥) → length (margin i) ≡ 0)
margin-short i h = go (eqb (i % 16) 0) refl
  where
    go : (b : Bool) → eqb (i % 16) 0 ≡ b → (length (pick b (column i) []) ≤ 8) × ((i % 16 ≡ 0 → ⊥) → length (pick b (column i) []) ≡ 0)
    go true e = (column-short i h, λ z. absurd (z (eqb-true (i % 16) 0 e)))
    go false e = (omega arith, λ z. refl)

between-four : (m : Bool) (b : ℕ) → length (between m b) ≡ 4
unfolding between
between-four true b = refl
between-four false b = refl

cell-short : (f : Bytes) (p : OptionalNumber) (i : ℕ) → length (cell f p i) ≤ length (margin i) + 4
unfolding cell
cell-short f p i = go (ltb i (length f)) (is_at p i)
  where
    go : (a b : Bool) → length (pick a (margin i ++ between b (get_or f i 0)) (pick b (margin i ++ text ">  <") [])) ≤ length (margin i) + 4
    go true b = let e = between-four b (get_or f i 0) in simp length-append (omega arith)
    go false true = simp length-append (omega arith)
    go false false = omega arith

cells-short : (f : Bytes) (p : OptionalNumber) (i n : ℕ) → i % 16 ≡ 0 → i + n ≤ 999999 → length (cells f p i n) ≤ 4 * n + 8 * ((n + 15) / 16)
unfolding cells
cells-short f p i zero e h = omega arith
cells-short f p i (suc n) e h =
    let l = cells-short f p i n e (omega arith) in
    let c = cell-short f p (i + n) in
    let m = margin-short (i + n) (omega arith) in
    go (eqb ((i + n) % 16) 0) refl l c m
  where
    go : (b : Bool) → eqb ((i + n) % 16) 0 ≡ b → length (cells f p i n) ≤ 4 * n + 8 * ((n + 15) / 16) → length (cell f p (i + n)) ≤ length (margin (i + n)) + 4
        → (length (margin (i + n)) ≤ 8) × (((i + n) % 16 ≡ 0 → ⊥) → length (margin (i + n)) ≡ 0)
        → length (cells f p i n ++ cell f p (i + n)) ≤ 4 * suc n + 8 * ((suc n + 15) / 16)
    go true q l c m = let z = eqb-true ((i + n) % 16) 0 q in let y = m.0 in simp length-append (omega arith)
    go false q l c m = let z = m.1 (eqb-false ((i + n) % 16) 0 q) in simp length-append (omega arith)

start_even : (p : OptionalNumber) → dump_start p % 16 ≡ 0
unfolding dump_start
start_even p = go p.present
  where
    go : (b : Bool) → pick b (16 * (p.value / 16 - 2)) 0 % 16 ≡ 0
    go true = omega arith
    go false = omega arith

pub cells-few : (f : Bytes) (p : OptionalNumber) → dump_start p ≤ 65536 → length (cells f p (dump_start p) 80) ≤ 360
cells-few f p h = let l = cells-short f p (dump_start p) 80 (start_even p) (omega arith) in omega arith

pub dump-short : (f : Bytes) (p : OptionalNumber) → length (dump f p) ≤ 360
unfolding dump
dump-short f p = go (leb (dump_start p) 65536) refl
  where
    go : (b : Bool) → leb (dump_start p) 65536 ≡ b → length (pick b (cells f p (dump_start p) 80) []) ≤ 360
    go true e = cells-few f p (leb-true (dump_start p) 65536 e)
    go false e = omega arith
