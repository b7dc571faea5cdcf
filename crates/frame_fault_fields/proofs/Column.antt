-- The column of a line: the digits as they were spelled, and the blanks before them. Assumes nothing.
use mathlib.Core.Path.{◌≡◌, ◌∙◌}
use mathlib.Core.List.{[], ◌∷◌, ◌++◌}
use Prim.Native.Nat.{ℕ, suc, ◌+◌, ◌-◌, ◌<◌, ◌≤◌}
use native.Mathlib.Omega.{arith}
use native.Mathlib.Numerals.{add-one}
use lib.ListN.{length, take, drop, length-append, length-drop}
use lib.Seq.{take_all}
use Rattle.msgpack_first_bytes.specs.Bytes.{Bytes}
use Rattle.msgpack_writing.specs.Put.{put, next}
use Rattle.msgpack_writing.proofs.Put.{Wrote, wrote, through}
use Rattle.frame_listing_fields.specs.Text.{text, decimal}
use Rattle.frame_listing_fields.specs.Steps.{ended}
use Rattle.frame_listing_fields.proofs.Decimal.{few}
use Rattle.frame_fault_fields.specs.Dump.{column}

-- the digits and a blank, `end` bytes of the array
pub record Spelled (i end : ℕ) (cur : Bytes) : Type 0 where
  pub are : take end cur ≡ ended i 32
  pub count : end ≡ length (decimal i) + 1
  pub few : end ≤ 7
  pub long : length cur ≡ 21

pub spelled : (i : ℕ) (old : Bytes) {cur : Bytes} {end : ℕ} → i < 1000000 → length old ≡ 21 → (end ≡ next 0 (ended i 32) old) × (cur ≡ put 0 (ended i 32) old) → Spelled i end cur
spelled i old {cur} {end} h l e =
    let f = few 5 i (omega arith) in
    let k : length (ended i 32) ≡ length (decimal i) + 1 = length-append (decimal i) (32 ∷ []) in
    let v : Wrote old 0 (ended i 32) cur end = wrote old 0 (ended i 32) e (omega arith) in
    record { are = through v; count = omega arith; few = omega arith; long = v.long ∙ l }

pub column_parts : {i end : ℕ} {cur : Bytes} → Spelled i end cur → column i ≡ text "\n" ++ (take (7 - end) (drop end (text "       ")) ++ take end cur)
unfolding column
column_parts {i} {end} {cur} s =
    let a : take (7 - end) (drop end (text "       ")) ≡ drop end (text "       ") = take_all (7 - end) (drop end (text "       ")) (simp length-drop (omega arith)) in
    let b : end ≡ suc (length (decimal i)) = s.count ∙ add-one (length (decimal i)) in
    rw (a, s.are, b)
