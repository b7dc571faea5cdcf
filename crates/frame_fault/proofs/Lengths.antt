-- How long a report is at most. Assumes nothing.
use mathlib.Core.Bool.{Bool, true, false}
use mathlib.Core.List.{◌++◌}
use Prim.Native.Nat.{ℕ, ◌+◌, ◌^◌, ◌<◌, ◌≤◌}
use native.Mathlib.Omega.{arith}
use lib.ListN.{length, length-append}
use Rattle.msgpack_first_bytes.specs.Bytes.{Bytes, pick}
use Rattle.msgpack_values.specs.declared.OptionalNumber.{OptionalNumber}
use Rattle.frame_listing.specs.Listing.{max_input}
use Rattle.frame_listing_fields.specs.Text.{text, decimal}
use Rattle.frame_listing_fields.proofs.Decimal.{few}
use Rattle.frame_fault.specs.Fault.{frame_line, refused_line, place_line, own, fault, clean_line, room}
use Rattle.frame_fault_fields.proofs.Lengths.{words_short, dump-short}

frame-short : (n at : ℕ) → n ≤ max_input + 1 → at ≤ max_input → length (frame_line n at) ≤ 45
unfolding frame_line
frame-short n at h k =
    let a = few 4 n (omega arith) in
    let b = few 4 at (omega arith) in
    simp length-append (omega arith)

refused-short : (n : ℕ) → n < 2 ^ 32 → length (refused_line n) ≤ 75
unfolding refused_line
refused-short n h =
    let a = few 9 n (omega arith) in
    let b = words_short n in
    simp length-append (omega arith)

place_short : (at : ℕ) (p : OptionalNumber) → at + p.value ≤ max_input → length (place_line at p) ≤ 40
unfolding place_line
place_short at p h = go p.present
  where
    go : (b : Bool)
        → length (pick b (text "place    " ++ (decimal p.value ++ (text ", byte " ++ (decimal (at + p.value) ++ text " of the input\n")))) (text "place    none\n")) ≤ 40
    go true =
        let a = few 4 p.value (omega arith) in
        let b = few 4 (at + p.value) (omega arith) in
        simp length-append (omega arith)
    go false = omega arith

pub fault-short : (n at : ℕ) (s : Bytes) (number : ℕ) (p : OptionalNumber) → n ≤ max_input + 1 → number < 2 ^ 32 → at + p.value ≤ max_input
    → length (fault n at s number p) ≤ room
unfolding fault
fault-short n at s number p h k l =
    let a = frame-short n at h (omega arith) in
    let b = refused-short number k in
    let c = place_short at p l in
    let d = dump-short (own s) p in
    simp length-append (omega arith)

pub clean_short : (n : ℕ) → n ≤ max_input → length (clean_line n) ≤ room
unfolding clean_line
clean_short n h = let a = few 4 n (omega arith) in simp length-append (omega arith)
