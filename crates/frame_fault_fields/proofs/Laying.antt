-- Pieces written one after the other, each where it has room. Assumes nothing.
use mathlib.Core.Path.{◌≡◌, refl}
use mathlib.Core.List.{[], ◌++◌}
use Prim.Native.Nat.{ℕ, ◌+◌, ◌≤◌}
use native.Mathlib.Omega.{arith}
use lib.ListN.{length, take, length-append}
use Rattle.msgpack_first_bytes.specs.Bytes.{Bytes}
use Rattle.msgpack_writing.specs.Put.{put, next}
use Rattle.msgpack_writing.proofs.Put.{Wrote, wrote, written, nothing, join, through}
use Rattle.frame_fault_fields.specs.Steps.{Lays}

pub piece : {old new : Bytes} {at r : ℕ} (p : Bytes) → (r ≡ next at p old) × (new ≡ put at p old) → Lays old at p new r
piece p e = record { laid = λ h. e }

pub none : (old : Bytes) (at : ℕ) → Lays old at [] old at
none old at = piece [] (nothing old at [] refl)

-- from the front of an array that has room
pub front : {old new : Bytes} {r : ℕ} (p : Bytes) → length p ≤ length old → Lays old 0 p new r → (take r new ≡ p) × (r ≤ length new)
front {old} {new} {r} p h e =
    let i : 0 + length p ≤ length old = omega arith in
    let w : Wrote old 0 p new r = wrote old 0 p (e.laid i) i in
    let l = w.end in
    let m = w.long in
    (through w, omega arith)

-- two in a row are one
pub also : {old cur new p q : Bytes} {at a b : ℕ} → Lays old at p cur a → Lays cur a q new b → Lays old at (p ++ q) new b
also {old} {cur} {new} {p} {q} {at} {a} {b} f g =
    record {
      laid = λ h.
          let l : length (p ++ q) ≡ length p + length q = length-append p q in
          let v : Wrote old at p cur a = wrote old at p (f.laid (omega arith)) (omega arith) in
          let u : a + length q ≤ length cur = omega arith in
          written (join v (wrote cur a q (g.laid u) u));
    }
