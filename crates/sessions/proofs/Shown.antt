-- The frame that is shown is the begun one and what was missing of it. Assumes nothing.
use mathlib.Core.Path.{◌≡◌, refl, sym, ap, ◌∙◌}
use mathlib.Core.List.{◌++◌, append-nil}
use mathlib.Core.Bool.{true}
use mathlib.Core.Logic.{⊎_elim}
use Prim.Native.Nat.{ℕ, zero, suc, ◌+◌, ◌-◌, ◌≤◌}
use native.Mathlib.Omega.{arith}
use borrow.Author.Tests.{ne_eqb, lt-ltb}
use lib.Dec.{ltb}
use lib.ListN.{length, take, length-append}
use lib.Seq.{take_all, take-take, length-take-le, take-append-le, take-append-add}
use Rattle.msgpack_first_bytes.specs.Bytes.{Bytes}
use Rattle.msgpack_first_bytes.proofs.Logic.{either}
use Rattle.msgpack_writing.specs.Put.{put, next as after}
use Rattle.msgpack_writing.proofs.Put.{wrote, through}
use Rattle.sessions.specs.Session.{kept, view_of}

-- the front of two lists in a row
pub take-both : (n : ℕ) (x y : Bytes) → take n (x ++ y) ≡ take n x ++ take (n - length x) y
take-both n x y =
    ⊎_elim (λ h.
    let e : n - length x ≡ 0 = omega arith in
    rw (e, append-nil) (take-append-le n x y h)) (λ h.
    let e : n ≡ length x + (n - length x) = omega arith in
    ap (λ (k : ℕ). take k (x ++ y)) e ∙ take-append-add x y (n - length x) ∙ rw (take_all n x (omega arith))) (either n (length x))

-- the carry buffer, with the missing bytes of a frame, holds it whole
carry_holds : (c p : Bytes) (held stop : ℕ) → held ≤ length c → stop ≤ length c → stop - held ≤ length p
    → take stop (put held (take (stop - held) p) c) ≡ take stop (take held c ++ p)
carry_holds c p held stop h k l =
    let q = take (stop - held) p in
    let lq : length q ≡ stop - held = length-take-le (stop - held) p l in
    let w = wrote c held q (refl, refl) (omega arith) in
    let ew = w.end in
    let a = after held q c in
    let t = through w in
    let f : take stop (take a (put held q c)) ≡ take stop (put held q c) = take-take stop a (put held q c) (omega arith) in
    let lh : length (take held c) ≡ held = length-take-le held c h in
    let d : stop - length (take held c) ≡ stop - held = omega arith in
    sym f ∙ ap (take stop) t ∙ take-both stop (take held c) q
    ∙ rw (d, take-take (stop - held) (stop - held) p (omega arith), ← d) (sym (take-both stop (take held c) p))

pub shown : (p c : Bytes) (held stop : ℕ) → held ≤ length c → stop ≤ length c → stop ≤ length (take held c ++ p)
    → view_of (ltb 0 held) stop p (kept held p stop true c) ≡ take stop (take held c ++ p)
unfolding view_of kept
shown p c zero stop h k l = refl
shown p c (suc n) stop h k l =
    let i = length-append (take (suc n) c) p in
    let j = length-take-le (suc n) c h in
    rw (lt-ltb 0 (suc n) (omega arith), ne_eqb (suc n) 0 (λ e. omega arith)) (carry_holds c p (suc n) stop h k (omega arith))
