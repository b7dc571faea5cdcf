-- `read_item` is one value, `read_items` the values of a container, one after the other. They call each other. Assumes nothing.
use Rattle.std.specs.Prelude.{Ok, Err}
use native.Mathlib.Omega.{arith}
use native.Mathlib.Nat.{add-zero}
use Prim.Native.Nat.{ℕ, suc, ◌-◌, ◌≤◌}
use mathlib.Core.Path.{◌≡◌, sym, ap, ◌∙◌}
use lib.ListN.{drop}
use Rattle.msgpack_first_bytes.specs.Bytes.{Bytes}
use Rattle.msgpack_first_bytes.proofs.Logic.{error_left}
use Rattle.msgpack_values.specs.Value.{shift, items, value}
use Rattle.msgpack_values.proofs.Laws as Laws
use Rattle.msgpack_values.proofs.+read_item_read_items.Goals as goal

-- at least one is left to read: it is broken, or it ends at e and the others follow
module _ (s : Bytes) (at n depth end left : ℕ) (m : ℕ) (f : left ≡ suc m)
    (i : (at ≤ end) × (shift at (items (value depth) n (drop at s)) ≡ shift end (items (value depth) left (drop end s)))) where
  more : shift at (items (value depth) n (drop at s)) ≡ shift end (items (value depth) (suc m) (drop end s))
  more = rw f at i.1

  broken : (p : ℕ) → Err p ≡ shift end (value depth (drop end s)) → Err p ≡ shift at (items (value depth) n (drop at s))
  broken p h = Laws.items-broken (value depth) s end m p h ∙ sym more

  whole : (e : ℕ) → Ok e ≡ shift end (value depth (drop end s))
      → (at ≤ e) × (shift at (items (value depth) n (drop at s)) ≡ shift e (items (value depth) m (drop e s)))
  whole e h =
      let g = Laws.shift-further end e (value depth (drop end s)) h in
      (omega (arith, g, i.0), more ∙ Laws.items-whole (value depth) s end m e h)

pub read_items-loop-left-preserved-in-Past : goal.read_items-loop-left-preserved-in-Past
read_items-loop-left-preserved-in-Past t c =
    let l = c.loop-left in
    let a = c.args in
    whole a.s.now a.at a.n a.depth l.end l.left (l.left - 1) (omega arith) l.invariant _ (rw c.in-Past.is at c.in_ok-next.ensures)

pub read_items-loop-left-preserved : goal.read_items-loop-left-preserved
read_items-loop-left-preserved t c =
    let l = c.loop-left in
    let a = c.args in
    let r = c.same_heads-run.ensures in
    let h = rw c.in-Headed.is at c.in_ok-next.ensures in
    let w = whole a.s.now a.at a.n a.depth l.end l.left (l.left - 1) (omega arith) l.invariant _ h.0 in
    (omega (arith, w.0, r.further), w.1 ∙ sym (r.same a.depth))

pub read_items-returns-in_err-next : goal.read_items-returns-in_err-next
read_items-returns-in_err-next t c =
    let l = c.loop-left in
    let a = c.args in
    rw (error_left _ _ c.from_residual.ensures.1) (broken a.s.now a.at a.n a.depth l.end l.left (l.left - 1) (omega arith) l.invariant _ c.in_err-next.ensures)

pub read_items-returns : goal.read_items-returns
unfolding items
read_items-returns t c = let l = c.loop-left in let e : l.left ≡ 0 = omega arith in sym (rw e at l.invariant.1 ∙ ap Ok (add-zero l.end))
