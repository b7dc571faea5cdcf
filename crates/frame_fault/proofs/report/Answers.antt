-- Input that is too long; else the report as it was composed.
use mathlib.Core.Path.{sym}
use Prim.Native.Nat.{ℕ}
use native.Mathlib.Omega.{arith}
use lib.ListN.{length-replicate}
use lib.Seq.{length-take-le}
use Rattle.frame_listing.proofs.Standing.{next-within}
use Rattle.frame_fault.proofs.Search.{report-long, composed}
use Rattle.frame_fault.proofs.report.Goals as goal

pub returns-then-input-gt-MOST : goal.returns-then-input-gt-MOST
returns-then-input-gt-MOST c =
    let e = report-long c.args.input.now c.if-input-gt-MOST.true in
    record { value = rw e c.write_bytes.ensures; input_len_bound = (rw e (omega arith), next-within _ _ _ c.write_bytes.ensures.0) }

pub returns : goal.returns
returns c =
    let k = composed c.args.input.now c.if-input-gt-MOST.false (length-replicate {A = ℕ} 600 0) c.compose-length.ensures in
    record { value = rw (sym k.is) c.write_bytes-2.ensures; input_len_bound = (k.short, next-within _ _ _ c.write_bytes-2.ensures.0) }

pub slice_bounds-text-end : goal.slice_bounds-text-end
slice_bounds-text-end c = (composed c.args.input.now c.if-input-gt-MOST.false (length-replicate {A = ℕ} 600 0) c.compose-length.ensures).fits

pub slice_bounds-write_bytes-end-2 : goal.slice_bounds-write_bytes-end-2
slice_bounds-write_bytes-end-2 c =
    sym (length-take-le _ _ (composed c.args.input.now c.if-input-gt-MOST.false (length-replicate {A = ℕ} 600 0) c.compose-length.ensures).fits)
