-- The buffer is as long as it was made.
use mathlib.Core.Path.{sym}
use Prim.Native.Nat.{ℕ}
use lib.ListN.{length-replicate}
use Rattle.program_listing.proofs.main.Goals as goal

pub slice_bounds-print_listing-end-2 : goal.slice_bounds-print_listing-end-2
slice_bounds-print_listing-end-2 c = sym (length-replicate {0} {A = ℕ} 1441792 0)
