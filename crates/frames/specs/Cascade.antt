-- The steps of a judgement in order: what comes first decides.
use Rattle.std.specs.Prelude.{ℕ, Bool, true, false, Ok, Err}
use Rattle.std.proofs.Math.Option.{Option, none, some}
use Rattle.msgpack_values.specs.Value.{Read}

-- the refusal where the test fails, else what comes next
unfoldable pub check : {A : Type 0} → A → Bool → A → A
check refusal true next = next
check refusal false next = refusal

-- the refusal where there is nothing, else what comes next, with it
unfoldable pub given : {A B : Type 0} → B → Option A → (A → B) → B
given refusal none next = refusal
given refusal (some x) next = next x

-- the refusal where the value is broken, else what comes next, with its length
unfoldable pub whole : {B : Type 0} → B → Read → (ℕ → B) → B
whole refusal (Ok n) next = next n
whole refusal (Err p) next = refusal
