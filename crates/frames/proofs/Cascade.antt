-- Each step of a judgement is its refusal or what comes next, with what the step found. Assumes nothing.
use Rattle.std.specs.Prelude.{Ok, Err}
use Prim.Native.Nat.{ℕ}
use mathlib.Core.Path.{◌≡◌, refl}
use mathlib.Core.Bool.{Bool, true, false}
use mathlib.Core.Option.{Option, none, some}
use Rattle.msgpack_values.specs.Value.{Read}
use Rattle.frames.specs.Cascade.{check, given, whole}

module _ {A : Type 0} (P : A → Type 0) {refusal : A} where
  pub by_check : {next : A} (b : Bool) → P refusal → (b ≡ true → P next) → P (check refusal b next)
  unfolding check
  by_check true p q = q refl
  by_check false p q = p

  pub by_given : {B : Type 0} {next : B → A} (x : Option B) → P refusal → ((a : B) → x ≡ some a → P (next a)) → P (given refusal x next)
  unfolding given
  by_given none p q = p
  by_given (some a) p q = q a refl

  pub by_whole : {next : ℕ → A} (x : Read) → ((k : ℕ) → x ≡ Err k → P refusal) → ((k : ℕ) → x ≡ Ok k → P (next k)) → P (whole refusal x next)
  unfolding whole
  by_whole (Ok k) p q = q k refl
  by_whole (Err k) p q = p k refl
