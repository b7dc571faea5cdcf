-- What is before the position, the argument, and what is after what goes.
use Rattle.std.specs.Prelude.{◌≡◌, Some, None, Ok, Err, Option}
use Rattle.std.specs.Option.{ok_or}
use mathlib.Core.Path.{refl}
use Prim.Native.Nat.{ℕ, ◌+◌, ◌-◌}
use native.Mathlib.Omega.{arith}
use Rattle.msgpack_first_bytes.specs.Bytes.{Bytes}
use Rattle.msgpack_first_bytes.proofs.Logic.{error_left}
use Rattle.tuples.specs.Decoding.{string}
use Rattle.tuples.specs.declared.Refusal.{Refusal, TheVariants.Unsuited}
use Rattle.update_parts.specs.Part.{span_by}
use Rattle.update_altering.proofs.Strings as Strings
use Rattle.update_altering.proofs.splice.Goals as goal

unsuited : (r : Option (ℕ × ℕ)) {k : Refusal} → Err k ≡ ok_or r Unsuited → (r ≡ None) × (k ≡ Unsuited)
unsuited r {k} q = let i : r ≡ None = grind arith in let p = rw i at q in let j : k ≡ Unsuited = cc in (i, j)

pub returns-in_err-from-clause-edit : goal.returns-in_err-from-clause-edit
returns-in_err-from-clause-edit c =
    let a = c.args in
    let u = unsuited c.string_at.result c.in_err-from.ensures.value in
    rw (error_left _ _ c.from_residual.ensures.1, u.1, ← Strings.splice_unsuited a.position a.count a.argument.now a.field.now c.string_at.ensures u.0) (refl, refl)

cut : {r : Option (ℕ × ℕ)} {x y after rest : ℕ} (p n : ℕ) (a field : Bytes)
    → r ≡ span_by field (string field) → Ok (x, y) ≡ ok_or r Unsuited → after ≡ y - x - p → rest ≡ after - n → Strings.Cut p n a field x y after rest
cut {r} {x} {y} p n a field h q i j = let e : r ≡ Some (x, y) = grind arith in Strings.splice-is p n a field h e i j

pub returns-then-length-gt-MAX_TUPLE-clause-edit : goal.returns-then-length-gt-MAX_TUPLE-clause-edit
returns-then-length-gt-MAX_TUPLE-clause-edit c =
    let a = c.args in
    let h = cut a.position a.count a.argument.now a.field.now c.string_at.ensures c.in_ok-from.ensures.value c.saturating_sub-after.ensures c.saturating_sub-rest.ensures in
    Strings.splice_large h a.out.now (omega arith)

pub overflow_add-long : goal.overflow_add-long
overflow_add-long c =
    let a = c.args in
    let h = (cut a.position a.count a.argument.now a.field.now c.string_at.ensures c.in_ok-from.ensures.value c.saturating_sub-after.ensures c.saturating_sub-rest.ensures).header in
    let e = c.string_header_length.ensures in
    omega arith

pub returns-then-long-gt-MAX_TUPLE-clause-edit : goal.returns-then-long-gt-MAX_TUPLE-clause-edit
returns-then-long-gt-MAX_TUPLE-clause-edit c =
    let a = c.args in
    let h = cut a.position a.count a.argument.now a.field.now c.string_at.ensures c.in_ok-from.ensures.value c.saturating_sub-after.ensures c.saturating_sub-rest.ensures in
    let e = c.string_header_length.ensures in
    Strings.splice_large h a.out.now (omega arith)

pub returns-then-out-long-clause-edit : goal.returns-then-out-long-clause-edit
returns-then-out-long-clause-edit c =
    let a = c.args in
    let h = cut a.position a.count a.argument.now a.field.now c.string_at.ensures c.in_ok-from.ensures.value c.saturating_sub-after.ensures c.saturating_sub-rest.ensures in
    let e = c.string_header_length.ensures in
    Strings.splice_full h a.out.now (omega arith) (omega arith)

pub returns-clause-edit : goal.returns-clause-edit
returns-clause-edit c =
    let a = c.args in
    let h = cut a.position a.count a.argument.now a.field.now c.string_at.ensures c.in_ok-from.ensures.value c.saturating_sub-after.ensures c.saturating_sub-rest.ensures in
    let e = c.string_header_length.ensures in
    let k = h.order in
    let n = c.in_ok-from.to - c.in_ok-from.from - c.saturating_sub-after.result in
    let x : c.in_ok-from.from + n - c.in_ok-from.from ≡ n = omega arith in
    let y : c.in_ok-from.to - (c.in_ok-from.to - c.saturating_sub-rest.result) ≡ c.saturating_sub-rest.result = omega arith in
    Strings.splice-put h a.out.now (omega arith) (omega arith) (rw (x, y) at c.put_string.ensures)

pub returns-clause-some : goal.returns-clause-some
returns-clause-some c =
    let a = c.args in
    let h = cut a.position a.count a.argument.now a.field.now c.string_at.ensures c.in_ok-from.ensures.value c.saturating_sub-after.ensures c.saturating_sub-rest.ensures in
    let e = c.string_header_length.ensures in
    let k = h.order in
    let n = c.in_ok-from.to - c.in_ok-from.from - c.saturating_sub-after.result in
    let x : c.in_ok-from.from + n - c.in_ok-from.from ≡ n = omega arith in
    let y : c.in_ok-from.to - (c.in_ok-from.to - c.saturating_sub-rest.result) ≡ c.saturating_sub-rest.result = omega arith in
    Strings.splice_some h a.out.now (omega arith) (rw (x, y) at c.put_string.ensures)
