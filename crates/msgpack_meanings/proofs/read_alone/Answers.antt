-- Whole with its meaning, or 4 with its place.
use Rattle.std.specs.Prelude.{Err}
use Prim.Native.Nat.{ℕ}
use mathlib.Core.Path.{◌≡◌, sym, ap, ◌∙◌}
use Rattle.msgpack_first_bytes.specs.Bytes.{Bytes}
use Rattle.msgpack_values.specs.Value.{value}
use Rattle.msgpack_values.specs.Spoiled.{place_of, spoiled_at}
use Rattle.msgpack_values.specs.declared.OptionalNumber.{OptionalNumber}
use Rattle.msgpack_meanings.specs.declared.Alone.{Alone}
use Rattle.msgpack_meanings.specs.declared.Meaning.TheVariants.{Absent}
use Rattle.msgpack_meanings.specs.Meaning.{alone_depth, alone, alone_by}
use Rattle.msgpack_meanings.proofs.Whole.{shift_none}
use Rattle.msgpack_meanings.proofs.read_alone.Goals.{After-read_value-read}
use Rattle.msgpack_meanings.proofs.read_alone.Goals as goal

read-front : (c : After-read_value-read) → value alone_depth c.args.s.now ≡ c.read_value-read.result
read-front c = sym (c.read_value-read.ensures ∙ shift_none (value alone_depth c.args.s.now))

broken : (s : Bytes) {p : ℕ} {x : OptionalNumber} → value alone_depth s ≡ Err p → x ≡ spoiled_at alone_depth 0 s
    → ◌≡◌ {A = Alone} (record { number = 4; length = 0; meaning = Absent; place = x }) (alone s)
unfolding alone alone_by
broken s {p} {x} e q = rw (e, q)

pub meaning_of-requires : goal.meaning_of-requires
unfolding alone alone_by spoiled_at
meaning_of-requires c = read-front (goal.at.meaning_of-requires c).After-read_value-read ∙ c.in-Ok.is

pub returns-in-Ok : goal.returns-in-Ok
unfolding alone alone_by spoiled_at
returns-in-Ok c = rw (read-front (goal.at.returns-in-Ok c).After-read_value-read ∙ c.in-Ok.is, ← c.meaning_of.ensures)

pub returns-in-Err : goal.returns-in-Err
unfolding alone alone_by spoiled_at
returns-in-Err c = broken c.args.s.now (read-front (goal.at.returns-in-Err c).After-read_value-read ∙ c.in-Err.is)
    (c.place_of.ensures ∙ ap place_of c.read_value-read.ensures)
