-- What a caller sees of a call: the answer, and the lent buffer afterwards.
use Rattle.std.specs.Prelude.{ℕ}
use Rattle.msgpack_first_bytes.specs.Bytes.{Bytes}
use Rattle.msgpack_values.specs.Spoiled.{no_place}
use Rattle.msgpack_values.specs.declared.OptionalNumber.{OptionalNumber}
use Rattle.tuples.specs.Call.{number_of, Result}
use Rattle.tuples.specs.Press.{PressResult}
use Rattle.tuples.specs.declared.Answer.{Answer}
use Rattle.tuples.specs.declared.PressAnswer.{PressAnswer}
use Rattle.tuples.specs.declared.Refusal.{Refusal}

abbrev pub seen : Answer → Bytes → Result
seen r out = record { number = r.number; operation = r.operation; length = r.length; place = r.place; buffer = out }

-- a refusal's answer, with the operation's index
abbrev pub refusal_of : Refusal → ℕ → Answer
refusal_of k i = record { number = number_of k; operation = i; length = 0; place = no_place }

-- an answer with another place
abbrev pub answer_at : OptionalNumber → Answer → Answer
answer_at p r = record { number = r.number; operation = r.operation; length = r.length; place = p }

-- of a press, both lent buffers
abbrev pub press_seen : PressAnswer → Bytes → Bytes → PressResult
press_seen r out un =
    record { number = r.number; operation = r.operation; length = r.length; undo_length = r.undo_length; place = r.place; buffer = out; undo_buffer = un }
