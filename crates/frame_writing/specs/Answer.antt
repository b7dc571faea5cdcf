-- Inner: what a call answers.
use Rattle.std.specs.Prelude.{ℕ, Result, Ok, Err}
use Rattle.msgpack_first_bytes.specs.Bytes.{Bytes}
use Rattle.frames.specs.declared.Written.{Written}
use Rattle.frames.specs.Writing.{Call}
use Rattle.frame_writing.specs.declared.Refusal.{Refusal}
use Rattle.frame_writing.specs.declared.Refusal.TheVariants.{NoCode, Broken, Unsuited, Absent, TooLong, NoRoom}

-- "A refusal answers its number, with length 0"
abbrev pub refusal : ℕ → Written
refusal n = record { number = n; length = 0 }

-- a length, or a refusal's number
abbrev pub written_of : Result ℕ Refusal → Written
written_of (Ok n) = record { number = 0; length = n }
written_of (Err NoCode) = refusal 8
written_of (Err Broken) = refusal 4
written_of (Err Unsuited) = refusal 9
written_of (Err Absent) = refusal 10
written_of (Err TooLong) = refusal 3
written_of (Err NoRoom) = refusal 18

-- with the buffer afterwards
abbrev pub call : Written → Bytes → Call
call w b = record { number = w.number; length = w.length; buffer = b }
