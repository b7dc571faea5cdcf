-- What C sees of a written frame: the same answer as the other calls that write.
use Rattle.msgpack_values.specs.Spoiled.{no_place}
use Rattle.frames.specs.Writing.{Call}
use Rattle.tuples.specs.Call.{Result}

-- "13 to 16 also give the operation's index from 0; all others give 0 there": writing a frame has no operations
-- 02, 3/12: a place is given "never by the writer"
unfoldable pub result_of : Call → Result
result_of c = record { number = c.number; operation = 0; length = c.length; place = no_place; buffer = c.buffer }
