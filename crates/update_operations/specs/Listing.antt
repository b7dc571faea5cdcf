-- Inner: what the front of a list tells.
use Rattle.std.specs.Prelude.{ℕ, ◌-◌, ◌&&◌, leb, length, Some, None, Option}
use Rattle.msgpack_first_bytes.specs.Bytes.{Bytes, pick}
use Rattle.tuples.specs.Limits.{max_operations, max_list}
use Rattle.tuples.specs.Decoding.{Got, fails, gets, count}

-- what the front of a list tells: n operations, the first of them after the array's header, which s follows; or 12
abbrev pub front_by : Bytes → Got ℕ → Option (ℕ × ℕ)
front_by l fails = None
front_by l (gets n s) = pick (leb n max_operations) (Some (n, length l - length s)) None

unfoldable pub front : ℕ → Bytes → Option (ℕ × ℕ)
front base l = pick (leb base 1 && leb (length l) max_list) (front_by l (count l)) None
