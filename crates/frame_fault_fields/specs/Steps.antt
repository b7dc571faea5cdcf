-- Inner: what a function that writes several pieces promises.
use Rattle.std.specs.Prelude.{◌≡◌, ℕ, ◌+◌, ◌≤◌, length}
use Rattle.msgpack_first_bytes.specs.Bytes.{Bytes}
use Rattle.msgpack_writing.specs.Put.{put, next}

-- where p has room from `at` on, it is written there, and r is the place after it
pub record Lays (old : Bytes) (at : ℕ) (p new : Bytes) (r : ℕ) : Type 0 where
  pub laid : at + length p ≤ length old → (r ≡ next at p old) × (new ≡ put at p old)
