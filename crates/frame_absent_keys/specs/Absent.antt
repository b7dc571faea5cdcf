-- Document 02, 2/12: keys that are required nowhere, and what an absent one is.
use Rattle.std.specs.Prelude.{ℕ, ◌≡◌, false, take}
use Rattle.msgpack_first_bytes.specs.Bytes.{Bytes, pick}
use Rattle.msgpack_values.specs.declared.OptionalNumber.{OptionalNumber}
use Rattle.frames.specs.declared.Frame.{Frame}
use Rattle.frames.specs.Cascade.{given}
use Rattle.frames.specs.Codes.{required}
use Rattle.frames.specs.Maps.{has}
use Rattle.frames.specs.Reading.{frame_read}
use Rattle.frames.specs.Writing.{frame_write_call}
use Rattle.frame_absent_keys.specs.Apart.{apart, body_keys}

-- "an absent one counts as 0"
unfoldable pub counts_as : OptionalNumber → ℕ
counts_as n = pick n.present n.value 0

-- a key of the body and the record's field that shows it
pub record MayBeAbsent (k : ℕ) (field : Frame → OptionalNumber) : Type 0 where
  -- "required nowhere": by no code
  pub never_required : (c : ℕ) → given false (required c) (has k) ≡ false
  -- "the record still says that it was absent": present exactly where the key stands in the body
  pub told : (s : Bytes) → (frame_read s).number ≡ 0 → (field (frame_read s).frame).present ≡ has k (body_keys (apart s))
  -- in every record that reading answers, `value` is what the number counts as, so it can be used as it is
  pub counted : (s : Bytes) → (field (frame_read s).frame).value ≡ counts_as (field (frame_read s).frame)
  -- "writing it again leaves it out": of any record the key is written exactly where the record says present
  pub written : (r : Frame) (s old : Bytes) → (frame_write_call r s old).number ≡ 0
      → has k (body_keys (apart (take (frame_write_call r s old).length (frame_write_call r s old).buffer))) ≡ (field r).present

pub record AbsentKeys : Type 0 where
  pub index : MayBeAbsent 0x11 (λ (r : Frame). r.index)
  pub offset : MayBeAbsent 0x13 (λ (r : Frame). r.offset)
  pub iterator : MayBeAbsent 0x14 (λ (r : Frame). r.iterator)
  -- document 01: "0x15 index base: unsigned, 0 or 1; absent counts as 0"
  pub base : MayBeAbsent 0x15 (λ (r : Frame). r.index_base)
