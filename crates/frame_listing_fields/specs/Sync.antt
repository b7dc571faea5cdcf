-- The sync of a frame as text.
use Rattle.msgpack_first_bytes.specs.Bytes.{Bytes, pick}
use Rattle.msgpack_values.specs.declared.OptionalNumber.{OptionalNumber}
use Rattle.frame_listing_fields.specs.Text.{text, decimal}

-- "an absent sync is `-`"
unfoldable pub sync_text : OptionalNumber → Bytes
sync_text x = pick x.present (decimal x.value) (text "-")
