-- The calls' answers compute to document 01's.
use mathlib.Core.Path.{◌≡◌, refl}
use mathlib.Core.List.{map}
use Rattle.msgpack_first_bytes.specs.FirstByte.{form_of, same_kind}
use Rattle.msgpack_numbers.specs.Number.{number}
use Rattle.msgpack_values.specs.Value.{payload, sized, items, by_form, one, too_deep, container, value}
use Rattle.msgpack_values.specs.Pieces.{pieces, joined}
use Rattle.msgpack_scalars.specs.Integer.{due_in, due, natural_of, unsigned_by, unsigned, twos_complement, signed_of, signed_by, signed, adding, integer}
use Rattle.msgpack_scalars.specs.Header.{counted, header}
use Rattle.msgpack_writing.specs.Forms.{big_endian, unsigned_form, negative_form, string_header, array_header}
use Rattle.tuples.specs.Tuple.{plain, filling, fields_filling, fields_by, fields_of}
use Rattle.tuples.specs.Decoding.{on_got, then, made, nothing, value_from, any_value, integer_from, any_integer, less, floor, at_least, position, string_from, string, count_from, count, mark}
use Rattle.tuples.specs.Operation.{three, five, action_of, operation, before, and_more, operations, list_by, operations_of}
use Rattle.tuples.specs.Edit.{asℤ, ranged, spliced, became, suited, altered, edit_at, field_at, plan_of, plans, fits, limited, perform, step, run, operation_bytes, restored, inverse, undo_of}
use Rattle.tuples.specs.Call.{judged, on_run, update_of, limited_list, undo_list_of, update, undo, refusing, writing, delivered, spoiled_in, with_place, update_call, undo_call}
use Rattle.frames.specs.Cascade.{check}
use Rattle.frames.specs.Held.{number_in}
use Rattle.frames.specs.Keys.{optional, frame_at, empty_frame}
use Rattle.frames.specs.Reading.{refuse, size_by, size_of, by_size, frame_read}
use Rattle.known_examples.specs.Table.{answered, table}
use Rattle.known_examples.proofs.known_examples.Goals as goal

all-answered : map answered table ≡ table
unfolding frame_read by_size size_of size_by refuse check number_in optional frame_at empty_frame form_of same_kind number payload sized items by_form one too_deep container value pieces joined due_in due natural_of unsigned_by unsigned twos_complement signed_of signed_by signed adding integer counted header big_endian unsigned_form negative_form string_header array_header plain filling fields_filling fields_by fields_of on_got then made nothing value_from any_value integer_from any_integer less floor at_least position string_from string count_from count mark three five action_of operation before and_more operations list_by operations_of asℤ ranged spliced became suited altered edit_at field_at plan_of plans fits limited perform step run operation_bytes restored inverse undo_of judged on_run update_of limited_list undo_list_of update undo refusing writing delivered spoiled_in with_place update_call undo_call
all-answered = refl

pub returns : goal.returns
returns c = all-answered
