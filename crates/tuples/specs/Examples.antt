-- Worked cases, computed: one for each rule, a sequence, and presses. (01's examples marked (P) stand in the crate known_examples.)
use Rattle.std.specs.Prelude.{ℕ, ◌-◌, ◌≡◌, refl, List, [], ◌∷◌, ◌++◌, map, length, replicate}
use Rattle.std.proofs.Math.Option.{Option, none, some}
use Rattle.msgpack_first_bytes.specs.Bytes.{Bytes}
use Rattle.msgpack_first_bytes.specs.FirstByte.{form_of, same_kind}
use Rattle.msgpack_numbers.specs.Number.{number}
use Rattle.msgpack_values.specs.Value.{payload, sized, items, by_form, one, too_deep, container, value}
use Rattle.msgpack_values.specs.Pieces.{pieces, joined}
use Rattle.msgpack_values.specs.Spoiled.{no_place, at_place, spoiled_at}
use Rattle.msgpack_values.specs.declared.OptionalNumber.{OptionalNumber}
use Rattle.msgpack_scalars.specs.Integer.{due_in, due, natural_of, unsigned_by, unsigned, twos_complement, signed_of, signed_by, signed, adding, integer}
use Rattle.msgpack_scalars.specs.Header.{counted, header}
use Rattle.msgpack_writing.specs.Forms.{big_endian, unsigned_form, negative_form, string_header, array_header}
use Rattle.tuples.specs.Tuple.{plain, filling, fields_filling, fields_by, fields_of}
use Rattle.tuples.specs.Decoding.{on_got, then, made, nothing, value_from, any_value, integer_from, any_integer, less, floor, at_least, position, string_from, string, count_from, count, mark}
use Rattle.tuples.specs.Operation.{three, five, action_of, operation, before, and_more, operations, list_by, operations_of}
use Rattle.tuples.specs.Edit.{asℤ, ranged, spliced, became, suited, altered, edit_at, field_at, plan_of, plans, fits, limited, perform, step, run, operation_bytes, restored, inverse, undo_of}
use Rattle.tuples.specs.Call.{judged, on_run, update_of, limited_list, undo_list_of, update, undo, Result, refusing, writing, delivered, spoiled_in, with_place, update_call, undo_call}
use Rattle.tuples.specs.Sequence.{Event, updating, taking_back, OnPile, State, start, on_answer, goes_in, take_back_call, after_taking_back, state_after}
use Rattle.tuples.specs.Press.{pressing, press, PressResult, declining, writing_both, pressed, placed, press_call}

-- the buffer that each call is lent, and what its caller sees of w written into it, and of a refusal
abbrev pub room : Bytes
room = replicate 16 0xee

abbrev pub accepted : Bytes → Result
accepted w = record { number = 0; operation = 0; length = length w; place = no_place; buffer = w ++ replicate (16 - length w) 0xee }

abbrev pub refused : ℕ → ℕ → Result
refused k i = record { number = k; operation = i; length = 0; place = no_place; buffer = room }

-- inputs, and what the update call and the undo call show of them
pub record Case : Type 0 where
  pub tuple : Bytes
  pub list : Bytes
  pub base : ℕ
  pub updates : Result
  pub undoes : Result

abbrev pub case : Bytes → Bytes → ℕ → Bytes → Bytes → Case
case t l b w u = record { tuple = t; list = l; base = b; updates = accepted w; undoes = accepted u }

abbrev pub refused_case : Bytes → Bytes → ℕ → ℕ → ℕ → Case
refused_case t l b k i = record { tuple = t; list = l; base = b; updates = refused k i; undoes = refused k i }

-- .. with a place
abbrev pub spoiled_case : Bytes → Bytes → ℕ → ℕ → ℕ → Case
spoiled_case t l b k p =
    let r : Result = record { number = k; operation = 0; length = 0; place = at_place p; buffer = room } in
    record { tuple = t; list = l; base = b; updates = r; undoes = r }

-- the case of the same inputs that the calls make
abbrev pub computed : Case → Case
computed c =
    record {
      tuple = c.tuple;
      list = c.list;
      base = c.base;
      updates = update_call c.tuple c.list c.base room;
      undoes = undo_call c.tuple c.list c.base room;
    }

abbrev pub long_undo : Bytes
long_undo = 0xdc ∷ 0x00 ∷ 0x21 ∷ joined (replicate 32 (0x93 ∷ 0xa1 ∷ 0x21 ∷ 0x00 ∷ 0x07 ∷ [])) ++ (0x93 ∷ 0xa1 ∷ 0x23 ∷ 0x00 ∷ 0x21 ∷ [])

-- one for each rule
abbrev pub rules : List Case
rules =
    -- a longer header or number than needed is no error, in tuple, list or operation
    case (0xdd ∷ 0x00 ∷ 0x00 ∷ 0x00 ∷ 0x01 ∷ 0x07 ∷ []) (0xdc ∷ 0x00 ∷ 0x01 ∷ 0xdd ∷ 0x00 ∷ 0x00 ∷ 0x00 ∷ 0x03 ∷ 0xa1 ∷ 0x2b ∷ 0xd3 ∷ 0x00 ∷ 0x00 ∷ 0x00 ∷ 0x00 ∷ 0x00 ∷ 0x00 ∷ 0x00 ∷ 0x00 ∷ 0xcc ∷ 0x01 ∷ []) 0
    (0x91 ∷ 0x08 ∷ []) (0x91 ∷ 0x93 ∷ 0xa1 ∷ 0x3d ∷ 0x00 ∷ 0x07 ∷ [])
    -- each operation meets what the one before left
    ∷ case (0x93 ∷ 0x01 ∷ 0x02 ∷ 0x03 ∷ []) (0x92 ∷ 0x93 ∷ 0xa1 ∷ 0x23 ∷ 0x00 ∷ 0x01 ∷ 0x93 ∷ 0xa1 ∷ 0x2b ∷ 0x00 ∷ 0x05 ∷ []) 0
    (0x92 ∷ 0x07 ∷ 0x03 ∷ []) (0x92 ∷ 0x93 ∷ 0xa1 ∷ 0x3d ∷ 0x00 ∷ 0x02 ∷ 0x93 ∷ 0xa1 ∷ 0x21 ∷ 0x00 ∷ 0x01 ∷ [])
    -- numbers from 1; the undo list counts from 0
    ∷ case (0x91 ∷ 0x05 ∷ []) (0x91 ∷ 0x93 ∷ 0xa1 ∷ 0x2b ∷ 0x01 ∷ 0x01 ∷ []) 1
    (0x91 ∷ 0x06 ∷ []) (0x91 ∷ 0x93 ∷ 0xa1 ∷ 0x3d ∷ 0x00 ∷ 0x05 ∷ [])
    -- a splice past the end, its position from 1
    ∷ case (0x91 ∷ 0xa2 ∷ 0x61 ∷ 0x62 ∷ []) (0x91 ∷ 0x95 ∷ 0xa1 ∷ 0x3a ∷ 0x01 ∷ 0x02 ∷ 0x09 ∷ 0xa1 ∷ 0x7a ∷ []) 1
    (0x91 ∷ 0xa2 ∷ 0x61 ∷ 0x7a ∷ []) (0x91 ∷ 0x93 ∷ 0xa1 ∷ 0x3d ∷ 0x00 ∷ 0xa2 ∷ 0x61 ∷ 0x62 ∷ [])
    ∷ case (0x91 ∷ 0xa2 ∷ 0x61 ∷ 0x62 ∷ []) (0x91 ∷ 0x95 ∷ 0xa1 ∷ 0x3a ∷ 0x00 ∷ 0x09 ∷ 0x00 ∷ 0xa1 ∷ 0x7a ∷ []) 0
    (0x91 ∷ 0xa3 ∷ 0x61 ∷ 0x62 ∷ 0x7a ∷ []) (0x91 ∷ 0x93 ∷ 0xa1 ∷ 0x3d ∷ 0x00 ∷ 0xa2 ∷ 0x61 ∷ 0x62 ∷ [])
    -- `&`, `|`, `!`
    ∷ case (0x91 ∷ 0x07 ∷ []) (0x91 ∷ 0x93 ∷ 0xa1 ∷ 0x26 ∷ 0x00 ∷ 0x05 ∷ []) 0
    (0x91 ∷ 0x05 ∷ []) (0x91 ∷ 0x93 ∷ 0xa1 ∷ 0x3d ∷ 0x00 ∷ 0x07 ∷ [])
    ∷ case (0x91 ∷ 0x05 ∷ []) (0x91 ∷ 0x93 ∷ 0xa1 ∷ 0x7c ∷ 0x00 ∷ 0x08 ∷ []) 0
    (0x91 ∷ 0x0d ∷ []) (0x91 ∷ 0x93 ∷ 0xa1 ∷ 0x3d ∷ 0x00 ∷ 0x05 ∷ [])
    ∷ case (0x91 ∷ 0x05 ∷ []) (0x91 ∷ 0x93 ∷ 0xa1 ∷ 0x21 ∷ 0x00 ∷ 0xc0 ∷ []) 0
    (0x92 ∷ 0xc0 ∷ 0x05 ∷ []) (0x91 ∷ 0x93 ∷ 0xa1 ∷ 0x23 ∷ 0x00 ∷ 0x01 ∷ [])
    -- an assigned field is the argument's own bytes, though a shorter form would do
    ∷ case (0x91 ∷ 0x01 ∷ []) (0x91 ∷ 0x93 ∷ 0xa1 ∷ 0x3d ∷ 0x00 ∷ 0xcc ∷ 0x05 ∷ []) 0
    (0x91 ∷ 0xcc ∷ 0x05 ∷ []) (0x91 ∷ 0x93 ∷ 0xa1 ∷ 0x3d ∷ 0x00 ∷ 0x01 ∷ [])
    -- fields 12 and 13 deep
    ∷ case (0x91 ∷ replicate 12 0x91 ++ (0x07 ∷ [])) (0x90 ∷ []) 0
    (0x91 ∷ replicate 12 0x91 ++ (0x07 ∷ [])) (0x90 ∷ [])
    ∷ spoiled_case (0x91 ∷ replicate 13 0x91 ++ (0x07 ∷ [])) (0x90 ∷ []) 0 11 13
    -- 11: no array, bytes left over, too few, broken, also where the list is outside the rules too
    ∷ spoiled_case [] (0x90 ∷ []) 0 11 0
    ∷ refused_case (0x81 ∷ 0x01 ∷ 0x02 ∷ []) (0x90 ∷ []) 0 11 0
    ∷ refused_case (0x91 ∷ 0x01 ∷ 0x02 ∷ []) (0x90 ∷ []) 0 11 0
    ∷ spoiled_case (0x92 ∷ 0x01 ∷ []) (0x90 ∷ []) 0 11 2
    ∷ spoiled_case (0x91 ∷ 0xc1 ∷ []) (0x90 ∷ []) 0 11 1
    ∷ spoiled_case (0x91 ∷ 0xc1 ∷ []) (0xc1 ∷ []) 2 11 1
    -- "whichever other cause stands beside it": no array, more than 64 fields, more than 16,384 bytes; of these alone, no place
    ∷ spoiled_case (0x81 ∷ 0x01 ∷ 0xc1 ∷ []) (0x90 ∷ []) 0 11 2
    ∷ spoiled_case (0xdc ∷ 0x00 ∷ 0x41 ∷ replicate 64 0x07 ++ (0xc1 ∷ [])) (0x90 ∷ []) 0 11 67
    ∷ refused_case (0xdc ∷ 0x00 ∷ 0x41 ∷ replicate 65 0x07) (0x90 ∷ []) 0 11 0
    ∷ spoiled_case (0x92 ∷ 0xc5 ∷ 0x3f ∷ 0xfc ∷ replicate 0x3ffc 0x00 ++ (0xc1 ∷ [])) (0x90 ∷ []) 0 11 16384
    ∷ refused_case (0x92 ∷ 0xc5 ∷ 0x3f ∷ 0xfc ∷ replicate 0x3ffc 0x00 ++ (0x07 ∷ [])) (0x90 ∷ []) 0 11 0
    -- 12: base, shape, mark, field number, argument, p below 0; also where an operation before it would be refused
    ∷ refused_case (0x91 ∷ 0x01 ∷ []) (0x90 ∷ []) 2 12 0
    ∷ refused_case (0x91 ∷ 0x01 ∷ []) (0x90 ∷ 0x00 ∷ []) 0 12 0
    ∷ refused_case (0x91 ∷ 0x01 ∷ []) (0x91 ∷ 0x92 ∷ 0xa1 ∷ 0x2b ∷ 0x00 ∷ []) 0 12 0
    ∷ refused_case (0x91 ∷ 0x01 ∷ []) (0x91 ∷ 0x95 ∷ 0xa1 ∷ 0x2b ∷ 0x00 ∷ 0x01 ∷ 0x01 ∷ 0x01 ∷ []) 0 12 0
    ∷ refused_case (0x91 ∷ 0x01 ∷ []) (0x91 ∷ 0x93 ∷ 0xa1 ∷ 0x3a ∷ 0x00 ∷ 0x01 ∷ []) 0 12 0
    ∷ refused_case (0x91 ∷ 0x01 ∷ []) (0x91 ∷ 0x93 ∷ 0xd9 ∷ 0x01 ∷ 0x2b ∷ 0x00 ∷ 0x01 ∷ []) 0 12 0
    ∷ refused_case (0x91 ∷ 0x01 ∷ []) (0x91 ∷ 0x93 ∷ 0xa1 ∷ 0x2b ∷ 0xc0 ∷ 0x01 ∷ []) 0 12 0
    ∷ refused_case (0x91 ∷ 0x01 ∷ []) (0x91 ∷ 0x93 ∷ 0xa1 ∷ 0x2b ∷ 0x00 ∷ 0xc0 ∷ []) 0 12 0
    ∷ refused_case (0x91 ∷ 0x01 ∷ []) (0x91 ∷ 0x93 ∷ 0xa1 ∷ 0x26 ∷ 0x00 ∷ 0xff ∷ []) 0 12 0
    ∷ refused_case (0x91 ∷ 0x01 ∷ []) (0x91 ∷ 0x93 ∷ 0xa1 ∷ 0x23 ∷ 0x00 ∷ 0x00 ∷ []) 0 12 0
    ∷ spoiled_case (0x91 ∷ 0x01 ∷ []) (0x91 ∷ 0x93 ∷ 0xa1 ∷ 0x3d ∷ 0x00 ∷ replicate 13 0x91 ++ (0x07 ∷ [])) 0 12 17
    ∷ refused_case (0x91 ∷ 0xa1 ∷ 0x61 ∷ []) (0x91 ∷ 0x95 ∷ 0xa1 ∷ 0x3a ∷ 0x01 ∷ 0x00 ∷ 0x01 ∷ 0xa0 ∷ []) 1 12 0
    ∷ refused_case (0x91 ∷ 0x01 ∷ []) (0x92 ∷ 0x93 ∷ 0xa1 ∷ 0x2b ∷ 0x09 ∷ 0x01 ∷ 0x93 ∷ 0xa1 ∷ 0x2b ∷ 0x09 ∷ 0x90 ∷ []) 0 12 0
    -- its place: where the list is broken, though the mark before it or after it is wrong, the index base is 7, or it is too long
    ∷ spoiled_case (0x91 ∷ 0x01 ∷ []) [] 0 12 0
    ∷ spoiled_case (0x91 ∷ 0x01 ∷ []) (0x92 ∷ 0x93 ∷ 0xa1 ∷ 0x3f ∷ 0x00 ∷ 0x01 ∷ 0x93 ∷ 0xa1 ∷ 0x2b ∷ 0x00 ∷ 0xc1 ∷ []) 0 12 10
    ∷ spoiled_case (0x91 ∷ 0x01 ∷ []) (0x92 ∷ 0x93 ∷ 0xa1 ∷ 0x2b ∷ 0x00 ∷ 0xc1 ∷ 0x93 ∷ 0xa1 ∷ 0x3f ∷ 0x00 ∷ 0x01 ∷ []) 0 12 5
    ∷ spoiled_case (0x91 ∷ 0x01 ∷ []) (0x91 ∷ 0x93 ∷ 0xa1 ∷ 0x2b ∷ 0x00 ∷ []) 7 12 5
    ∷ spoiled_case (0x91 ∷ 0x01 ∷ []) (0x91 ∷ 0x93 ∷ 0xa1 ∷ 0x3d ∷ 0x00 ∷ 0xc5 ∷ 0x90 ∷ 0x00 ∷ replicate 0x8000 0x00) 0 12 32776
    -- .. is no array, has more than 64 operations, or is too deep but in an argument
    ∷ spoiled_case (0x91 ∷ 0x01 ∷ []) (0x81 ∷ 0x01 ∷ 0xc1 ∷ []) 0 12 2
    ∷ spoiled_case (0x91 ∷ 0x01 ∷ []) (0xdc ∷ 0x00 ∷ 0x41 ∷ joined (replicate 64 (0x93 ∷ 0xa1 ∷ 0x3d ∷ 0x00 ∷ 0x07 ∷ [])) ++ (0xc1 ∷ [])) 0 12 323
    ∷ spoiled_case (0x91 ∷ 0x01 ∷ []) (replicate 15 0x91) 0 12 14
    -- no place: more than 64 operations or 32,768 bytes alone; a wrong mark, beside an argument 12 deep; bytes left over, whatever they are
    ∷ refused_case (0x91 ∷ 0x01 ∷ []) (0xdc ∷ 0x00 ∷ 0x41 ∷ joined (replicate 65 (0x93 ∷ 0xa1 ∷ 0x3d ∷ 0x00 ∷ 0x07 ∷ []))) 0 12 0
    ∷ refused_case (0x91 ∷ 0x01 ∷ []) (0x91 ∷ 0x93 ∷ 0xa1 ∷ 0x3d ∷ 0x00 ∷ 0xc5 ∷ 0x80 ∷ 0x00 ∷ replicate 0x8000 0x00) 0 12 0
    ∷ refused_case (0x91 ∷ 0x01 ∷ []) (0x91 ∷ 0x93 ∷ 0xa1 ∷ 0x3f ∷ 0x00 ∷ replicate 12 0x91 ++ (0x07 ∷ [])) 0 12 0
    ∷ refused_case (0x91 ∷ 0x01 ∷ []) (0x90 ∷ 0xc1 ∷ []) 0 12 0
    -- 13, with the operation's index: past n, below 0
    ∷ refused_case (0x91 ∷ 0x01 ∷ []) (0x91 ∷ 0x93 ∷ 0xa1 ∷ 0x3d ∷ 0x02 ∷ 0x09 ∷ []) 0 13 0
    ∷ refused_case (0x91 ∷ 0x01 ∷ []) (0x92 ∷ 0x93 ∷ 0xa1 ∷ 0x3d ∷ 0x00 ∷ 0x05 ∷ 0x93 ∷ 0xa1 ∷ 0x23 ∷ 0x01 ∷ 0x01 ∷ []) 0 13 1
    ∷ refused_case (0x91 ∷ 0x01 ∷ []) (0x91 ∷ 0x93 ∷ 0xa1 ∷ 0x2b ∷ 0xff ∷ 0x01 ∷ []) 0 13 0
    ∷ refused_case (0x91 ∷ 0x01 ∷ []) (0x91 ∷ 0x93 ∷ 0xa1 ∷ 0x21 ∷ 0x00 ∷ 0x01 ∷ []) 1 13 0
    -- 14: type, sign; 15 below the range
    ∷ refused_case (0x91 ∷ 0xc3 ∷ []) (0x91 ∷ 0x93 ∷ 0xa1 ∷ 0x2b ∷ 0x00 ∷ 0x01 ∷ []) 0 14 0
    ∷ refused_case (0x91 ∷ 0xff ∷ []) (0x91 ∷ 0x93 ∷ 0xa1 ∷ 0x26 ∷ 0x00 ∷ 0x01 ∷ []) 0 14 0
    ∷ refused_case (0x91 ∷ 0x01 ∷ []) (0x91 ∷ 0x95 ∷ 0xa1 ∷ 0x3a ∷ 0x00 ∷ 0x00 ∷ 0x01 ∷ 0xa0 ∷ []) 0 14 0
    ∷ refused_case (0x91 ∷ 0xd3 ∷ 0x80 ∷ 0x00 ∷ 0x00 ∷ 0x00 ∷ 0x00 ∷ 0x00 ∷ 0x00 ∷ 0x00 ∷ []) (0x91 ∷ 0x93 ∷ 0xa1 ∷ 0x2d ∷ 0x00 ∷ 0x01 ∷ []) 0 15 0
    -- 64 fields pass, and do not fit the buffer: 18; a 65th: 16
    ∷ record { tuple = 0xdc ∷ 0x00 ∷ 0x40 ∷ replicate 64 0x07; list = 0x90 ∷ []; base = 0; updates = refused 18 0; undoes = accepted (0x90 ∷ []) }
    ∷ refused_case (0xdc ∷ 0x00 ∷ 0x40 ∷ replicate 64 0x07) (0x91 ∷ 0x93 ∷ 0xa1 ∷ 0x21 ∷ 0x00 ∷ 0x01 ∷ []) 0 16 0
    -- 16 is counted with the shortest header of the fields after the operation: the 16th field makes it two bytes longer
    ∷ refused_case (0x9f ∷ replicate 14 0x07 ++ (0xc5 ∷ 0x3f ∷ 0xec ∷ replicate 0x3fec 0x00)) (0x91 ∷ 0x93 ∷ 0xa1 ∷ 0x3d ∷ 0x0f ∷ 0x09 ∷ []) 0 16 0
    -- 32 fields inserted, then all 33 removed: an undo list of 65 operations, which does not fit the buffer either
    ∷ record { tuple = 0x91 ∷ 0x01 ∷ []; list = long_undo; base = 0; updates = accepted (0x90 ∷ []); undoes = refused 17 0 }
    ∷ []

-- a sequence: an update on a tuple with a long header; one refused; one from base 1; one whose undo list is too long, so
-- that it does not go in; one with a short buffer; then takings back, with a short buffer, with room, with just enough, on an empty pile
abbrev pub first : Bytes
first = 0xdd ∷ 0x00 ∷ 0x00 ∷ 0x00 ∷ 0x01 ∷ 0xcd ∷ 0x00 ∷ 0x05 ∷ []

abbrev pub events : List Event
events =
    updating (0x91 ∷ 0x93 ∷ 0xa1 ∷ 0x2b ∷ 0x00 ∷ 0x01 ∷ []) 0 room
    ∷ updating (0x91 ∷ 0x93 ∷ 0xa1 ∷ 0x23 ∷ 0x07 ∷ 0x01 ∷ []) 0 room
    ∷ updating (0x91 ∷ 0x93 ∷ 0xa1 ∷ 0x21 ∷ 0x01 ∷ 0x2a ∷ []) 1 room
    ∷ updating long_undo 0 room
    ∷ updating (0x91 ∷ 0x93 ∷ 0xa1 ∷ 0x23 ∷ 0x00 ∷ 0x01 ∷ []) 0 (0x00 ∷ [])
    ∷ taking_back (0x00 ∷ [])
    ∷ taking_back room
    ∷ taking_back (replicate 4 0xee)
    ∷ taking_back room
    ∷ []

-- of an event: what its call answers, if there is one; the tuple and the undo lists of the pile that it leaves
pub record Shown : Type 0 where
  pub answer : Option Result
  pub tuple : Bytes
  pub lists : List Bytes

abbrev pub shown : Option Result → Bytes → List Bytes → Shown
shown a t ls = record { answer = a; tuple = t; lists = ls }

abbrev pub top_answer : State → List OnPile → Bytes → Option Result
top_answer s [] out = none
top_answer s (top ∷ below) out = some (take_back_call s top out)

abbrev pub answer_of : State → Event → Option Result
answer_of s (updating l b out) = some (update_call s.tuple l b out)
answer_of s (taking_back out) = top_answer s s.pile out

unfoldable pub showing : State → List Event → List Shown
showing s [] = []
showing s (e ∷ es) = shown (answer_of s e) (state_after s e).tuple (map (λ (x : OnPile). x.list) (state_after s e).pile) ∷ showing (state_after s e) es

abbrev pub too_short : Bytes → Result
too_short out = record { number = 18; operation = 0; length = 0; place = no_place; buffer = out }

-- the undo lists of the two updates that go in
abbrev pub undo_plus : Bytes
undo_plus = 0x91 ∷ 0x93 ∷ 0xa1 ∷ 0x3d ∷ 0x00 ∷ 0xcd ∷ 0x00 ∷ 0x05 ∷ []

abbrev pub undo_insert : Bytes
undo_insert = 0x91 ∷ 0x93 ∷ 0xa1 ∷ 0x23 ∷ 0x00 ∷ 0x01 ∷ []

abbrev pub sequence : List Shown
sequence =
    shown (some (accepted (0x91 ∷ 0x06 ∷ []))) (0x91 ∷ 0x06 ∷ []) (undo_plus ∷ [])
    ∷ shown (some (refused 13 0)) (0x91 ∷ 0x06 ∷ []) (undo_plus ∷ [])
    ∷ shown (some (accepted (0x92 ∷ 0x2a ∷ 0x06 ∷ []))) (0x92 ∷ 0x2a ∷ 0x06 ∷ []) (undo_insert ∷ undo_plus ∷ [])
    ∷ shown (some (accepted (0x91 ∷ 0x06 ∷ []))) (0x92 ∷ 0x2a ∷ 0x06 ∷ []) (undo_insert ∷ undo_plus ∷ [])
    ∷ shown (some (too_short (0x00 ∷ []))) (0x92 ∷ 0x2a ∷ 0x06 ∷ []) (undo_insert ∷ undo_plus ∷ [])
    ∷ shown (some (too_short (0x00 ∷ []))) (0x92 ∷ 0x2a ∷ 0x06 ∷ []) (undo_insert ∷ undo_plus ∷ [])
    ∷ shown (some (accepted (0x91 ∷ 0x06 ∷ []))) (0x91 ∷ 0x06 ∷ []) (undo_plus ∷ [])
    ∷ shown (some (record { number = 0; operation = 0; length = 4; place = no_place; buffer = 0x91 ∷ 0xcd ∷ 0x00 ∷ 0x05 ∷ [] })) (0x91 ∷ 0xcd ∷ 0x00 ∷ 0x05 ∷ []) []
    ∷ shown none (0x91 ∷ 0xcd ∷ 0x00 ∷ 0x05 ∷ []) []
    ∷ []

-- presses, and what their caller sees
pub record PressCase : Type 0 where
  pub tuple : Bytes
  pub list : Bytes
  pub out : Bytes
  pub undo : Bytes
  pub shows : PressResult

abbrev pub press_computed : PressCase → PressCase
press_computed c =
    record { tuple = c.tuple; list = c.list; out = c.out; undo = c.undo; shows = press_call c.tuple c.list 0 c.out c.undo }

-- a refused one, with its operation: neither buffer is changed
abbrev pub refused_press : Bytes → Bytes → Bytes → Bytes → ℕ → ℕ → OptionalNumber → PressCase
refused_press t l out un k i p =
    record {
      tuple = t;
      list = l;
      out = out;
      undo = un;
      shows = record { number = k; operation = i; length = 0; undo_length = 0; place = p; buffer = out; undo_buffer = un };
    }

abbrev pub presses : List PressCase
presses =
    record {
      tuple = 0x91 ∷ 0x07 ∷ [];
      list = 0x91 ∷ 0x93 ∷ 0xa1 ∷ 0x2b ∷ 0x00 ∷ 0x01 ∷ [];
      out = 0xee ∷ 0xee ∷ 0xee ∷ [];
      undo = replicate 7 0xdd;
      shows =
          record {
            number = 0;
            operation = 0;
            length = 2;
            undo_length = 6;
            place = no_place;
            buffer = 0x91 ∷ 0x08 ∷ 0xee ∷ [];
            undo_buffer = 0x91 ∷ 0x93 ∷ 0xa1 ∷ 0x3d ∷ 0x00 ∷ 0x07 ∷ 0xdd ∷ [];
          };
    }
    -- 18 for either buffer
    ∷ refused_press (0x91 ∷ 0x07 ∷ []) (0x91 ∷ 0x93 ∷ 0xa1 ∷ 0x2b ∷ 0x00 ∷ 0x01 ∷ []) (0xee ∷ []) room 18 0 no_place
    ∷ refused_press (0x91 ∷ 0x07 ∷ []) (0x91 ∷ 0x93 ∷ 0xa1 ∷ 0x2b ∷ 0x00 ∷ 0x01 ∷ []) room (replicate 5 0xdd) 18 0 no_place
    -- 17 before 18, whichever buffer is too short; 13 and 11 before both
    ∷ refused_press (0x91 ∷ 0x01 ∷ []) long_undo [] room 17 0 no_place
    ∷ refused_press (0x91 ∷ 0x01 ∷ []) long_undo room [] 17 0 no_place
    ∷ refused_press (0x91 ∷ 0x01 ∷ []) (0x92 ∷ 0x93 ∷ 0xa1 ∷ 0x3d ∷ 0x00 ∷ 0x05 ∷ 0x93 ∷ 0xa1 ∷ 0x23 ∷ 0x01 ∷ 0x01 ∷ []) [] [] 13 1 no_place
    ∷ refused_press (0x91 ∷ 0xc1 ∷ []) (0xc1 ∷ []) [] [] 11 0 (at_place 1)
    ∷ []

pub worked : (map computed rules ≡ rules) × ((showing (start first) events ≡ sequence) × (map press_computed presses ≡ presses))
unfolding form_of same_kind number payload sized items by_form one too_deep container value pieces joined due_in due natural_of unsigned_by unsigned twos_complement signed_of signed_by signed adding integer counted header big_endian unsigned_form negative_form string_header array_header plain filling fields_filling fields_by fields_of on_got then made nothing value_from any_value integer_from any_integer less floor at_least position string_from string count_from count mark three five action_of operation before and_more operations list_by operations_of asℤ ranged spliced became suited altered edit_at field_at plan_of plans fits limited perform step run operation_bytes restored inverse undo_of judged on_run update_of limited_list undo_list_of update undo refusing writing delivered spoiled_at spoiled_in with_place update_call undo_call start on_answer goes_in after_taking_back state_after showing pressing press declining writing_both pressed placed press_call
worked = (refl, (refl, refl))
