-- The piece alone, or nine bytes of both.
use Rattle.std.proofs.Common.{◌≡◌, ◌+◌, length, take, sym, refl, ap, ◌∙◌, arith, length-take-le}
use borrow.Author.Tests.{eqb-true}
use Rattle.frames.specs.Reading.{size_of}
use Rattle.msgpack_first_bytes.specs.Bytes.{Bytes}
use Rattle.msgpack_writing.specs.Put.{put}
use Rattle.msgpack_writing.proofs.Put.{length-put}
use Rattle.session_feeding.proofs.Steps.{none-begun, size_both}
use Rattle.session_feeding.proofs.size_over.Goals as goal

pub returns-then-is_empty : goal.returns-then-is_empty
returns-then-is_empty c = c.read_size.ensures ∙ none-begun c.args.begun.now _ (eqb-true _ 0 (sym c.is_empty.ensures ∙ c.if-is_empty.true))

pub slice_bounds-write_bytes-end-2 : goal.slice_bounds-write_bytes-end-2
slice_bounds-write_bytes-end-2 c =
    let e = c.min-a.ensures in
    sym (length-take-le _ c.args.begun.now (omega arith))

pub slice_bounds-write_bytes-end-4 : goal.slice_bounds-write_bytes-end-4
slice_bounds-write_bytes-end-4 c =
    let e = c.min-b.ensures in
    sym (length-take-le _ c.args.piece.now (omega arith))

pub slice_bounds-read_size-end : goal.slice_bounds-read_size-end
slice_bounds-read_size-end c =
    let e = c.write_bytes-2.ensures.1 in
    let l : length c.write_bytes-2.new.out ≡ 9 =
    ap length c.write_bytes-2.ensures.1 ∙ length-put _ _ _ ∙ ap length c.write_bytes.ensures.1 ∙ length-put _ _ _ in
    let i = c.min-b.ensures in
    let j = c.min-a.ensures in
    sym (length-take-le _ c.write_bytes-2.new.out (omega arith))

pub returns : goal.returns
returns c =
    let a = c.args in
    let x = a.begun.now in
    let y = a.piece.now in
    let i = c.min-a.result in
    let j = c.min-b.result in
    c.read_size-2.ensures
    ∙ ap (λ (z : Bytes). size_of (take (i + j) z)) (c.write_bytes-2.ensures.1 ∙ ap (put i (take j y)) c.write_bytes.ensures.1)
    ∙ size_both x y _ refl c.min-a.ensures c.min-b.ensures
