-- By the content.
use mathlib.Core.Logic.{inl, inr}
use Rattle.frames.specs.Held.{encoded}
use Rattle.frame_items.specs.Content.{held_of}
use Rattle.frame_judging.specs.Parts.{pair_of}
use Rattle.msgpack_writing.proofs.Put.{nothing}
use Rattle.frame_writing.proofs.put_pair.Goals as goal

pub put_number-requires : goal.put_number-requires
unfolding held_of encoded pair_of
put_number-requires c = rw c.in-Number.is at c.requires

pub put_view-requires : goal.put_view-requires
unfolding held_of encoded pair_of
put_view-requires c = rw (c.in-View.is, ← c.view_of.ensures) at c.requires

pub returns-in-Absent : goal.returns-in-Absent
unfolding held_of encoded pair_of
returns-in-Absent c =
    let a = c.args in
    nothing a.out.now a.at (pair_of a.key (encoded (held_of a.bytes.now a.content))) (elim c.in-Absent.is [ inl e ↦ rw e | inr e ↦ rw e ])

pub returns-in-Number : goal.returns-in-Number
unfolding held_of encoded pair_of
returns-in-Number c = rw c.in-Number.is c.put_number.ensures

pub returns-in-View : goal.returns-in-View
unfolding held_of encoded pair_of
returns-in-View c = rw (c.in-View.is, ← c.view_of.ensures) c.put_view.ensures
