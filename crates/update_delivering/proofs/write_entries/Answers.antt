-- The entries after those that are left are written, the last first.
use Rattle.msgpack_writing.proofs.Put.{written}
use Rattle.update_delivering.proofs.Undos.{written-begun, written-ended, entry-room, rear-written}
use Rattle.update_delivering.proofs.write_entries.Goals as goal

pub loop-entry-init : goal.loop-entry-init
loop-entry-init c =
    rw (c.into_iter-entry-iterator.ensures.into_iter_gives, c.rev-entry-items.ensures.source, c.iter.ensures.rest) (written-begun _ _ _ c.args.out.now c.args.at c.requires.0 c.requires.1)

pub write_entry-to-requires : goal.write_entry-to-requires
write_entry-to-requires c = entry-room _ _ _ c.args.out.now c.args.at c.requires.0 c.requires.1 c.next.new.self.iter.rest.now c.in-Some.entry.now c.loop-entry.invariant c.in-Some.ensures.steps

pub loop-entry-preserved : goal.loop-entry-preserved
loop-entry-preserved c =
    rear-written _ _ _ c.args.out.now c.args.at c.requires.0 c.requires.1 c.next.new.self.iter.rest.now c.in-Some.entry.now c.loop-entry.invariant c.in-Some.ensures.steps c.write_entry-to.ensures

pub returns : goal.returns
returns c = written (written-ended _ _ _ c.args.out.now c.args.at c.requires.0 c.requires.1 c.loop-entry.invariant c.in-None.ensures.steps.0)
