use mathlib.Core.Path.{◌∙◌}
use native.Mathlib.Omega.{arith}
use Rattle.update_delivering.proofs.Delivered.{too_short_lem, all-written}
use Rattle.update_delivering.proofs.deliver.Goals as goal

pub returns-then-out-length : goal.returns-then-out-length
returns-then-out-length c = too_short_lem _ c.args.out.now (omega (arith, c.requires.long, c.tuple_length-length.ensures))

pub returns : goal.returns
returns c =
    all-written _ c.args.out.now (c.tuple_length-length.ensures ∙ c.requires.long) (omega (arith, c.requires.long, c.tuple_length-length.ensures)) c.write_tuple.ensures
