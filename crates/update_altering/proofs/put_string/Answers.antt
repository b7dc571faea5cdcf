-- Header and pieces, one after the other.
use Rattle.update_altering.proofs.Strings.{all-written}
use Rattle.update_altering.proofs.put_string.Goals as goal

pub returns : goal.returns
returns c =
    let a = c.args in
    all-written a.first.now a.second.now a.third.now a.out.now c.requires c.write_string_header-at_first.ensures c.write_bytes-at_second.ensures c.write_bytes-at_third.ensures c.write_bytes.ensures
