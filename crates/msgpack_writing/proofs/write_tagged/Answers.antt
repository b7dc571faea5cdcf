-- `write_tagged` returns where nothing is left, where too little is, and after the rest that it lent has come back.
use Prim.Native.Nat.{◌+◌}
use native.Mathlib.Omega.{arith}
use Rattle.msgpack_writing.specs.Forms.{tagged}
use Rattle.msgpack_writing.proofs.Put.{refused, lent, written}
use Rattle.msgpack_writing.proofs.Lengths.{length-tagged}
use Rattle.msgpack_writing.proofs.write_tagged.Goals as goal

pub returns : goal.returns
returns c =
    let p = c.before.before in
    let a = p.args in
    written
    (lent _ _ (tagged a.tag a.width a.n) (a.width + 1) (length-tagged a.tag a.width a.n) (omega arith) p.put_tagged.ensures)

pub returns-then-out-at : goal.returns-then-out-at
returns-then-out-at c = let a = c.args in refused _ _ _ (omega (arith, length-tagged a.tag a.width a.n))

pub returns-then-out-at-2 : goal.returns-then-out-at-2
returns-then-out-at-2 c = let a = c.args in refused _ _ _ (omega (arith, length-tagged a.tag a.width a.n))
