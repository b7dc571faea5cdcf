-- `write_bytes` returns where nothing is left, where too little is, and after the rest that it lent has come back.
use mathlib.Core.Path.{refl}
use native.Mathlib.Omega.{arith}
use Rattle.msgpack_writing.proofs.Put.{refused, lent, written}
use Rattle.msgpack_writing.proofs.write_bytes.Goals as goal

pub returns-then-out-at : goal.returns-then-out-at
returns-then-out-at c = refused _ _ _ (omega arith)

pub returns-then-out-at-2 : goal.returns-then-out-at-2
returns-then-out-at-2 c = refused _ _ _ (omega arith)

pub returns : goal.returns
returns c = let p = c.before.before in let b = p.args.bytes.now in
    written (lent _ _ b _ refl (omega arith) p.put_bytes.ensures)
