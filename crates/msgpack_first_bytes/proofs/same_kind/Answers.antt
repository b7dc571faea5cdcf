-- Two kinds are the same where their numbers are, and a kind's number is that of its variant.
use mathlib.Core.Path.{◌≡◌, refl, ◌∙◌}
use denote.Enum.Declared.{tag_of}
use Rattle.msgpack_first_bytes.specs.FirstByte.{kind_no, same_kind}
use Rattle.msgpack_first_bytes.specs.contracts.Kind.{the_type}
use Rattle.msgpack_first_bytes.specs.declared.Kind.{Kind}
use Rattle.msgpack_first_bytes.specs.declared.Kind.TheVariants.{Nil, Boolean, Unsigned, Signed, Float32, Float64, String, Bin, Ext}
use Rattle.msgpack_first_bytes.proofs.same_kind.Goals as goal

number : (k : Kind) → tag_of the_type k ≡ kind_no k
number Nil = refl
number Boolean = refl
number Unsigned = refl
number Signed = refl
number Float32 = refl
number Float64 = refl
number String = refl
number Bin = refl
number Ext = refl

pub returns : goal.returns
unfolding same_kind
returns c = c.eq.ensures ∙ rw (number c.args.a, number c.args.b)
