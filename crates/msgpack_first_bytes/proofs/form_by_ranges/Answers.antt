-- `form_by_ranges` is the definition `form_of`: a single byte by rewriting, a range by one computed test.
use native.Mathlib.Omega.{arith}
use Prim.Native.Nat.{◌+◌, ◌-◌, ◌*◌, ◌%◌, ◌^◌}
use Rattle.msgpack_first_bytes.specs.FirstByte.{form_of}
use Rattle.msgpack_first_bytes.specs.declared.Kind.TheVariants.{Boolean, Unsigned, Signed, String, Bin, Ext}
use Rattle.msgpack_first_bytes.specs.declared.Form.TheVariants.{Scalar, Array, Map}
use Rattle.msgpack_first_bytes.proofs.Forms.{agree}
use Rattle.msgpack_first_bytes.proofs.form_by_ranges.Goals as goal

pub returns-in-192 : goal.returns-in-192
unfolding form_of
returns-in-192 c = rw c.in-192.is

pub returns-in-193 : goal.returns-in-193
unfolding form_of
returns-in-193 c = rw c.in-193.is

pub returns-in-202 : goal.returns-in-202
unfolding form_of
returns-in-202 c = rw c.in-202.is

pub returns-in-203 : goal.returns-in-203
unfolding form_of
returns-in-203 c = rw c.in-203.is

pub returns-in-0-to-127 : goal.returns-in-0-to-127
unfolding form_of
returns-in-0-to-127 c = agree (λ b. Scalar Unsigned 0 0) form_of 0x00 128 tt c.in-0-to-127.if-b-lt128-own.true (omega arith)

pub returns-in-128-to-143 : goal.returns-in-128-to-143
unfolding form_of
returns-in-128-to-143 c = agree (λ b. Map 0 ((b - 0x80) * 2 % 256)) form_of 0x80 16 tt c.in-128-to-143.if-b-lt144-own.true (omega arith)

pub returns-in-144-to-159 : goal.returns-in-144-to-159
unfolding form_of
returns-in-144-to-159 c = agree (λ b. Array 0 (b - 0x90)) form_of 0x90 16 tt c.in-144-to-159.if-b-lt160-own.true (omega arith)

pub returns-in-160-to-191 : goal.returns-in-160-to-191
unfolding form_of
returns-in-160-to-191 c = agree (λ b. Scalar String 0 (b - 0xa0)) form_of 0xa0 32 tt c.in-160-to-191.if-b-lt192-own.true (omega arith)

pub returns-in-194-to-195 : goal.returns-in-194-to-195
unfolding form_of
returns-in-194-to-195 c = agree (λ b. Scalar Boolean 0 0) form_of 0xc2 2 tt c.in-194-to-195.if-b-lt196-own.true (omega arith)

pub returns-in-196-to-198 : goal.returns-in-196-to-198
unfolding form_of
returns-in-196-to-198 c = rw c.power_of_two.ensures.0 (agree (λ b. Scalar Bin (2 ^ (b - 0xc4)) 0) form_of 0xc4 3 tt c.in-196-to-198.if-b-lt199-own.true (omega arith))

pub returns-in-199-to-201 : goal.returns-in-199-to-201
unfolding form_of
returns-in-199-to-201 c = rw c.power_of_two-in-199-to-201.ensures.0
    (agree (λ b. Scalar Ext (2 ^ (b - 0xc7)) 1) form_of 0xc7 3 tt c.in-199-to-201.if-b-lt202-own.true (omega arith))

pub returns-in-204-to-207 : goal.returns-in-204-to-207
unfolding form_of
returns-in-204-to-207 c = rw c.power_of_two-in-204-to-207.ensures.0 (agree (λ b. Scalar Unsigned 0 (2 ^ (b - 0xcc))) form_of 0xcc 4 tt c.in-204-to-207.if-b-lt208-own.true (omega arith))

pub returns-in-208-to-211 : goal.returns-in-208-to-211
unfolding form_of
returns-in-208-to-211 c = rw c.power_of_two-in-208-to-211.ensures.0 (agree (λ b. Scalar Signed 0 (2 ^ (b - 0xd0))) form_of 0xd0 4 tt c.in-208-to-211.if-b-lt212-own.true (omega arith))

pub returns-in-212-to-216 : goal.returns-in-212-to-216
unfolding form_of
returns-in-212-to-216 c = rw c.power_of_two-in-212-to-216.ensures.0 (agree (λ b. Scalar Ext 0 (1 + 2 ^ (b - 0xd4))) form_of 0xd4 5 tt c.in-212-to-216.if-b-lt217-own.true (omega arith))

pub returns-in-217-to-219 : goal.returns-in-217-to-219
unfolding form_of
returns-in-217-to-219 c = rw c.power_of_two-in-217-to-219.ensures.0 (agree (λ b. Scalar String (2 ^ (b - 0xd9)) 0) form_of 0xd9 3 tt c.in-217-to-219.if-b-lt220-own.true (omega arith))

pub returns-in-220-to-221 : goal.returns-in-220-to-221
unfolding form_of
returns-in-220-to-221 c = rw c.power_of_two-in-220-to-221.ensures.0 (agree (λ b. Array (2 ^ (b - 0xdb)) 0) form_of 0xdc 2 tt c.in-220-to-221.if-b-lt222-own.true (omega arith))

pub returns-in-222-to-223 : goal.returns-in-222-to-223
unfolding form_of
returns-in-222-to-223 c = rw c.power_of_two-in-222-to-223.ensures.0 (agree (λ b. Map (2 ^ (b - 0xdd)) 0) form_of 0xde 2 tt c.in-222-to-223.if-b-lt224-own.true (omega arith))

pub returns-in-224-to-255 : goal.returns-in-224-to-255
unfolding form_of
returns-in-224-to-255 c = agree (λ b. Scalar Signed 0 0) form_of 0xe0 32 tt {b = c.args.b} (omega arith) (omega arith)
