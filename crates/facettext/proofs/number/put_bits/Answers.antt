use Prim.Native.Nat.{◌+◌, ◌≤◌}
use native.Mathlib.Omega.{arith}
use lib.ListN.{length, length-set}
use Rattle.lines.specs.Printing.{printed_same_length}
use Rattle.facettext.proofs.Bits.{bits_long, bits_none, bits_some, bits_more, bits_printed}
use Rattle.facettext.proofs.number.put_bits.Goals as goal

pub bounds-out-at : goal.bounds-out-at
bounds-out-at c =
    let room : c.args.at + 9 ≤ length c.args.out.now = rw (bits_long c.args.p) at c.requires in
    omega (arith, room)

pub loop-i-init : goal.loop-i-init
loop-i-init c = bits_none _ _ _

pub nonzero_div-p : goal.nonzero_div-p
nonzero_div-p c = bits_some c.loop-i.invariant c.loop-i-test.true

pub hex_digit-requires : goal.hex_digit-requires
hex_digit-requires c = omega arith

pub overflow_add-out : goal.overflow_add-out
overflow_add-out c =
    let room : c.args.at + 9 ≤ length c.args.out.now = rw (bits_long c.args.p) at c.requires in
    let still : c.args.at + 9 ≤ length c.loop-i.out = omega (arith, room, c.loop-i.invariant.filled.long, length-set c.args.out.now c.args.at 35) in
    omega (arith, still)

pub overflow_add-out-in-loop-i : goal.overflow_add-out-in-loop-i
overflow_add-out-in-loop-i c =
    let room : c.args.at + 9 ≤ length c.args.out.now = rw (bits_long c.args.p) at c.requires in
    let still : c.args.at + 9 ≤ length c.loop-i.out = omega (arith, room, c.loop-i.invariant.filled.long, length-set c.args.out.now c.args.at 35) in
    omega (arith, still)

pub bounds-out-at-in-loop-i : goal.bounds-out-at-in-loop-i
bounds-out-at-in-loop-i c =
    let room : c.args.at + 9 ≤ length c.args.out.now = rw (bits_long c.args.p) at c.requires in
    let still : c.args.at + 9 ≤ length c.loop-i.out = omega (arith, room, c.loop-i.invariant.filled.long, length-set c.args.out.now c.args.at 35) in
    omega (arith, still)

pub loop-i-preserved : goal.loop-i-preserved
loop-i-preserved c = bits_more c.loop-i.invariant c.loop-i-test.true c.hex_digit.ensures

pub overflow_add-result : goal.overflow_add-result
overflow_add-result c =
    let room : c.args.at + 9 ≤ length c.args.out.now = rw (bits_long c.args.p) at c.requires in
    let still : c.args.at + 9 ≤ length c.loop-i.out = omega (arith, room, c.loop-i.invariant.filled.long, length-set c.args.out.now c.args.at 35) in
    omega (arith, still)

pub returns : goal.returns
returns c = bits_printed c.loop-i.invariant c.loop-i-test.false

pub shape_of-out : goal.shape_of-out
shape_of-out c = printed_same_length (returns c)
