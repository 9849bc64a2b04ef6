-- `lines::digits::put_signed` meets its contract: a number below zero is the sign and then its magnitude, which the code has without leaving 64 bits. Assumes nothing.
use mathlib.Core.Path.{refl, sym}
use native.Mathlib.Omega.{arith}
use lib.ListN.{length-set}
use Rattle.lines.specs.Printing.{printed_one, printed_as, printed_then, printed_same_length}
use Rattle.lines.proofs.Signs.{below, not_below}
use borrow.Author.Rules.{rules}
use Rattle.lines.proofs.digits.put_signed.Goals as goal

pub bounds-out-at : goal.bounds-out-at
bounds-out-at c = let l = (below c.ranges.z refl c.if-z-lt0.true) in let r = rw l.text at c.requires in omega arith

pub overflow_add-z : goal.overflow_add-z
overflow_add-z c = (below c.ranges.z refl c.if-z-lt0.true).above_fits

pub overflow_sub-z : goal.overflow_sub-z
overflow_sub-z c = (below c.ranges.z refl c.if-z-lt0.true).flipped_fits

pub overflow_cast-z : goal.overflow_cast-z
overflow_cast-z c = let l = (below c.ranges.z refl c.if-z-lt0.true) in rw l.reads (tt, search rules)

pub overflow_add-z-then-z-lt0 : goal.overflow_add-z-then-z-lt0
overflow_add-z-then-z-lt0 c = let l = (below c.ranges.z refl c.if-z-lt0.true) in rw l.reads (search rules)

pub put_decimal-requires : goal.put_decimal-requires
put_decimal-requires c =
    let l = (below c.ranges.z refl c.if-z-lt0.true) in
    let r = rw l.text at c.requires in
    rw l.reads (omega (arith, length-set c.args.out.now c.args.at 45, r))

pub returns-then-z-lt0 : goal.returns-then-z-lt0
returns-then-z-lt0 c = let l = (below c.ranges.z refl c.if-z-lt0.true) in
    printed_as (printed_then (printed_one _ _ 45) (rw l.reads at c.put_decimal.ensures)) (sym l.text)

pub shape_of-out-then-z-lt0 : goal.shape_of-out-then-z-lt0
shape_of-out-then-z-lt0 c = printed_same_length (returns-then-z-lt0 c)

pub overflow_cast-z-2 : goal.overflow_cast-z-2
overflow_cast-z-2 c = let l = (not_below c.ranges.z refl c.if-z-lt0.false) in rw l.reads (tt, search rules)

pub put_decimal-requires-2 : goal.put_decimal-requires-2
put_decimal-requires-2 c = let l = (not_below c.ranges.z refl c.if-z-lt0.false) in rw l.reads (rw l.text at c.requires)

pub returns : goal.returns
returns c = let l = (not_below c.ranges.z refl c.if-z-lt0.false) in printed_as (rw l.reads at c.put_decimal-2.ensures) (sym l.text)

pub shape_of-out : goal.shape_of-out
shape_of-out c = printed_same_length (returns c)
