use mathlib.Core.Path.{sym}
use native.Mathlib.Omega.{arith}
use lib.Seq.{length-take-le}
use Rattle.lines.proofs.Numbering.{other_name, numbering_begin, numbering_short, numbering_bad, numbering_next, numbering_end}
use Rattle.lines.proofs.numbers.read_row.Goals as goal

pub slice_bounds-is_same_text-end : goal.slice_bounds-is_same_text-end
slice_bounds-is_same_text-end c = sym (length-take-le _ _ (omega arith))

pub loop-i-init : goal.loop-i-init
loop-i-init c =
    let a = c.args in
    numbering_begin a.line.now a.name.now a.least a.mosts.now a.values.now c.find-at.ensures.0 c.is_same_text.ensures
    c.if-is_same_text.true c.find-at.ensures.1

pub returns-then-at-line : goal.returns-then-at-line
returns-then-at-line c = numbering_short c.loop-i.invariant c.loop-i-test.true c.if-at-line.true

pub returns-in-None : goal.returns-in-None
returns-in-None c =
    numbering_bad c.loop-i.invariant c.loop-i-test.true c.if-at-line.false c.find-at-in-loop-i.ensures.0
    c.read_decimal.ensures c.in-None.is

pub loop-i-preserved : goal.loop-i-preserved
loop-i-preserved c =
    numbering_next c.loop-i.invariant c.loop-i-test.true c.if-at-line.false c.find-at-in-loop-i.ensures.0
    c.read_decimal.ensures c.in-Some.is c.find-at-in-loop-i.ensures.1

pub returns-then-is_same_text : goal.returns-then-is_same_text
returns-then-is_same_text c = numbering_end c.loop-i.invariant c.loop-i-test.false

pub returns : goal.returns
returns c =
    let a = c.args in
    other_name a.line.now a.name.now a.least a.mosts.now a.values.now c.find-at.ensures.0 c.is_same_text.ensures c.if-is_same_text.false
