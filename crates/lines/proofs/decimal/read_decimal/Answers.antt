use Rattle.std.proofs.Common.{sym, ◌∙◌, arith, rules, tests}
use Rattle.lines.proofs.Decimals.{no_digits, leading_zero, reading_zero, reading_begin, as_asked, reading_other, reading_large}
use Rattle.lines.proofs.Decimals.{reading_next, reading_below, reading_value}
use Rattle.lines.proofs.decimal.read_decimal.Goals.{else-cell-eq48-via-then-cell-eq48+else-cell-gt1, else-cell-eq48-via-else-cell-eq48}
use Rattle.lines.proofs.decimal.read_decimal.Goals as goal

pub returns-then-is_empty : goal.returns-then-is_empty
returns-then-is_empty c = sym (no_digits c.args.least c.args.most c.args.cell.now (search (rules, tests)))

pub returns-then-cell-gt1 : goal.returns-then-cell-gt1
returns-then-cell-gt1 c = sym (leading_zero c.args.least c.args.most c.args.cell.now c.if-cell-eq48.true (omega arith))

pub loop-c-init : goal.loop-c-init
loop-c-init c =
    let a = c.args in
    elim c.else-cell-eq48.branch [
      | else-cell-eq48-via-then-cell-eq48+else-cell-gt1 x ↦ reading_zero a.least a.most a.cell.now (search (rules, tests)) x.if-cell-gt1.false
      | else-cell-eq48-via-else-cell-eq48 x ↦ reading_begin a.least a.most a.cell.now (search (rules, tests)) x.if-cell-eq48.false
    ]

pub returns-then-not-is_ascii_digit : goal.returns-then-not-is_ascii_digit
returns-then-not-is_ascii_digit c =
    sym (reading_other c.loop-c.invariant c.loop-c-test.true (as_asked _ c.is_ascii_digit.ensures.value ∙ c.if-not-is_ascii_digit.true))

pub returns-in_err-checked_mul : goal.returns-in_err-checked_mul
returns-in_err-checked_mul c =
    let over = c.in_err-checked_mul.ensures in
    let digit = as_asked _ c.is_ascii_digit.ensures.value ∙ c.if-not-is_ascii_digit.false in
    c.from_residual.ensures ∙ sym (reading_large c.loop-c.invariant c.loop-c-test.true digit (omega (arith, over)))

pub returns-in_err-v : goal.returns-in_err-v
returns-in_err-v c =
    let ten = c.in_ok-checked_mul.ensures in
    let over = c.in_err-v.ensures in
    let digit = as_asked _ c.is_ascii_digit.ensures.value ∙ c.if-not-is_ascii_digit.false in
    c.from_residual-in_err-v.ensures ∙ sym (reading_large c.loop-c.invariant c.loop-c-test.true digit (omega (arith, ten, over, c.from.ensures)))

pub returns-then-v-most : goal.returns-then-v-most
returns-then-v-most c =
    let ten = c.in_ok-checked_mul.ensures in
    let whole = c.in_ok-v.ensures in
    let digit = as_asked _ c.is_ascii_digit.ensures.value ∙ c.if-not-is_ascii_digit.false in
    sym (reading_large c.loop-c.invariant c.loop-c-test.true digit (omega (arith, c.from.ensures)))

pub loop-c-preserved : goal.loop-c-preserved
loop-c-preserved c =
    let ten = c.in_ok-checked_mul.ensures in
    let whole = c.in_ok-v.ensures in
    let digit = as_asked _ c.is_ascii_digit.ensures.value ∙ c.if-not-is_ascii_digit.false in
    reading_next c.loop-c.invariant c.loop-c-test.true digit (omega (arith, c.from.ensures)) c.if-v-most.false

pub returns-then-v-least : goal.returns-then-v-least
returns-then-v-least c = sym (reading_below c.loop-c.invariant c.loop-c-test.false (omega arith))

pub returns : goal.returns
returns c = sym (reading_value c.loop-c.invariant c.loop-c-test.false (omega arith))
