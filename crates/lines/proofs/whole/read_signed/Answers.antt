-- `lines::whole::read_signed` meets its contract: `-` and a decimal, or a decimal alone, which fits 64 bits with its sign. Assumes nothing.
use mathlib.Core.Path.{◌∙◌}
use mathlib.Core.Logic.{◌≢◌}
use Prim.Native.Nat.{◌<◌}
use native.Mathlib.Omega.{arith}
use lib.IntN.{pos}
use lib.ListN.{length, get_or}
use mir.Syntax.{w64}
use mir.Val.{SFits}
use Rattle.lines.proofs.Wholes.{value_fits, turned_fits, minus_bad, minus_value, plain_bad, plain_value}
use Rattle.lines.proofs.whole.read_signed.Goals as goal
use Rattle.lines.proofs.whole.read_signed.Goals.{then-cell-gt0+else-cell-eq45, else-cell-gt0}

pub returns-in_err-n : goal.returns-in_err-n
returns-in_err-n c =
    c.from_residual.ensures
    ∙ minus_bad c.args.most c.args.cell.now c.if-cell-gt0.true c.if-cell-eq45.true c.read_decimal.ensures c.in_err-n.was

pub overflow_cast-result : goal.overflow_cast-result
overflow_cast-result c = value_fits 1 c.args.most _ c.requires c.read_decimal.ensures c.in_ok-n.was

pub overflow_sub-result : goal.overflow_sub-result
overflow_sub-result c = turned_fits (value_fits 1 c.args.most _ c.requires c.read_decimal.ensures c.in_ok-n.was)

pub returns-then-cell-eq45 : goal.returns-then-cell-eq45
returns-then-cell-eq45 c =
    let behind : SFits w64 (pos c.in_ok-n.n) = value_fits 1 c.args.most _ c.requires c.read_decimal.ensures c.in_ok-n.was in
    minus_value c.args.most c.args.cell.now c.if-cell-gt0.true c.if-cell-eq45.true c.read_decimal.ensures c.in_ok-n.was behind

pub overflow_cast-result-2 : goal.overflow_cast-result-2
overflow_cast-result-2 c = value_fits 0 c.args.most _ c.requires c.read_decimal-2.ensures c.in_ok-n-2.was

pub returns-in_err-n-2 : goal.returns-in_err-n-2
returns-in_err-n-2 c =
    let no_minus : 0 < length c.args.cell.now → get_or c.args.cell.now 0 0 ≢ 45 =
    λ h. elim c.if-cell-gt0.branch [
      | then-cell-gt0+else-cell-eq45 x ↦ x.if-cell-eq45.false
      | else-cell-gt0 x ↦ absurd (omega (arith, x.if-cell-gt0.false))
    ] in
    c.from_residual-in_err-n-2.ensures ∙ plain_bad c.args.most c.args.cell.now no_minus c.read_decimal-2.ensures c.in_err-n-2.was

pub returns : goal.returns
returns c =
    let alone : SFits w64 (pos c.in_ok-n-2.n) = value_fits 0 c.args.most _ c.requires c.read_decimal-2.ensures c.in_ok-n-2.was in
    let no_minus : 0 < length c.args.cell.now → get_or c.args.cell.now 0 0 ≢ 45 =
    λ h. elim c.if-cell-gt0.branch [
      | then-cell-gt0+else-cell-eq45 x ↦ x.if-cell-eq45.false
      | else-cell-gt0 x ↦ absurd (omega (arith, x.if-cell-gt0.false))
    ] in
    plain_value c.args.most c.args.cell.now no_minus c.read_decimal-2.ensures c.in_ok-n-2.was alone
