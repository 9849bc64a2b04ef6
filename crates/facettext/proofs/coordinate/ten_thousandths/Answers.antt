-- `facettext::coordinate::ten_thousandths` meets its contract, by its power of two: great, less than 150, and far less. Assumes nothing.
use Prim.Native.Nat.{◌-◌, ◌*◌, ◌≤◌}
use native.Mathlib.Omega.{arith}
use Rattle.facettext.proofs.Powers.{two_pow_most, significand_small, power_most, great_made, small_made, tiny_made, great_fits}
use Rattle.facettext.proofs.coordinate.ten_thousandths.Goals as goal

pub overflow_mul-n : goal.overflow_mul-n
overflow_mul-n c =
    let small : c.significand_of-n.result ≤ 16777215 = omega (arith, c.significand_of-n.ensures, significand_small c.args.p) in
    omega (arith, small)

pub two_to-requires : goal.two_to-requires
two_to-requires c =
    let most : c.power_of-e.result ≤ 176 = omega (arith, c.power_of-e.ensures, power_most c.args.p c.requires) in
    omega (arith, most)

pub overflow_mul-result : goal.overflow_mul-result
overflow_mul-result c =
    let small : c.significand_of-n.result ≤ 16777215 = omega (arith, c.significand_of-n.ensures, significand_small c.args.p) in
    let most : c.power_of-e.result ≤ 176 = omega (arith, c.power_of-e.ensures, power_most c.args.p c.requires) in
    let n : c.significand_of-n.result * 10000 ≤ 167772150000 = omega (arith, small) in
    rw c.two_to.ensures (omega (arith, great_fits (c.significand_of-n.result * 10000) c.power_of-e.result n (most)))

pub returns-then-e-ge150 : goal.returns-then-e-ge150
returns-then-e-ge150 c =
    great_made c.args.p c.significand_of-n.ensures c.power_of-e.ensures c.if-e-ge150.true c.two_to.ensures

pub returns-then-d-gt40 : goal.returns-then-d-gt40
returns-then-d-gt40 c =
    tiny_made c.args.p c.significand_of-n.ensures c.power_of-e.ensures (omega (arith, c.if-e-ge150.false)) c.if-d-gt40.true

pub overflow_add-result : goal.overflow_add-result
overflow_add-result c =
    let small : c.significand_of-n.result ≤ 16777215 = omega (arith, c.significand_of-n.ensures, significand_small c.args.p) in
    omega (arith, small, c.two_to-2.ensures, two_pow_most (150 - c.power_of-e.result - 1) 40 (omega arith))

pub returns : goal.returns
returns c =
    small_made c.args.p c.significand_of-n.ensures c.power_of-e.ensures
    (omega (arith, c.if-e-ge150.false)) (omega (arith, c.if-e-ge150.false)) c.two_to-2.ensures c.two_to-3.ensures
