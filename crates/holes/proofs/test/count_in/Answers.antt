-- `holes::test::count_in` meets its contract: each word that is v adds one. Assumes nothing.
use Rattle.std.proofs.Common.{rules, tests, ◌∙◌}
use Rattle.std.proofs.lemmas.Iterator.{YieldsList-from_slice, YieldsList-from_map}
use Rattle.std.proofs.lemmas.Iterator.Consumers.{YieldsList-at, sum_by_from_yields_List, fits_by_from_yields_list}
use native.Mathlib.Omega.{arith}
use Rattle.holes.proofs.Tallies.{one_if, ones_fit, ones_are}
use Rattle.holes.proofs.test.count_in.Goals as goal

pub sum-requires-clause-fits : goal.sum-requires-clause-fits
sum-requires-clause-fits c =
    let s = c.args.s.now in
    fits_by_from_yields_list _ _ c.map.result _
    (YieldsList-from_map _ (one_if c.args.v) (YieldsList-at c.map.ensures.source (YieldsList-from_slice s cc)) c.map.ensures.closure (λ x r q k. search (rules, tests)))
    (ones_fit c.args.v s (omega arith))

pub returns : goal.returns
returns c =
    let s = c.args.s.now in
    sum_by_from_yields_List _ _ c.map.result _ c.sum.ensures.ran
    (YieldsList-from_map _ (one_if c.args.v) (YieldsList-at c.map.ensures.source (YieldsList-from_slice s cc)) c.map.ensures.closure (λ x r q k. search (rules, tests)))
    ∙ ones_are c.args.v s
