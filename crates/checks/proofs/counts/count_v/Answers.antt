-- `checks::counts::count_v` meets its contract: it is the sum of what contours add to V. Assumes nothing.
use Rattle.std.proofs.Common.{rules, tests}
use Rattle.std.proofs.lemmas.Iterator.{YieldsList-from_slice, YieldsList-from_map}
use Rattle.std.proofs.lemmas.Iterator.Consumers.{YieldsList-at, sum_by_from_yields_List, fits_by_from_yields_list}
use Rattle.checks.specs.Sums.{points_of, sum_v}
use Rattle.checks.proofs.Adding.{sum_in_range, totalled, points_most}
use Rattle.checks.proofs.counts.count_v.Goals as goal

pub sum-requires-clause-fits : goal.sum-requires-clause-fits
sum-requires-clause-fits c =
    let ls = c.args.lengths.now in
    fits_by_from_yields_list _ _ c.map.result _
    (YieldsList-from_map _ points_of (YieldsList-at c.map.ensures.source (YieldsList-from_slice ls cc)) c.map.ensures.closure (λ x r q k. search (rules, tests)))
    (sum_in_range points_of points_most ls c.requires (λ i. (c.type_inv.lengths i).fits))

pub returns : goal.returns
unfolding sum_v
returns c =
    let ls = c.args.lengths.now in
    let whole = sum_by_from_yields_List _ _ c.map.result _ c.sum.ensures.ran
    (YieldsList-from_map _ points_of (YieldsList-at c.map.ensures.source (YieldsList-from_slice ls cc)) c.map.ensures.closure (λ x r q k. search (rules, tests))) in
    (totalled points_of points_most ls c.requires (λ i. (c.type_inv.lengths i).fits) whole).is
