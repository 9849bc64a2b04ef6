-- `checks::counts::count_t` meets its contract: it is the sum of what contours add to T. Assumes nothing.
use Rattle.std.proofs.Common.{rules, tests}
use Rattle.std.proofs.lemmas.Iterator.{YieldsList-from_slice, YieldsList-from_map}
use Rattle.std.proofs.lemmas.Iterator.Consumers.{YieldsList-at, sum_by_from_yields_List, fits_by_from_yields_list}
use Rattle.checks.specs.Sums.{triangles_of, sum_t}
use Rattle.checks.proofs.Adding.{sum_in_range, totalled, triangles_most}
use Rattle.checks.proofs.counts.count_t.Goals as goal

pub sum-requires-clause-fits : goal.sum-requires-clause-fits
sum-requires-clause-fits c =
    let ls = c.args.lengths.now in
    fits_by_from_yields_list _ _ c.map.result _
    (YieldsList-from_map _ triangles_of (YieldsList-at c.map.ensures.source (YieldsList-from_slice ls cc)) c.map.ensures.closure (λ x r q k. search (rules, tests)))
    (sum_in_range triangles_of triangles_most ls c.requires (λ i. (c.type_inv.lengths i).fits))

pub returns : goal.returns
unfolding sum_t
returns c =
    let ls = c.args.lengths.now in
    let whole = sum_by_from_yields_List _ _ c.map.result _ c.sum.ensures.ran
    (YieldsList-from_map _ triangles_of (YieldsList-at c.map.ensures.source (YieldsList-from_slice ls cc)) c.map.ensures.closure (λ x r q k. search (rules, tests))) in
    (totalled triangles_of triangles_most ls c.requires (λ i. (c.type_inv.lengths i).fits) whole).is
