-- `holes::test::holds_in` meets its contract: the first n corners are those of the polygon. Assumes nothing.
use native.Mathlib.Omega.{arith}
use mathlib.Core.Path.{◌≡◌, sym}
use borrow.Author.Rules.{rules}
use lib.ListN.{length}
use lib.Seq.{length-take-le}
use Rattle.rules.specs.Removal.{holds}
use Rattle.records.specs.Layout.{most_corners}
use Rattle.records.specs.Values.{corners_of, polygon_of}
use Rattle.holes.proofs.test.holds_in.Goals as goal

pub slice_bounds-corners-end : goal.slice_bounds-corners-end
slice_bounds-corners-end c =
    let long_p : length c.args.p.corners ≡ most_corners = search rules in
    let l = long_p in search rules

pub slice_bounds-count_in-end : goal.slice_bounds-count_in-end
slice_bounds-count_in-end c =
    let long_p : length c.args.p.corners ≡ most_corners = search rules in
    let p = c.args.p in
    sym (length-take-le p.n p.corners (omega (arith, long_p, c.requires)))

pub returns : goal.returns
unfolding holds polygon_of corners_of
returns c = c.count_in.ensures
