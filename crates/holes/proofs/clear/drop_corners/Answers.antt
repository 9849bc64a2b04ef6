use Prim.Native.Nat.{◌+◌, ◌<◌}
use lib.ListN.{length}
use Rattle.mem.specs.Tab.{filled_none}
use Rattle.holes.proofs.Clears.{corner_fits, corner_more, corners_all}
use borrow.Author.Rules.{rules}
use Rattle.holes.proofs.clear.drop_corners.Goals as goal

pub loop-j-init : goal.loop-j-init
loop-j-init c = filled_none _ _ _ _

pub overflow_add-at-in-loop-j : goal.overflow_add-at-in-loop-j
overflow_add-at-in-loop-j c =
    let fits_in : c.args.at + 3 + c.loop-j.j < length c.loop-j.work = corner_fits _ c.requires c.count_from-n.ensures c.loop-j.invariant (search rules) in
    let h = fits_in in search rules

pub offset_bounds-work-at : goal.offset_bounds-work-at
offset_bounds-work-at c =
    let fits_in : c.args.at + 3 + c.loop-j.j < length c.loop-j.work = corner_fits _ c.requires c.count_from-n.ensures c.loop-j.invariant (search rules) in
    let h = fits_in in search rules

pub bounds-work-at : goal.bounds-work-at
bounds-work-at c =
    let fits_in : c.args.at + 3 + c.loop-j.j < length c.loop-j.work = corner_fits _ c.requires c.count_from-n.ensures c.loop-j.invariant (search rules) in
    fits_in

pub overflow_add-work-in-loop-j : goal.overflow_add-work-in-loop-j
overflow_add-work-in-loop-j c =
    let fits_in : c.args.at + 3 + c.loop-j.j < length c.loop-j.work = corner_fits _ c.requires c.count_from-n.ensures c.loop-j.invariant (search rules) in
    let h = fits_in in search rules

pub offset_bounds-work-at-in-loop-j : goal.offset_bounds-work-at-in-loop-j
offset_bounds-work-at-in-loop-j c =
    let fits_in : c.args.at + 3 + c.loop-j.j < length c.loop-j.work = corner_fits _ c.requires c.count_from-n.ensures c.loop-j.invariant (search rules) in
    let h = fits_in in search rules

pub bounds-work-at-in-loop-j : goal.bounds-work-at-in-loop-j
bounds-work-at-in-loop-j c =
    let fits_in : c.args.at + 3 + c.loop-j.j < length c.loop-j.work = corner_fits _ c.requires c.count_from-n.ensures c.loop-j.invariant (search rules) in
    fits_in

pub loop-j-preserved : goal.loop-j-preserved
loop-j-preserved c =
    corner_more _ c.requires c.count_from-n.ensures c.loop-j.invariant (search rules) c.dropped.ensures

pub returns : goal.returns
returns c = corners_all _ c.requires c.count_from-n.ensures c.loop-j.invariant (search rules)
