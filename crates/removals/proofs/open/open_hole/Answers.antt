-- `removals::open::open_hole` meets its contract: what each step leaves is what the next asks for. Assumes nothing.
use native.Mathlib.Omega.{arith}
use Rattle.removals.proofs.Opens.{collect_ready, walk_fits, clear_ready, record_ready, walk_ready, close_ready, opened}
use borrow.Author.Rules.{rules}
use Rattle.removals.proofs.open.open_hole.Goals as goal

pub collect_sides-sides-requires : goal.collect_sides-sides-requires
collect_sides-sides-requires c = collect_ready c.requires

pub clear_polygons-left-requires : goal.clear_polygons-left-requires
clear_polygons-left-requires c = clear_ready c.requires c.collect_sides-sides.ensures

pub remove_record-requires : goal.remove_record-requires
remove_record-requires c = record_ready c.requires c.collect_sides-sides.ensures c.clear_polygons-left.ensures

pub overflow_mul-e : goal.overflow_mul-e
overflow_mul-e c = let h = walk_fits c.requires c.collect_sides-sides.ensures in search rules

pub overflow_add-e : goal.overflow_add-e
overflow_add-e c = let h = walk_fits c.requires c.collect_sides-sides.ensures in search rules

pub overflow_add-e-2 : goal.overflow_add-e-2
overflow_add-e-2 c = let h = walk_fits c.requires c.collect_sides-sides.ensures in search rules

pub overflow_add-e-3 : goal.overflow_add-e-3
overflow_add-e-3 c = let h = walk_fits c.requires c.collect_sides-sides.ensures in search rules

pub overflow_mul-e-2 : goal.overflow_mul-e-2
overflow_mul-e-2 c = let h = walk_fits c.requires c.collect_sides-sides.ensures in search rules

pub overflow_add-e-4 : goal.overflow_add-e-4
overflow_add-e-4 c = let h = walk_fits c.requires c.collect_sides-sides.ensures in search rules

pub walk_sides-walked-requires : goal.walk_sides-walked-requires
walk_sides-walked-requires c =
    walk_ready c.requires c.collect_sides-sides.ensures c.clear_polygons-left.ensures c.remove_record.ensures (omega arith)

pub close_hole-points-requires : goal.close_hole-points-requires
close_hole-points-requires c =
    close_ready c.requires c.collect_sides-sides.ensures c.clear_polygons-left.ensures c.remove_record.ensures (omega arith) c.walk_sides-walked.ensures

pub returns : goal.returns
returns c =
    opened c.requires c.collect_sides-sides.ensures c.clear_polygons-left.ensures c.remove_record.ensures (omega arith) c.walk_sides-walked.ensures
    c.close_hole-points.ensures
