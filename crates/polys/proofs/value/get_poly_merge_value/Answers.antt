-- `polys::value::get_poly_merge_value` meets its contract: each arm is the definition with its tests known. Assumes nothing.
use Rattle.std.specs.Prelude.{Some}
use mathlib.Core.Path.{◌≡◌}
use Prim.Native.Nat.{◌+◌, ◌*◌}
use Rattle.rules.specs.Merge.{shared_side}
use Rattle.records.specs.Layout.{polygon_size}
use Rattle.records.specs.Values.{corners_from}
use Rattle.records.specs.Corners.{few_from}
use Rattle.polys.proofs.Values.{stands_in, joint_of, value_at_sides, value_at_none, value_too_big}
use borrow.Author.Rules.{rules}
use Rattle.polys.proofs.value.get_poly_merge_value.Goals as goal

pub count_from-requires : goal.count_from-requires
count_from-requires c = stands_in c.requires.0 _ c.requires.1

pub count_from-requires-2 : goal.count_from-requires-2
count_from-requires-2 c = stands_in c.requires.0 _ c.requires.2

pub overflow_add-count_from : goal.overflow_add-count_from
overflow_add-count_from c =
    let h = few_from (stands_in c.requires.0 _ c.requires.1) in
    let k = few_from (stands_in c.requires.0 _ c.requires.2) in
    search rules

pub returns-then-f-count_from : goal.returns-then-f-count_from
returns-then-f-count_from c =
    value_too_big c.requires.0 _ _ c.requires.1 c.requires.2 c.count_from.ensures c.count_from-2.ensures
    c.if-f-count_from.true c.no_pair.ensures

pub shared_side-requires : goal.shared_side-requires
shared_side-requires c =
    (stands_in c.requires.0 _ c.requires.1, stands_in c.requires.0 _ c.requires.2)

pub pair_of-requires : goal.pair_of-requires
pair_of-requires c =
    let here : Some (c.in-Some.i, c.in-Some.j)
    ≡ shared_side ((corners_from c.args.work.now (c.args.f.polygons.at + c.args.a * polygon_size)))
    ((corners_from c.args.work.now (c.args.f.polygons.at + c.args.b * polygon_size))) = rw c.in-Some.is at c.shared_side.ensures in
    joint_of c.requires.0 _ _ _ _ c.requires.1 c.requires.2 (here)

pub returns-in-Some : goal.returns-in-Some
returns-in-Some c =
    let here : Some (c.in-Some.i, c.in-Some.j)
    ≡ shared_side ((corners_from c.args.work.now (c.args.f.polygons.at + c.args.a * polygon_size)))
    ((corners_from c.args.work.now (c.args.f.polygons.at + c.args.b * polygon_size))) = rw c.in-Some.is at c.shared_side.ensures in
    value_at_sides c.requires.0 _ _ c.requires.1 c.requires.2 c.count_from.ensures c.count_from-2.ensures _ _
    c.if-f-count_from.false (here) c.pair_of.ensures

pub returns-in-None : goal.returns-in-None
returns-in-None c =
    value_at_none c.requires.0 _ _ c.requires.1 c.requires.2 c.count_from.ensures c.count_from-2.ensures
    c.if-f-count_from.false (rw c.in-None.is at c.shared_side.ensures) c.no_pair-in-None.ensures
