-- `checker::linked::links_hold` meets its contract: what is lent of polygon i are its corners and its links; if those hold, the words past them decide.
-- Assumes nothing.
use mathlib.Core.Path.{◌≡◌, ◌∙◌, ap}
use mathlib.Core.List.{List}
use Prim.Native.Nat.{ℕ, ◌+◌, ◌-◌, ◌*◌, ◌≤◌, ◌<◌}
use native.Mathlib.Omega.{arith}
use lib.Dec.{eqb}
use lib.ListN.{length}
use borrow.Author.Rules.{rules}
use borrow.Author.Tests.{tests}
use Rattle.std.proofs.lemmas.Iterator.{YieldsList-from_slice}
use Rattle.std.proofs.lemmas.Iterator.Search.{all_from_yields_List}
use Rattle.mem.specs.Slice.{view}
use Rattle.rules.specs.Links.{none}
use Rattle.rules.specs.Handed.{polygon_count, mesh_in, corners_at, all_of, link_holds}
use Rattle.checker.specs.Asked.{links_in}
use Rattle.checker.specs.Steps.{PolygonAt}
use Rattle.checker.proofs.Lent.{row_fits, links_fit, count_is, polygon_lent}
use Rattle.checker.proofs.LinkCases.{side_fails, past_decides}
use Rattle.checker.proofs.linked.links_hold.Goals as goal

pub overflow_mul-from : goal.overflow_mul-from
overflow_mul-from c =
    let m = links_in c.args.mesh.now.nvp c.args.mesh.now.polygons.now c.args.mesh.now.links.now in
    let inside : c.args.i < polygon_count m = omega (arith, c.requires.1, c.requires.2) in
    let words : (c.args.i * c.args.mesh.now.nvp) + c.args.mesh.now.nvp ≤ length c.args.mesh.now.polygons.now = row_fits m c.requires.0 c.args.i inside in
    record { fits = omega (arith, words) }

pub corners_end-to-requires : goal.corners_end-to-requires
corners_end-to-requires c =
    let m = links_in c.args.mesh.now.nvp c.args.mesh.now.polygons.now c.args.mesh.now.links.now in
    let inside : c.args.i < polygon_count m = omega (arith, c.requires.1, c.requires.2) in
    let words : (c.args.i * c.args.mesh.now.nvp) + c.args.mesh.now.nvp ≤ length c.args.mesh.now.polygons.now = row_fits m c.requires.0 c.args.i inside in
    words

pub offset_bounds-mesh-from : goal.offset_bounds-mesh-from
offset_bounds-mesh-from c =
    let m = links_in c.args.mesh.now.nvp c.args.mesh.now.polygons.now c.args.mesh.now.links.now in
    let inside : c.args.i < polygon_count m = omega (arith, c.requires.1, c.requires.2) in
    let words : (c.args.i * c.args.mesh.now.nvp) + c.args.mesh.now.nvp ≤ length c.args.mesh.now.polygons.now = row_fits m c.requires.0 c.args.i inside in
    record { fits = omega (arith, words) }

pub slice_bounds-sides_hold-end : goal.slice_bounds-sides_hold-end
slice_bounds-sides_hold-end c =
    let m = links_in c.args.mesh.now.nvp c.args.mesh.now.polygons.now c.args.mesh.now.links.now in
    let inside : c.args.i < polygon_count m = omega (arith, c.requires.1, c.requires.2) in
    let words : (c.args.i * c.args.mesh.now.nvp) + c.args.mesh.now.nvp ≤ length c.args.mesh.now.polygons.now = row_fits m c.requires.0 c.args.i inside in
    omega (arith, words, c.corners_end-to.ensures.within)

pub offset_bounds-mesh-from-2 : goal.offset_bounds-mesh-from-2
offset_bounds-mesh-from-2 c =
    let m = links_in c.args.mesh.now.nvp c.args.mesh.now.polygons.now c.args.mesh.now.links.now in
    let inside : c.args.i < polygon_count m = omega (arith, c.requires.1, c.requires.2) in
    let linked : (c.args.i * c.args.mesh.now.nvp) + c.args.mesh.now.nvp ≤ length c.args.mesh.now.links.now = links_fit m c.requires.0 c.args.i inside in
    record { fits = omega (arith, linked) }

pub slice_bounds-sides_hold-end-2 : goal.slice_bounds-sides_hold-end-2
slice_bounds-sides_hold-end-2 c =
    let m = links_in c.args.mesh.now.nvp c.args.mesh.now.polygons.now c.args.mesh.now.links.now in
    let inside : c.args.i < polygon_count m = omega (arith, c.requires.1, c.requires.2) in
    let linked : (c.args.i * c.args.mesh.now.nvp) + c.args.mesh.now.nvp ≤ length c.args.mesh.now.links.now = links_fit m c.requires.0 c.args.i inside in
    omega (arith, linked, c.corners_end-to.ensures.within)

pub sides_hold-requires : goal.sides_hold-requires
sides_hold-requires c =
    let m = links_in c.args.mesh.now.nvp c.args.mesh.now.polygons.now c.args.mesh.now.links.now in
    let start = c.args.i * c.args.mesh.now.nvp in
    let n = c.corners_end-to.result - start in
    let inside : c.args.i < polygon_count m = omega (arith, c.requires.1, c.requires.2) in
    let lent : PolygonAt m c.args.np c.args.i (view c.args.mesh.now.polygons.now start n) (view c.args.mesh.now.links.now start n) =
    polygon_lent m c.requires.0 c.args.i inside c.corners_end-to.result c.corners_end-to.ensures c.requires.1 in
    lent

pub overflow_add-from : goal.overflow_add-from
overflow_add-from c =
    let m = links_in c.args.mesh.now.nvp c.args.mesh.now.polygons.now c.args.mesh.now.links.now in
    let inside : c.args.i < polygon_count m = omega (arith, c.requires.1, c.requires.2) in
    let linked : (c.args.i * c.args.mesh.now.nvp) + c.args.mesh.now.nvp ≤ length c.args.mesh.now.links.now = links_fit m c.requires.0 c.args.i inside in
    record { fits = omega (arith, linked) }

pub offset_bounds-mesh-to : goal.offset_bounds-mesh-to
offset_bounds-mesh-to c =
    let m = links_in c.args.mesh.now.nvp c.args.mesh.now.polygons.now c.args.mesh.now.links.now in
    let inside : c.args.i < polygon_count m = omega (arith, c.requires.1, c.requires.2) in
    let linked : (c.args.i * c.args.mesh.now.nvp) + c.args.mesh.now.nvp ≤ length c.args.mesh.now.links.now = links_fit m c.requires.0 c.args.i inside in
    record { fits = omega (arith, linked, c.corners_end-to.ensures.within) }

pub slice_bounds-iter-end : goal.slice_bounds-iter-end
slice_bounds-iter-end c =
    let m = links_in c.args.mesh.now.nvp c.args.mesh.now.polygons.now c.args.mesh.now.links.now in
    let inside : c.args.i < polygon_count m = omega (arith, c.requires.1, c.requires.2) in
    let linked : (c.args.i * c.args.mesh.now.nvp) + c.args.mesh.now.nvp ≤ length c.args.mesh.now.links.now = links_fit m c.requires.0 c.args.i inside in
    omega (arith, linked)

pub slice_bounds-iter-start : goal.slice_bounds-iter-start
slice_bounds-iter-start c = c.corners_end-to.ensures.within

pub returns-then-sides_hold : goal.returns-then-sides_hold
returns-then-sides_hold c =
    let m = links_in c.args.mesh.now.nvp c.args.mesh.now.polygons.now c.args.mesh.now.links.now in
    let inside : c.args.i < polygon_count m = omega (arith, c.requires.1, c.requires.2) in
    let linked : (c.args.i * c.args.mesh.now.nvp) + c.args.mesh.now.nvp ≤ length c.args.mesh.now.links.now = links_fit m c.requires.0 c.args.i inside in
    let start = c.args.i * c.args.mesh.now.nvp in
    let n = c.corners_end-to.result - start in
    let lent : PolygonAt m c.args.np c.args.i (view c.args.mesh.now.polygons.now start n) (view c.args.mesh.now.links.now start n) =
    polygon_lent m c.requires.0 c.args.i inside c.corners_end-to.result c.corners_end-to.ensures c.requires.1 in
    let said : c.sides_hold.result ≡ all_of (link_holds (mesh_in m) c.args.i) 0 (length (corners_at (mesh_in m) c.args.i)) =
    c.sides_hold.ensures ∙ ap (λ (l : List ℕ). all_of (link_holds (mesh_in m) c.args.i) 0 (length l)) lent.corners in
    let counted : n ≡ length (corners_at (mesh_in m) c.args.i) = count_is m c.requires.0 c.args.i inside c.corners_end-to.result c.corners_end-to.ensures in
    all_from_yields_List (λ w. eqb w none) _ _ c.all.result c.all.ensures.ran
    (YieldsList-from_slice (view c.args.mesh.now.links.now c.corners_end-to.result (start + c.args.mesh.now.nvp - c.corners_end-to.result)) cc)
    (λ x b q k. search (rules, tests))
    ∙ past_decides m c.args.i said c.if-sides_hold.true c.corners_end-to.result (omega (arith, counted, c.corners_end-to.ensures.count))
    c.corners_end-to.ensures.within linked

pub returns-else-sides_hold : goal.returns-else-sides_hold
returns-else-sides_hold c =
    let m = links_in c.args.mesh.now.nvp c.args.mesh.now.polygons.now c.args.mesh.now.links.now in
    let inside : c.args.i < polygon_count m = omega (arith, c.requires.1, c.requires.2) in
    let linked : (c.args.i * c.args.mesh.now.nvp) + c.args.mesh.now.nvp ≤ length c.args.mesh.now.links.now = links_fit m c.requires.0 c.args.i inside in
    let start = c.args.i * c.args.mesh.now.nvp in
    let n = c.corners_end-to.result - start in
    let lent : PolygonAt m c.args.np c.args.i (view c.args.mesh.now.polygons.now start n) (view c.args.mesh.now.links.now start n) =
    polygon_lent m c.requires.0 c.args.i inside c.corners_end-to.result c.corners_end-to.ensures c.requires.1 in
    let said : c.sides_hold.result ≡ all_of (link_holds (mesh_in m) c.args.i) 0 (length (corners_at (mesh_in m) c.args.i)) =
    c.sides_hold.ensures ∙ ap (λ (l : List ℕ). all_of (link_holds (mesh_in m) c.args.i) 0 (length l)) lent.corners in
    c.if-sides_hold.false ∙ side_fails m c.args.i said c.if-sides_hold.false
