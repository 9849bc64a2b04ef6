-- `trails::sides::push_side` meets its contract: a side that touches the vertex is none, and any other one is written. Assumes nothing.
use mathlib.Core.Path.{◌≡◌, ap, ◌∙◌}
use borrow.Author.Rules.{rules}
use lib.ListN.{length}
use mathlib.Core.List.{[]}
use Rattle.rules.specs.Removal.{untouched_side, side_into}
use Rattle.records.specs.Values.{polygon_of}
use Rattle.trails.proofs.Given.{on_prev, into, touched_start, touched_end, untouched_one, laid_none, laid_one, laid_as}
use Rattle.trails.proofs.sides.push_side.Goals as goal
use Rattle.trails.proofs.sides.push_side.Goals.{then-a-rem-via-then-a-rem, then-a-rem-via-else-a-rem+then-b-rem}

pub corner-a-requires : goal.corner-a-requires
corner-a-requires c =
    on_prev c.args.rem c.args.p c.args.j (search rules) c.requires.0 c.prev.ensures

pub returns-then-a-rem : goal.returns-then-a-rem
returns-then-a-rem c =
    let g = c.args in
    let a = c.corner-a.result in
    let b = c.corner-b.result in
    let read : side_into g.rem (polygon_of g.p) g.j ≡ untouched_side g.rem (polygon_of g.p) a b =
    into g.rem g.p g.j (search rules) c.requires.0 c.prev.ensures c.corner-a.ensures c.corner-b.ensures in
    let none : untouched_side g.rem (polygon_of g.p) a b ≡ [] = elim c.then-a-rem.branch [
      | then-a-rem-via-then-a-rem w ↦ touched_start g.rem (polygon_of g.p) a b w.if-a-rem.true
      | then-a-rem-via-else-a-rem+then-b-rem w ↦ touched_end g.rem (polygon_of g.p) a b w.if-a-rem.false w.if-b-rem.true
    ] in
    laid_as (read ∙ none) (laid_none g.rem g.at g.work.now)

pub store_side-requires : goal.store_side-requires
store_side-requires c =
    let read : let g = c.args in
    side_into g.rem (polygon_of g.p) g.j ≡ untouched_side g.rem (polygon_of g.p) c.corner-a.result c.corner-b.result =
    into c.args.rem c.args.p c.args.j (search rules) c.requires.0 c.prev.ensures c.corner-a.ensures c.corner-b.ensures in
    let g = c.args in
    let e = ap length (read ∙ untouched_one g.rem (polygon_of g.p) _ _ c.if-a-rem.false c.if-b-rem.false) in
    search rules

pub returns : goal.returns
returns c =
    let read : let g = c.args in
    side_into g.rem (polygon_of g.p) g.j ≡ untouched_side g.rem (polygon_of g.p) c.corner-a.result c.corner-b.result =
    into c.args.rem c.args.p c.args.j (search rules) c.requires.0 c.prev.ensures c.corner-a.ensures c.corner-b.ensures in
    let g = c.args in
    laid_as (read ∙ untouched_one g.rem (polygon_of g.p) _ _ c.if-a-rem.false c.if-b-rem.false)
    (laid_one g.rem g.p c.corner-a.result c.corner-b.result g.at g.work.now
    c.dropped.ensures c.dropped-2.ensures c.store_side.ensures)
