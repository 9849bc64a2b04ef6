use mathlib.Core.Path.{◌≡◌, ◌∙◌}
use mathlib.Core.Bool.{true}
use Prim.Native.Nat.{◌+◌, ◌*◌, ◌≤◌}
use lib.Dec.{ltb}
use lib.ListN.{length}
use Rattle.rules.specs.Mesh.{polygon_at}
use Rattle.rules.specs.Removal.{holds, untouched}
use Rattle.records.specs.Values.{polygon_of, Loaded}
use Rattle.records.specs.Layout.{side_size, polygons_at}
use Rattle.trails.proofs.Order.{collecting_begin, collecting_room, collecting_more, collecting_past, collecting_end}
use Rattle.trails.proofs.Order.{fits_now, few_now, number_now, small_now, held_now, loaded_now}
use borrow.Author.Rules.{rules}
use Rattle.trails.proofs.sides.collect_sides.Goals as goal

pub loop-i-init : goal.loop-i-init
loop-i-init c = collecting_begin c.requires

pub is_held-requires : goal.is_held-requires
is_held-requires c =
    let at = c.loop-i in
    (fits_now c.requires at.invariant, number_now c.requires at.invariant (search rules), small_now c.requires at.invariant at.k)

pub load_at-p-requires : goal.load_at-p-requires
load_at-p-requires c =
    let at = c.loop-i in
    (fits_now c.requires at.invariant, number_now c.requires at.invariant (search rules), small_now c.requires at.invariant at.k)

pub overflow_mul-n : goal.overflow_mul-n
overflow_mul-n c =
    let seen : let g = c.args in
    Loaded (polygon_at (polygons_at g.work.now g.polygons.at g.polygons.n) c.loop-i.k) c.load_at-p.result = loaded_now c.requires c.loop-i.invariant c.load_at-p.ensures in
    let held : let g = c.args in
    ltb 0 (holds g.rem (polygon_at (polygons_at g.work.now g.polygons.at g.polygons.n) c.loop-i.k)) ≡ true = held_now c.requires c.loop-i.invariant c.is_held.ensures ∙
    c.if-is_held.true in
    let room_at : let at = c.loop-i in let g = c.args in
    g.q + at.n * side_size + length (untouched g.rem (polygon_of c.load_at-p.result)) * side_size ≤ length at.work =
    collecting_room c.loop-i.invariant (search rules) (seen) (held) in
    let h = room_at in search rules

pub overflow_add-q : goal.overflow_add-q
overflow_add-q c =
    let seen : let g = c.args in
    Loaded (polygon_at (polygons_at g.work.now g.polygons.at g.polygons.n) c.loop-i.k) c.load_at-p.result = loaded_now c.requires c.loop-i.invariant c.load_at-p.ensures in
    let held : let g = c.args in
    ltb 0 (holds g.rem (polygon_at (polygons_at g.work.now g.polygons.at g.polygons.n) c.loop-i.k)) ≡ true = held_now c.requires c.loop-i.invariant c.is_held.ensures ∙
    c.if-is_held.true in
    let room_at : let at = c.loop-i in let g = c.args in
    g.q + at.n * side_size + length (untouched g.rem (polygon_of c.load_at-p.result)) * side_size ≤ length at.work =
    collecting_room c.loop-i.invariant (search rules) (seen) (held) in
    let h = room_at in search rules

pub push_sides-n-requires : goal.push_sides-n-requires
push_sides-n-requires c =
    let seen : let g = c.args in
    Loaded (polygon_at (polygons_at g.work.now g.polygons.at g.polygons.n) c.loop-i.k) c.load_at-p.result = loaded_now c.requires c.loop-i.invariant c.load_at-p.ensures in
    let held : let g = c.args in
    ltb 0 (holds g.rem (polygon_at (polygons_at g.work.now g.polygons.at g.polygons.n) c.loop-i.k)) ≡ true = held_now c.requires c.loop-i.invariant c.is_held.ensures ∙
    c.if-is_held.true in
    let room_at : let at = c.loop-i in let g = c.args in
    g.q + at.n * side_size + length (untouched g.rem (polygon_of c.load_at-p.result)) * side_size ≤ length at.work =
    collecting_room c.loop-i.invariant (search rules) (seen) (held) in
    (search rules, room_at)

pub overflow_add-n : goal.overflow_add-n
overflow_add-n c =
    let seen : let g = c.args in
    Loaded (polygon_at (polygons_at g.work.now g.polygons.at g.polygons.n) c.loop-i.k) c.load_at-p.result = loaded_now c.requires c.loop-i.invariant c.load_at-p.ensures in
    let held : let g = c.args in
    ltb 0 (holds g.rem (polygon_at (polygons_at g.work.now g.polygons.at g.polygons.n) c.loop-i.k)) ≡ true = held_now c.requires c.loop-i.invariant c.is_held.ensures ∙
    c.if-is_held.true in
    let room_at : let at = c.loop-i in let g = c.args in
    g.q + at.n * side_size + length (untouched g.rem (polygon_of c.load_at-p.result)) * side_size ≤ length at.work =
    collecting_room c.loop-i.invariant (search rules) (seen) (held) in
    let h = room_at in search rules

pub loop-i-preserved-then-is_held : goal.loop-i-preserved-then-is_held
loop-i-preserved-then-is_held c =
    let seen : let g = c.args in
    Loaded (polygon_at (polygons_at g.work.now g.polygons.at g.polygons.n) c.loop-i.k) c.load_at-p.result = loaded_now c.requires c.loop-i.invariant c.load_at-p.ensures in
    let held : let g = c.args in
    ltb 0 (holds g.rem (polygon_at (polygons_at g.work.now g.polygons.at g.polygons.n) c.loop-i.k)) ≡ true = held_now c.requires c.loop-i.invariant c.is_held.ensures ∙
    c.if-is_held.true in
    collecting_more c.loop-i.invariant (search rules) (seen) (held) c.push_sides-n.ensures c.push_sides-n.auto.work

pub overflow_add-i : goal.overflow_add-i
overflow_add-i c =
    let h = few_now c.requires c.loop-i.invariant in
    search rules

pub loop-i-preserved : goal.loop-i-preserved
loop-i-preserved c = collecting_past c.loop-i.invariant (search rules) (held_now c.requires c.loop-i.invariant c.is_held.ensures ∙ c.if-is_held.false)

pub returns : goal.returns
returns c = collecting_end c.requires c.loop-i.invariant (search rules)
