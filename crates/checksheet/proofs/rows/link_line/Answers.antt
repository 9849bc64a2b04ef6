-- `checksheet::rows::link_line` meets its contract: the links that were read are stored, and the rest comes to the same. Assumes nothing.
use mathlib.Core.Path.{sym, ap, ◌∙◌}
use Prim.Native.Nat.{ℕ, ◌-◌, ◌≤◌}
use native.Mathlib.Omega.{arith}
use lib.ListN.{length, replicate}
use lib.Seq.{length-take-le}
use Rattle.mem.specs.Slice.{view, splice}
use Rattle.rules.specs.Lines.{ascii, tab_byte, parts}
use Rattle.rules.specs.Sheet.{n_name}
use Rattle.checksheet.proofs.RowLines.{LinksGood, links_good, links_none, links_ready, links_open, links_missed, links_put}
use Rattle.checksheet.proofs.Padded.{map_same}
use Rattle.checksheet.proofs.rows.link_line.Goals as goal

pub returns-then-e-text : goal.returns-then-e-text
returns-then-e-text c = links_open c.requires c.find-e.ensures.0 c.if-e-text.true

pub read_row-requires : goal.read_row-requires
read_row-requires c =
    let few : c.args.n ≤ 12 = omega (arith, c.requires.corners, c.requires.few) in
    let e = length-take-le {A = ℕ} c.args.n (replicate 12 4294967295) (few) in
    omega (arith, few)

pub slice_bounds-put_row-end : goal.slice_bounds-put_row-end
unfolding n_name ascii
slice_bounds-put_row-end c =
    let few : c.args.n ≤ 12 = omega (arith, c.requires.corners, c.requires.few) in
    let good_line : LinksGood c.args.n (parts tab_byte (view c.args.text.now c.args.p.at (c.find-e.result - c.args.p.at)))
    c.read_row.new.values = links_good c.args.n _ (few) c.read_row.ensures c.if-read_row.true in
    let g = good_line in sym (ap length g.first ∙ g.long)

pub put_row-requires : goal.put_row-requires
unfolding n_name ascii
put_row-requires c =
    let few : c.args.n ≤ 12 = omega (arith, c.requires.corners, c.requires.few) in
    let good_line : LinksGood c.args.n (parts tab_byte (view c.args.text.now c.args.p.at (c.find-e.result - c.args.p.at)))
    c.read_row.new.values = links_good c.args.n _ (few) c.read_row.ensures c.if-read_row.true in
    links_ready c.args.i (good_line) c.requires.corners c.requires.room

pub returns-then-read_row : goal.returns-then-read_row
unfolding n_name ascii
returns-then-read_row c =
    let few : c.args.n ≤ 12 = omega (arith, c.requires.corners, c.requires.few) in
    let good_line : LinksGood c.args.n (parts tab_byte (view c.args.text.now c.args.p.at (c.find-e.result - c.args.p.at)))
    c.read_row.new.values = links_good c.args.n _ (few) c.read_row.ensures c.if-read_row.true in
    links_put c.requires c.find-e.ensures.0 c.if-e-text.false (good_line) (c.put_row.ensures ∙ ap (splice _ _) (map_same _))

pub returns : goal.returns
unfolding n_name ascii
returns c =
    let few : c.args.n ≤ 12 = omega (arith, c.requires.corners, c.requires.few) in
    links_missed c.requires c.find-e.ensures.0 c.if-e-text.false
    (links_none c.args.n _ (few) c.read_row.ensures c.if-read_row.false)
