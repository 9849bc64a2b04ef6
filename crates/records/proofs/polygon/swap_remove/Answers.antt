use Prim.Native.Nat.{◌-◌}
use Rattle.mem.specs.Packed.{every_at}
use Rattle.rules.specs.Mesh.{no_polygon}
use Rattle.records.specs.Layout.{Small}
use Rattle.records.specs.Polygons.{swap_steps}
use borrow.Author.Rules.{rules}
use Rattle.records.proofs.polygon.swap_remove.Goals as goal

-- src/polygon.rt:122:9
pub load_at-last-requires : goal.load_at-last-requires
load_at-last-requires c = (search rules, search rules, every_at Small no_polygon _ c.requires.all (c.args.polygons.n - 1))

-- src/polygon.rt:118:1
pub returns : goal.returns
returns c =
    swap_steps c.args.work.now c.args.polygons.at c.args.polygons.n c.args.i c.requires c.load_at-last.ensures c.store_at.ensures c.blank.ensures.0 c.store_at-2.ensures
