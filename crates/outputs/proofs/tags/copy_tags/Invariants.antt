-- `outputs::tags::copy_tags` meets its contract: the regions and the area codes of the polygons so far are written. Assumes nothing.
use Rattle.mem.specs.Tab.{Filled}
use Rattle.rules.specs.Mesh.{polygon_at}
use Rattle.records.specs.Layout.{polygons_at}
use Rattle.outputs.proofs.tags.copy_tags.Given as goal

abbrev pub invariant-loop-i : goal.invariant-loop-i
invariant-loop-i l = record {
  regions : Filled l.initial.regions 0 (λ j. (polygon_at (polygons_at l.work l.at.polygons.at l.at.polygons.n) j).region) l.at.polygons.n l.regions l.i;
  codes : Filled l.initial.codes 0 (λ j. (polygon_at (polygons_at l.work l.at.polygons.at l.at.polygons.n) j).code) l.at.polygons.n l.codes l.i;
}
