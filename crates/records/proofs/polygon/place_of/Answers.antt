-- `records::polygon::place_of` meets its contract: a corner is one of the vertices. Assumes nothing.
use mathlib.Core.Path.{ap, ◌∙◌}
use borrow.Author.Rules.{rules}
use Rattle.rules.specs.Mesh.{place_of}
use Rattle.records.specs.Layout.{vertices_at}
use Rattle.records.specs.Polygons.{below_at}
use Rattle.records.proofs.polygon.place_of.Goals as goal

pub place_at-requires : goal.place_at-requires
place_at-requires c =
    (c.requires.0, rw c.corner.ensures (below_at c.args.p c.args.vertices.n c.args.i (search rules) c.requires.1 c.requires.2))

pub returns : goal.returns
returns c =
    (c.place_at.ensures.0 ∙ ap (place_of (vertices_at c.args.work.now c.args.vertices.at c.args.vertices.n)) c.corner.ensures, c.place_at.ensures.1)
