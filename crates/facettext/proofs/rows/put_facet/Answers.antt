-- `facettext::rows::put_facet` meets its contract: the facet's patterns are read, and its line is printed of them. Assumes nothing.
use mathlib.Core.Path.{◌≡◌, ap, ◌∙◌}
use lib.ListN.{length}
use Rattle.mem.specs.Slice.{view}
use Rattle.rules.specs.Stl.{facet_in}
use Rattle.rules.specs.StlText.{facet_line}
use Rattle.lines.specs.Printing.{printed_as, printed_same_length, room_as}
use Rattle.facettext.proofs.Facets.{facet_nine, words_are}
use Rattle.facettext.proofs.rows.put_facet.Goals as goal

pub put_facet_line-requires : goal.put_facet_line-requires
put_facet_line-requires c =
    let read : c.get_facet.new.words ≡ facet_in (view c.args.file.now c.args.from 50) = words_are (view c.args.file.now c.args.from 50) c.get_facet.ensures in
    record {
      f_len = ap length read ∙ facet_nine (view c.args.file.now c.args.from 50);
      room = room_as c.args.out.now c.args.at (ap facet_line read) c.requires.room;
    }

pub returns : goal.returns
returns c =
    let read : c.get_facet.new.words ≡ facet_in (view c.args.file.now c.args.from 50) = words_are (view c.args.file.now c.args.from 50) c.get_facet.ensures in
    printed_as c.put_facet_line.ensures (ap facet_line (read))

pub shape_of-out : goal.shape_of-out
shape_of-out c = printed_same_length (returns c)
