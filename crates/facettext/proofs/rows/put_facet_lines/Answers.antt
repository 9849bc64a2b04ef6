use Prim.Native.Nat.{◌*◌}
use native.Mathlib.Nat.{le_refl}
use native.Mathlib.Omega.{arith}
use Rattle.mem.specs.Loops.{block_fits}
use Rattle.lines.specs.Pieces.{pieces_none, pieces_room, pieces_more, pieces_all}
use Rattle.lines.specs.Printing.{printed_same_length}
use Rattle.facettext.proofs.Facets.{lines_over}
use Rattle.facettext.proofs.rows.put_facet_lines.Goals as goal

pub loop-k-init : goal.loop-k-init
loop-k-init c =
    pieces_none _ _ (lines_over c.args.file.now c.args.n c.requires.n_value) c.requires.room

pub put_facet-to-requires : goal.put_facet-to-requires
put_facet-to-requires c =
    let k = c.loop-k.k in
    let n = c.args.n in
    let fits = block_fits k n 50 (n * 50) c.loop-k-test.true (le_refl (n * 50)) in
    record {
      from_in_bounds = omega (arith, fits, c.requires.n_in_bounds);
      room = pieces_room c.loop-k.invariant c.loop-k-test.true;
    }

pub loop-k-preserved : goal.loop-k-preserved
loop-k-preserved c =
    pieces_more c.loop-k.invariant c.loop-k-test.true c.put_facet-to.ensures

pub returns : goal.returns
returns c = pieces_all c.loop-k.invariant c.loop-k-test.false

pub shape_of-out : goal.shape_of-out
shape_of-out c = printed_same_length (returns c)
