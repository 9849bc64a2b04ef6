use native.Mathlib.Omega.{arith}
use Rattle.laws.proofs.StlWords.{reads_none, reads_more, reads_all}
use Rattle.stl.proofs.facets.get_facets.Goals as goal

pub loop-k-init : goal.loop-k-init
loop-k-init c = reads_none _ _

pub get_facet-requires : goal.get_facet-requires
get_facet-requires c =
    record {
      at_in_bounds = omega (arith, c.requires.n_in_bounds, c.loop-k-test.true);
      to_in_bounds = omega (arith, c.requires.n_in_bounds_2, c.loop-k-test.true, c.loop-k.invariant.long);
    }

pub loop-k-preserved : goal.loop-k-preserved
loop-k-preserved c =
    reads_more c.args.file.now c.loop-k.invariant c.requires.n_value c.loop-k-test.true c.get_facet.ensures

pub returns : goal.returns
returns c =
    reads_all c.args.file.now c.loop-k.invariant c.requires.n_value c.loop-k-test.false
