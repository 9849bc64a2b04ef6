-- `stl::read::take_facets` meets its contract: the facets fit the words, or they don't. Assumes nothing.
use mathlib.Core.Path.{◌≡◌}
use native.Mathlib.Omega.{arith}
use Rattle.rules.specs.Stl.{count_in}
use Rattle.stl.proofs.Reading.{front_there, facets_there, points_short, points_taken}
use Rattle.stl.proofs.read.take_facets.Goals as goal

pub get_u32-n-requires : goal.get_u32-n-requires
get_u32-n-requires c = omega (arith, front_there c.args.file.now c.requires)

pub returns-then-words-n : goal.returns-then-words-n
unfolding count_in
returns-then-words-n c =
    let count : c.get_u32-n.result ≡ count_in c.args.file.now = c.get_u32-n.ensures in
    let both = points_short _ _ count c.if-words-n.true in
    record { answer = both.0; words = both.1 }

pub get_facets-requires : goal.get_facets-requires
unfolding count_in
get_facets-requires c =
    let count : c.get_u32-n.result ≡ count_in c.args.file.now = c.get_u32-n.ensures in
    let n = count in
    record {
      n_value = n;
      n_in_bounds = omega (arith, n, facets_there c.args.file.now c.requires);
      n_in_bounds_2 = omega (arith, c.if-words-n.false);
    }

pub returns : goal.returns
unfolding count_in
returns c =
    let count : c.get_u32-n.result ≡ count_in c.args.file.now = c.get_u32-n.ensures in
    let both = points_taken _ _ count c.if-words-n.false c.get_facets.ensures in
    record { answer = both.0; words = both.1 }
