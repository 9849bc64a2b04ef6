-- `stl::read::read_stl` meets its contract: a wrong length, the first byte that is wrong, or else the facets decide. Assumes nothing.
use mathlib.Core.Path.{sym, ◌∙◌}
use Rattle.stl.proofs.Reading.{read_whole, read_bad_length, read_not_zero}
use Rattle.stl.proofs.read.read_stl.Goals as goal

pub take_facets-requires : goal.take_facets-requires
take_facets-requires c = sym c.right_length.ensures ∙ c.if-right_length.true

pub returns-in-Some : goal.returns-in-Some
returns-in-Some c =
    let both = read_not_zero _ _ c.right_length.ensures c.if-right_length.true c.first_wrong.ensures c.in-Some.is in
    record { answer = both.0; words = both.1 }

pub returns-in-None : goal.returns-in-None
returns-in-None c =
    let both = read_whole _ _ c.right_length.ensures c.if-right_length.true c.first_wrong.ensures c.in-None.is
    (c.take_facets.ensures.answer, c.take_facets.ensures.words) in
    record { answer = both.0; words = both.1 }

pub returns : goal.returns
returns c =
    let both = read_bad_length _ _ c.right_length.ensures c.if-right_length.false in
    record { answer = both.0; words = both.1 }
