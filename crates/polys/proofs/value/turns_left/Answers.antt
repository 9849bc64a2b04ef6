-- `polys::value::turns_left` meets its contract: the three places are those of the definition. Assumes nothing.
use mathlib.Core.Path.{◌∙◌}
use Rattle.records.specs.Corners.{few_from}
use Rattle.polys.proofs.Values.{left_made}
use borrow.Author.Rules.{rules}
use Rattle.polys.proofs.value.turns_left.Goals as goal

pub overflow_add-i : goal.overflow_add-i
overflow_add-i c = let h = few_from c.requires.a_on.stands in search rules

pub overflow_add-j : goal.overflow_add-j
overflow_add-j c = let h = few_from c.requires.b_on.stands in search rules

pub returns : goal.returns
returns c =
    c.is_left.ensures
    ∙ left_made _ _ _ _ _ c.count_from-na.ensures c.count_from-nb.ensures c.place_from-a.ensures.0
    c.place_from-b.ensures.0 c.place_from-c.ensures.0
