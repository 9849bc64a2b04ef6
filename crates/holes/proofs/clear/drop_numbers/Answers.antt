use Rattle.mem.specs.Packed.{laid_none}
use Rattle.holes.proofs.Clears.{dropping_stands, dropping_more, dropping_all}
use borrow.Author.Rules.{rules}
use Rattle.holes.proofs.clear.drop_numbers.Goals as goal

pub loop-i-init : goal.loop-i-init
loop-i-init c = laid_none _ _ _ _

pub overflow_mul-i : goal.overflow_mul-i
overflow_mul-i c = let h = (dropping_stands c.requires _ c.loop-i.invariant (search rules)).fits in search rules

pub overflow_add-o : goal.overflow_add-o
overflow_add-o c = let h = (dropping_stands c.requires _ c.loop-i.invariant (search rules)).fits in search rules

pub drop_corners-requires : goal.drop_corners-requires
drop_corners-requires c = dropping_stands c.requires _ c.loop-i.invariant (search rules)

pub loop-i-preserved : goal.loop-i-preserved
loop-i-preserved c = dropping_more c.requires _ c.loop-i.invariant (search rules) c.drop_corners.ensures

pub returns : goal.returns
returns c = dropping_all c.requires _ c.loop-i.invariant c.loop-i-test.false
