use mathlib.Core.Path.{ap, ◌∙◌}
use native.Mathlib.Omega.{arith}
use Rattle.mem.specs.Slice.{splice}
use Rattle.mem.specs.Tab.{filled_none, filled_more, filled_all}
use Rattle.outputs.proofs.Words.{region_is, region_narrow, code_is, code_narrow, each_polygon}
use Rattle.outputs.proofs.tags.copy_tags.Goals as goal

pub loop-i-init : goal.loop-i-init
loop-i-init c = record { regions = filled_none _ _ _ _; codes = filled_none _ _ _ _ }

pub overflow_cast-regions : goal.overflow_cast-regions
overflow_cast-regions c = record { fits = region_narrow c.requires.0 _ c.loop-i-test.true }

pub overflow_cast-codes : goal.overflow_cast-codes
overflow_cast-codes c = record { fits = code_narrow c.requires.1 _ c.loop-i-test.true }

pub loop-i-preserved : goal.loop-i-preserved
loop-i-preserved c = record {
  regions = filled_more c.loop-i.invariant.regions _ _ (omega arith) (region_is _ _ _ _ c.loop-i-test.true) c.loop-i-test.true;
  codes = filled_more c.loop-i.invariant.codes _ _ (omega arith) (code_is _ _ _ _ c.loop-i-test.true) c.loop-i-test.true;
}

pub returns-clause-regions : goal.returns-clause-regions
returns-clause-regions c = filled_all c.loop-i.invariant.regions c.loop-i-test.false ∙ ap (splice c.args.regions.now 0) (each_polygon (λ p. p.region) _ _ _)

pub returns-clause-codes : goal.returns-clause-codes
returns-clause-codes c = filled_all c.loop-i.invariant.codes c.loop-i-test.false ∙ ap (splice c.args.codes.now 0) (each_polygon (λ p. p.code) _ _ _)
