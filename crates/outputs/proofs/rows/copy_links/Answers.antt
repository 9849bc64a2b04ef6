use Rattle.mem.specs.Packed.{laid_none}
use Rattle.outputs.proofs.Copies.{link_copied, links_copied}
use Rattle.outputs.proofs.rows.copy_links.Goals as goal

pub loop-i-init : goal.loop-i-init
loop-i-init c = laid_none _ _ _ _

pub loop-i-preserved : goal.loop-i-preserved
loop-i-preserved c = link_copied c.requires c.loop-i.invariant c.loop-i-test.true c.put_links.ensures

pub returns : goal.returns
returns c = links_copied c.requires c.loop-i.invariant c.loop-i-test.false
