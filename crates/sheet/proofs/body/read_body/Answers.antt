use native.Mathlib.Omega.{arith}
use Rattle.lines.specs.Exits.{passed_on}
use Rattle.sheet.proofs.Bodies.{going_begin, going_ready, going_further, going_next, going_refused, going_due, going_end}
use Rattle.sheet.proofs.body.read_body.Goals as goal

pub loop-p-init : goal.loop-p-init
loop-p-init c = going_begin c.requires

pub one_line-requires : goal.one_line-requires
one_line-requires c = going_ready c.loop-p.invariant (omega arith)

pub returns-in_err-p : goal.returns-in_err-p
returns-in_err-p c = rw (passed_on _ c.from_residual.ensures.1) (going_refused c.loop-p.invariant c.one_line.ensures c.in_err-p.was)

pub loop-p-smaller : goal.loop-p-smaller
loop-p-smaller c = let f = going_further c.loop-p.invariant c.one_line.ensures c.in_ok-p.was in omega (arith, f.further)

pub loop-p-preserved : goal.loop-p-preserved
loop-p-preserved c = going_next c.loop-p.invariant c.one_line.ensures c.in_ok-p.was

pub returns-then-p-gt0 : goal.returns-then-p-gt0
returns-then-p-gt0 c = going_due c.loop-p.invariant (omega arith) (omega arith)

pub returns : goal.returns
returns c = going_end c.loop-p.invariant (omega arith) (omega arith)
