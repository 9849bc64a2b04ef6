-- `trails::trail::try_side` meets its contract: each arm is the definition with its tests known. Assumes nothing.
use Rattle.std.proofs.Common.{refl, sym, eq-eqb}
use borrow.Author.Tests.{ne_eqb}
use Rattle.trails.proofs.Steps.{tried_front, tried_back, tried_past}
use Rattle.trails.proofs.trail.try_side.Goals as goal

pub returns-then-behind : goal.returns-then-behind
returns-then-behind c =
    tried_back c.args.part.now c.args.t c.load_side-s.ensures c.load_point-first.ensures c.load_point-last.ensures
    refl (sym (ne_eqb _ _ c.if-in_front.false)) refl (sym (eq-eqb _ _ c.if-behind.true)) c.link_back.ensures

pub returns-else-behind : goal.returns-else-behind
returns-else-behind c =
    tried_past c.args.part.now c.args.t c.load_side-s.ensures c.load_point-first.ensures c.load_point-last.ensures
    refl (sym (ne_eqb _ _ c.if-in_front.false)) refl (sym (ne_eqb _ _ c.if-behind.false)) c.requires

pub returns-then-in_front : goal.returns-then-in_front
returns-then-in_front c =
    tried_front c.args.part.now c.args.t c.load_side-s.ensures c.load_point-first.ensures
    refl (sym (eq-eqb _ _ c.if-in_front.true)) c.link_front.ensures
