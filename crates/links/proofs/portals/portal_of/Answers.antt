-- `links::portals::portal_of` meets its contract: the four edges are tried in the rules' order. Assumes nothing.
use mathlib.Core.Path.{refl}
use Rattle.rules.specs.Portals.{portal_of}
use Rattle.links.proofs.portals.portal_of.Goals as goal

pub returns-then-a-b : goal.returns-then-a-b
unfolding portal_of
returns-then-a-b c = rw c.if-a-b.true refl

pub returns-then-a-h : goal.returns-then-a-h
unfolding portal_of
returns-then-a-h c = rw (c.if-a-b.false, c.if-a-h.true) refl

pub returns-then-a-w : goal.returns-then-a-w
unfolding portal_of
returns-then-a-w c = rw (c.if-a-b.false, c.if-a-h.false, c.if-a-w.true) refl

pub returns-then-a-b-2 : goal.returns-then-a-b-2
unfolding portal_of
returns-then-a-b-2 c = rw (c.if-a-b.false, c.if-a-h.false, c.if-a-w.false, c.if-a-b-2.true) refl

pub returns : goal.returns
unfolding portal_of
returns c = rw (c.if-a-b.false, c.if-a-h.false, c.if-a-w.false, c.if-a-b-2.false) refl
