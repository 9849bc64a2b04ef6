-- `ears::diagonal::is_diagonal` meets its contract: each arm is the definition with its test known; the places before and after i are in the ring.
-- Assumes nothing.
use native.Mathlib.Omega.{arith}
use Rattle.rules.specs.Diagonal.{is_diagonal}
use Rattle.laws.proofs.Ring.{next_below}
use Rattle.laws.proofs.Ring.{prev_below}
use Rattle.ears.proofs.diagonal.is_diagonal.Goals as goal

pub corner-p-requires : goal.corner-p-requires
corner-p-requires c = (c.requires.0, rw c.prev.ensures (prev_below _ _ c.requires.1))

pub corner-q-requires : goal.corner-q-requires
corner-q-requires c = (c.requires.0, rw c.next.ensures (next_below _ _ (omega arith)))

pub returns-then-in_cone : goal.returns-then-in_cone
unfolding is_diagonal
returns-then-in_cone c =
    rw (
      ← c.prev.ensures,
      ← c.next.ensures,
      ← c.corner-p.ensures.0,
      ← c.corner-a.ensures.0,
      ← c.corner-q.ensures.0,
      ← c.corner-b.ensures.0,
      ← c.in_cone.ensures,
      c.if-in_cone.true,
    ) c.is_clear.ensures

pub returns-else-in_cone : goal.returns-else-in_cone
unfolding is_diagonal
returns-else-in_cone c =
    rw (
      ← c.prev.ensures,
      ← c.next.ensures,
      ← c.corner-p.ensures.0,
      ← c.corner-a.ensures.0,
      ← c.corner-q.ensures.0,
      ← c.corner-b.ensures.0,
      ← c.in_cone.ensures,
      c.if-in_cone.false,
    )
