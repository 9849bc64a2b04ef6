-- `ears::search::key_from` meets its contract: each arm is the definition at its kind; the places that it reads are in the ring. Assumes nothing.
use native.Mathlib.Omega.{arith}
use Rattle.rules.specs.Ears.{key_from, key_end}
use Rattle.laws.proofs.Ring.{next_below}
use Rattle.ears.proofs.search.key_from.Goals as goal

pub corner-requires : goal.corner-requires
corner-requires c =
    (c.requires.0, rw c.next-i2.ensures (next_below _ _ (omega arith)))

pub corner-requires-in-Loose : goal.corner-requires-in-Loose
corner-requires-in-Loose c =
    (c.requires.0, rw c.next-in-Loose.ensures (next_below _ _ (omega arith)))

pub returns-in-Strict : goal.returns-in-Strict
unfolding key_from key_end
returns-in-Strict c =
    rw (
      c.in-Strict.is,
      ← c.next.ensures,
      ← c.next-i2.ensures,
      ← c.corner-a.ensures.0,
      ← c.corner.ensures.0,
    )
    c.key_of.ensures

pub returns-in-Loose : goal.returns-in-Loose
unfolding key_from key_end
returns-in-Loose c =
    rw (
      c.in-Loose.is,
      ← c.next.ensures,
      ← c.next-i2.ensures,
      ← c.next-in-Loose.ensures,
      ← c.corner-a.ensures.0,
      ← c.corner-in-Loose.ensures.0,
    ) c.key_of-in-Loose.ensures
