-- `facettext::number::put_four` meets its contract: the four digits are written in their places. Assumes nothing.
use mathlib.Core.Path.{refl}
use mathlib.Core.List.{[], ◌∷◌}
use Prim.Native.Nat.{◌+◌, ◌≤◌}
use native.Mathlib.Omega.{arith}
use lib.ListN.{length, length-set}
use Rattle.mem.specs.Slice.{set_each, stored_each}
use Rattle.rules.specs.StlText.{four_digits}
use Rattle.facettext.proofs.number.put_four.Goals as goal

room : (s : goal.Start) → s.args.at + 4 ≤ length s.args.out.now
unfolding four_digits
room s = s.requires.room

pub bounds-out-at : goal.bounds-out-at
bounds-out-at c = omega (arith, room c)

pub bounds-out-at-2 : goal.bounds-out-at-2
bounds-out-at-2 c = simp length-set (omega (arith, room c))

pub bounds-out-at-3 : goal.bounds-out-at-3
bounds-out-at-3 c = simp length-set (omega (arith, room c))

pub bounds-out-at-4 : goal.bounds-out-at-4
bounds-out-at-4 c = simp length-set (omega (arith, room c))

pub returns : goal.returns
unfolding four_digits set_each
returns c = record { text = stored_each _ _ _ (_ ∷ _ ∷ _ ∷ []); next = refl }
