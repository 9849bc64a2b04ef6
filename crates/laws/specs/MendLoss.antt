-- Request 12, on the plane: what is left of a ring of places when the one after i is lost, or two. Definitions only.
use Rattle.std.specs.Prelude.{ℕ, List}
use Rattle.std.proofs.Math.ListN.{length}
use Rattle.rules.specs.Lists.{next, without}
use Rattle.rules.specs.Mend.{place_then}

-- the one after i is lost; and then the one that is after i now
unfoldable pub lost_one : {A : Type 0} → List A → ℕ → List A
lost_one l i = without l (next i (length l))

unfoldable pub lost_two : {A : Type 0} → List A → ℕ → List A
lost_two l i = lost_one (lost_one l i) (place_then i (length l))
