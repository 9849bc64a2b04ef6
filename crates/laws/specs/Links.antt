-- R6 and R7: how great links are, and that there is one for each side. Definitions only.
use Rattle.std.specs.Prelude.{ℕ, ◌≤◌, ◌≡◌, length, get_or}
use mathlib.Core.List.{List, []}
use Rattle.mem.specs.Packed.{Every}
use Rattle.rules.specs.Mesh.{Polygon, polygon_at}
use Rattle.rules.specs.Links.{none}

-- links of which none is above n
abbrev pub UpTo : ℕ → List ℕ → Type 0
UpTo n l = Every (λ k. k ≤ n) none l

-- ls has one link for each side of ps
pub record Shaped (ps : List Polygon) (ls : List (List ℕ)) : Type 0 where
  pub polygons : length ls ≡ length ps
  pub sides : (i : ℕ) → length (get_or ls i []) ≡ length (polygon_at ps i).corners
