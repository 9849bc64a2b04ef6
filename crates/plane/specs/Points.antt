-- Points as words of a slice: x, z, x, z, .. Definitions only.
use Rattle.std.specs.Prelude.{ℕ, ◌+◌, ◌*◌, ◌/◌, ◌^◌, ◌≤◌, List, length, slice_index}
use Rattle.mem.specs.Tab.{tab}
use Rattle.rules.specs.declared.Point.{Point}

-- the point at place k
unfoldable pub point_of : List ℕ → ℕ → Point
point_of ws k = record { x = slice_index ws (k * 2); z = slice_index ws (k * 2 + 1) }

-- all of them
unfoldable pub points_in : List ℕ → List Point
points_in ws = tab (point_of ws) (length ws / 2)

-- words that are coordinates of an accepted job, and not so many that their areas don't add up in 64 bits
pub record GridWords (ws : List ℕ) : Type 0 where
  pub small : (k : ℕ) → slice_index ws k ≤ 32767
  pub few : length ws ≤ 2 ^ 32
