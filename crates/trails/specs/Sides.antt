-- The sides around a vertex: what the functions that collect them ask for and leave. Definitions only.
use Rattle.std.specs.Prelude.{◌≡◌, List, map, ℕ, ◌+◌, ◌*◌, ◌≤◌, length}
use Rattle.mem.specs.Slice.{splice}
use Rattle.mem.specs.Packed.{Every}
use Rattle.rules.specs.Mesh.{no_polygon}
use Rattle.rules.specs.Removal.{dropped_side, sides_left}
use Rattle.rules.specs.declared.Side.{Side}
use Rattle.records.specs.Layout.{polygon_size, polygons_at, Small, side_size, sides_at, side_records}

-- the words of sides in the numbers that hold once the vertex has gone
unfoldable pub dropped_words : ℕ → List Side → List ℕ
dropped_words rem ss = side_records (map (dropped_side rem) ss)

-- r sides, ss, were written from `at` on, in those numbers
pub record Laid (rem : ℕ) (ss : List Side) (w u : List ℕ) (at r : ℕ) : Type 0 where
  pub count : r ≡ length ss
  pub is : u ≡ splice w at (dropped_words rem ss)

-- np polygons stand at o, and q lies behind them, with room for the sides that those of them give which hold the vertex
pub record CollectReady (w : List ℕ) (o np q rem : ℕ) : Type 0 where
  pub behind : o + np * polygon_size ≤ q
  pub small : Every Small no_polygon (polygons_at w o np)
  pub room : q + length (sides_left rem (polygons_at w o np)) * side_size ≤ length w

-- those r sides stand at q, and every other word is as it was. `count` and `is` fix all; the other follows from them, and spares the callers the way there
pub record Collected (w u : List ℕ) (o np q rem r : ℕ) : Type 0 where
  pub count : r ≡ length (sides_left rem (polygons_at w o np))
  pub is : u ≡ splice w q (side_records (sides_left rem (polygons_at w o np)))
  pub sides : sides_at u q r ≡ sides_left rem (polygons_at w o np)
