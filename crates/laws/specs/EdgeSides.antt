-- The sides of a mesh in the order in which R6 goes through them, and the records of those that run from a lower to a higher vertex. Definitions only.
use Prim.Native.Nat.{ℕ, ◌≤◌, ◌<◌}
use Rattle.std.specs.Prelude.{◌≡◌, List, length, get_or}
use Rattle.rules.specs.declared.Edge.{Edge}
use Rattle.rules.specs.Mesh.{Polygon, polygon_at, side_start, side_end}
use Rattle.rules.specs.Links.{no_edge}

-- ---- sides, one after the other

-- side q of polygon p comes before side j of polygon i
pub record Before (i j p q : ℕ) : Type 0 where
  pub first : p ≤ i
  pub second : p ≡ i → q < j

-- side j of polygon i runs from a to b
pub record Runs (ps : List Polygon) (i j a b : ℕ) : Type 0 where
  pub there : i < length ps
  pub within : j < length (polygon_at ps i).corners
  pub starts : side_start (polygon_at ps i).corners j ≡ a
  pub ends : side_end (polygon_at ps i).corners j ≡ b

-- ---- the records

abbrev pub edge_at : List Edge → ℕ → Edge
edge_at es k = get_or es k no_edge

-- no two records are of one side
abbrev pub Apart : List Edge → Type 0
Apart es = (k m : ℕ) → k < length es → m < length es → (edge_at es k).poly ≡ (edge_at es m).poly → (edge_at es k).side ≡ (edge_at es m).side → k ≡ m

-- a record before the turn of side j of polygon i, joined to none; and all records
pub record Recorded (ps : List Polygon) (i j : ℕ) (e : Edge) : Type 0 where
  pub runs : Runs ps e.poly e.side e.low e.high
  pub order : e.low < e.high
  pub alone : e.other ≡ e.poly
  pub before : Before i j e.poly e.side

pub record Records (ps : List Polygon) (i j : ℕ) (es : List Edge) : Type 0 where
  pub good : (k : ℕ) → k < length es → Recorded ps i j (edge_at es k)
  pub apart : Apart es
