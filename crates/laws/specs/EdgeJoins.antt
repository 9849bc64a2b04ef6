-- The records of sides that are taken by sides that run against them. Definitions only.
use Prim.Native.Nat.{ℕ, ◌<◌}
use Rattle.std.specs.Prelude.{◌≡◌, ◌≢◌, List}
use Rattle.std.proofs.Math.ListN.{length}
use Rattle.rules.specs.declared.Edge.{Edge}
use Rattle.rules.specs.Mesh.{Polygon}
use Rattle.laws.specs.EdgeSides.{Before, Runs, edge_at, Apart}

-- a record joined to another polygon than its own
abbrev pub Taken : Edge → Type 0
Taken e = e.other ≢ e.poly

-- a record before the turn of side j of polygon i: what it is of, and what it is taken by
pub record Joined (ps : List Polygon) (i j : ℕ) (e : Edge) : Type 0 where
  pub runs : Runs ps e.poly e.side e.low e.high
  pub order : e.low < e.high
  pub against : Taken e → Runs ps e.other e.at e.high e.low
  pub before : Taken e → Before i j e.other e.at

-- and all records: no two are of one side, and none are taken by one side
pub record Joins (ps : List Polygon) (i j : ℕ) (es : List Edge) : Type 0 where
  pub good : (k : ℕ) → k < length es → Joined ps i j (edge_at es k)
  pub apart : Apart es
  pub once : (k m : ℕ) → k < length es → m < length es → Taken (edge_at es k) → Taken (edge_at es m)
      → (edge_at es k).other ≡ (edge_at es m).other → (edge_at es k).at ≡ (edge_at es m).at → k ≡ m
