-- The links that the taken records store. Definitions only.
use Rattle.std.specs.Prelude.{ℕ, ◌<◌, ◌≡◌, ◌≢◌, List}
use Rattle.rules.specs.declared.Edge.{Edge}
use Rattle.rules.specs.Mesh.{Polygon}
use Rattle.rules.specs.Links.{none}
use Rattle.rules.specs.Handed.{link_at}
use Rattle.laws.specs.Links.{Shaped}
use Rattle.laws.specs.EdgeSides.{edge_at}
use Rattle.laws.specs.EdgeJoins.{Taken}

-- the link l of side j of polygon i is that of a record below k, at the one end or at the other
pub data From (es : List Edge) (k i j l : ℕ) : Type 0 where
  above : (m : ℕ) → m < k → Taken (edge_at es m) → (edge_at es m).poly ≡ i → (edge_at es m).side ≡ j → l ≡ (edge_at es m).other → From es k i j l
  below : (m : ℕ) → m < k → Taken (edge_at es m) → (edge_at es m).other ≡ i → (edge_at es m).at ≡ j → l ≡ (edge_at es m).poly → From es k i j l

-- the first k records are stored, at both ends, and nothing else is
pub record Storing (ps : List Polygon) (es : List Edge) (k : ℕ) (ls : List (List ℕ)) : Type 0 where
  pub shaped : Shaped ps ls
  pub up : (m : ℕ) → m < k → Taken (edge_at es m) → link_at ls (edge_at es m).poly (edge_at es m).side ≡ (edge_at es m).other
  pub against : (m : ℕ) → m < k → Taken (edge_at es m) → link_at ls (edge_at es m).other (edge_at es m).at ≡ (edge_at es m).poly
  pub from : (i j : ℕ) → link_at ls i j ≢ none → From es k i j (link_at ls i j)
