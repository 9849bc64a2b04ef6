-- What the functions that take a vertex out ask for. Definitions only.
use Rattle.std.specs.Prelude.{ℕ, ◌+◌, ◌*◌, ◌≤◌, List, length, ◌≡◌}
use Rattle.mem.specs.Slice.{view}
use Rattle.records.specs.Layout.{vertex_size, vertices_at, marks_at, vertex_records, polygons_at, Tidy}
use Rattle.records.specs.Blanks.{Blanked}
use Rattle.holes.specs.Verdict.{Standing}
use Rattle.rules.specs.Removal.{taken_out, polygons_left}

-- nv vertices stand at vo, and nothing but them in their records
pub record TidyVertices (w : List ℕ) (vo nv : ℕ) : Type 0 where
  pub fits : vo + nv * vertex_size ≤ length w
  pub is : view w vo (nv * vertex_size) ≡ vertex_records (vertices_at w vo nv) (marks_at w vo nv)

-- np polygons stand at o, and nothing but them in their records
pub record ClearReady (w : List ℕ) (o np : ℕ) : Type 0 where
  pub standing : Standing w o np
  pub tidy : Tidy w o np

-- r of them are left, those that don't hold the vertex, with blank records behind them; every other word is as it was
pub record TakenTo (w u : List ℕ) (o np rem r : ℕ) : Type 0 where
  pub left : Blanked w o np u (taken_out rem (polygons_at w o np)).polygons r

-- the same, in the numbers that hold once the vertex has gone
pub record ClearedTo (w u : List ℕ) (o np rem r : ℕ) : Type 0 where
  pub left : Blanked w o np u (polygons_left rem (polygons_at w o np)) r
