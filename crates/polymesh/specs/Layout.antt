-- Where everything stands in the work buffer of a build with v vertices and t triangles: 4,096 buckets, the vertices with their next words, the polygons, and
-- behind them the scratch of each step. Definitions only.
use Rattle.std.specs.Prelude.{ℕ, ◌+◌, ◌*◌, ◌≤◌}
use Rattle.contours.specs.declared.ground.Ground.{Ground}
use Rattle.removals.specs.declared.site.Site.{Site}
use Rattle.links.specs.declared.edges.EdgeTables.{EdgeTables}

-- V and T of a job that passed the checks
pub record Sized (v t : ℕ) : Type 0 where
  pub v_most : v ≤ 65535
  pub t_most : t ≤ v

-- how many words are lent for a build: "4,096 + 128·V"
abbrev pub words_of : ℕ → ℕ
words_of v = 4096 + 128 * v

-- how many of them it uses: the weld's tables, the polygons, and scratch for a contour, for a removal or for the links
abbrev pub used_of : ℕ → ℕ → ℕ
used_of v t = 4096 + 13 * v + 51 * t

abbrev pub polygons_of : ℕ → ℕ
polygons_of v = 4096 + 6 * v

abbrev pub scratch_of : ℕ → ℕ → ℕ
scratch_of v t = polygons_of v + 18 * t

-- for the contours
abbrev pub ground_of : ℕ → ℕ → Ground
ground_of v t = record { buckets = 0; vertices = 4096; nexts = 4096 + 5 * v; v = v; polygons = polygons_of v; t = t; scratch = scratch_of v t }

-- for the removals
abbrev pub site_of : ℕ → ℕ → Site
site_of v t = record { vertices = 4096; v = v; polygons = polygons_of v; t = t; scratch = scratch_of v t }

-- for the sides' records and the links
abbrev pub edge_tables_of : ℕ → ℕ → EdgeTables
edge_tables_of v t = record { firsts = scratch_of v t; edges = scratch_of v t + v; nexts = scratch_of v t + v + 18 * t }

abbrev pub link_place_of : ℕ → ℕ → ℕ
link_place_of v t = scratch_of v t + v + 21 * t
