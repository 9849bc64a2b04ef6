-- What the functions of the test ask for, and what they leave. Definitions only.
use Rattle.std.specs.Prelude.{◌≡◌, Bool, true, ◌&&◌, List, ℕ, ◌+◌, ◌*◌, ◌≤◌, eqb, leb, ltb, length, replicate}
use Rattle.mem.specs.Slice.{view, splice}
use Rattle.mem.specs.Packed.{Every}
use Rattle.rules.specs.Mesh.{Polygon, no_polygon}
use Rattle.rules.specs.Removal.{sides_left, walk, held_once, neighbours, met_once}
use Rattle.laws.specs.Lists.{All}
use Rattle.laws.specs.Measures.{spares_in}
use Rattle.laws.specs.Merge.{Long}
use Rattle.records.specs.Layout.{polygon_size, polygons_at, Small}
use Rattle.trails.specs.Trails.{walk_room}
use Rattle.holes.specs.declared.test.Met.{Met}

-- np polygons stand at o
pub record Standing (w : List ℕ) (o np : ℕ) : Type 0 where
  pub fits : o + np * polygon_size ≤ length w
  pub small : Every Small no_polygon (polygons_at w o np)

-- v became w as xs was written at `at`, and r says how many words that is
pub record Wrote (v : List ℕ) (at : ℕ) (xs : List ℕ) (r : ℕ) (w : List ℕ) : Type 0 where
  pub count : r ≡ length xs
  pub is : w ≡ splice v at xs

-- a test was done: r is its answer, and every word is as it was
pub record Tested (right : Bool) (v : List ℕ) (r : Bool) (w : List ℕ) : Type 0 where
  pub answer : r ≡ right
  pub is : w ≡ v

-- ---- the neighbours

-- np polygons stand at o, before q, and from q on zeros, two for each of them
pub record PushReady (w : List ℕ) (o np q : ℕ) : Type 0 where
  pub behind : o + np * polygon_size ≤ q
  pub small : Every Small no_polygon (polygons_at w o np)
  pub room : q + 2 * np ≤ length w
  pub blank : view w q (2 * np) ≡ replicate (2 * np) 0

-- r says whether each polygon holds the vertex at most once, and how many words, xs, were written at q: if so, the neighbours of the vertex
pub record Pushed (v : List ℕ) (o np q rem : ℕ) (r : Met) (w : List ℕ) : Type 0 where
  pub xs : List ℕ
  pub count : r.n ≡ length xs
  pub most : r.n ≤ 2 * np
  pub is : w ≡ splice v q xs
  pub once : r.once ≡ held_once rem (polygons_at v o np)
  pub all : r.once ≡ true → xs ≡ neighbours rem (polygons_at v o np)

-- "every polygon holds it at most once; .. at most 2 neighbours of it are met once"
unfoldable pub few_open : ℕ → List Polygon → Bool
few_open rem ps = held_once rem ps && leb (met_once (neighbours rem ps)) 2

-- ---- the sides

-- np polygons stand at o, before q, and from q on zeros, as many as the walk along the sides needs that don't touch the vertex
pub record SidesReady (w : List ℕ) (o np q rem : ℕ) : Type 0 where
  pub behind : o + np * polygon_size ≤ q
  pub small : Every Small no_polygon (polygons_at w o np)
  pub room : q + length (sides_left rem (polygons_at w o np)) * walk_room ≤ length w
  pub blank : view w q (length (sides_left rem (polygons_at w o np)) * walk_room) ≡ replicate (length (sides_left rem (polygons_at w o np)) * walk_room) 0

-- "more than 2 sides stay that don't touch it; .. and the walk uses all those sides"
unfoldable pub sides_used : ℕ → List Polygon → Bool
sides_used rem ps = ltb 2 (length (sides_left rem ps)) && eqb (length (walk (sides_left rem ps)).rest) 0

-- ---- the whole

-- np polygons stand at o, each of three corners or more; and behind them, from q on, zeros, as many as the walk along as many sides needs as they have
-- corners beyond two
pub record TestReady (w : List ℕ) (o np q : ℕ) : Type 0 where
  pub small : Every Small no_polygon (polygons_at w o np)
  pub long : All Long (polygons_at w o np)
  pub behind : o + np * polygon_size ≤ q
  pub room : q + spares_in (polygons_at w o np) * walk_room ≤ length w
  pub blank : view w q (spares_in (polygons_at w o np) * walk_room) ≡ replicate (spares_in (polygons_at w o np) * walk_room) 0
