-- What whoever reads the words of a mesh that is handed in meets: its corners, links and places are these words. Assumes nothing.
-- Key: `corners_read`, `corner_read`, `link_read`, `place_read`; `up_to_few`, `up_to_same`.
use Rattle.std.specs.Prelude.{ℕ, zero, suc, ◌+◌, ◌*◌, ◌≤◌, ◌<◌, ◌≡◌, Bool, true, false, cond, eqb, drop}
use native.Mathlib.Omega.{arith}
use Rattle.std.proofs.Math.Path.{refl, ap}
use Rattle.std.proofs.Common.{◌∙◌, length-take}
use mathlib.Core.List.{List, [], ◌∷◌}
use Rattle.std.proofs.Math.ListN.{length, get_or}
use Rattle.mem.specs.Slice.{view, get_or_view}
use Rattle.mem.specs.Tab.{get_or_tab}
use Rattle.rules.specs.Plane.{on_plane}
use Rattle.rules.specs.Weld.{no_vertex}
use Rattle.rules.specs.Mesh.{Polygon, no_polygon, place_of}
use Rattle.rules.specs.Links.{none}
use Rattle.rules.specs.Checks.{vertex_stride}
use Rattle.rules.specs.Exits.{vertex_of, up_to_none, stored_polygon, stored_links, decoded}
use Rattle.rules.specs.Handed.{Handed, vertex_count, polygon_count, buffers_of, mesh_in, corner_word, link_word, corners_at, link_at}
use Rattle.laws.proofs.Lists.{get_d_any}

-- ---- the words up to the first 65,535: they are not more, and the same
module _ (w : ℕ) (ws : List ℕ) where
  few_step : length (up_to_none ws) ≤ length ws → (t : Bool) → length (cond t [] (w ∷ up_to_none ws)) ≤ suc (length ws)
  few_step h true = omega arith
  few_step h false = omega arith

  same_step : ((k : ℕ) → k < length (up_to_none ws) → get_or (up_to_none ws) k 0 ≡ get_or ws k 0) → (t : Bool) (k : ℕ) → k < length (cond t [] (w ∷ up_to_none ws))
      → get_or (cond t [] (w ∷ up_to_none ws)) k 0 ≡ get_or (w ∷ ws) k 0
  same_step f true k h = absurd (omega arith)
  same_step f false zero h = refl
  same_step f false (suc k) h = f k (omega arith)

pub up_to_few : (ws : List ℕ) → length (up_to_none ws) ≤ length ws
unfolding up_to_none
up_to_few [] = omega arith
up_to_few (w ∷ ws) = few_step w ws (up_to_few ws) (eqb w none)

pub up_to_same : (ws : List ℕ) (k : ℕ) → k < length (up_to_none ws) → get_or (up_to_none ws) k 0 ≡ get_or ws k 0
unfolding up_to_none
up_to_same [] k h = absurd (omega arith)
up_to_same (w ∷ ws) k h = same_step w ws (up_to_same ws) (eqb w none) k h

-- ---- what whoever reads the words meets: the mesh's corners, links and places are these words

module _ (m : Handed) where
  pub corners_read : (i : ℕ) → i < polygon_count m → corners_at (mesh_in m) i ≡ up_to_none (view m.polygons (i * m.nvp) m.nvp)
  unfolding mesh_in decoded stored_polygon
  corners_read i h = ap (λ (p : Polygon). p.corners) (get_or_tab (stored_polygon m.nvp (buffers_of m)) (polygon_count m) i no_polygon h)

  pub corners_few : (i : ℕ) → i < polygon_count m → length (corners_at (mesh_in m) i) ≤ m.nvp
  corners_few i h = rw (corners_read i h)
      (omega (arith, up_to_few (view m.polygons (i * m.nvp) m.nvp), length-take m.nvp (drop (i * m.nvp) m.polygons)))

  pub corner_read : (i k : ℕ) → i < polygon_count m → k < length (corners_at (mesh_in m) i) → get_or (corners_at (mesh_in m) i) k 0 ≡ corner_word m i k
  unfolding corner_word
  corner_read i k h l =
      ap (λ (cs : List ℕ). get_or cs k 0) (corners_read i h)
      ∙ up_to_same (view m.polygons (i * m.nvp) m.nvp) k (rw (corners_read i h) at l)
      ∙ get_or_view m.polygons (i * m.nvp) m.nvp k 0 (omega (arith, corners_few i h))

  pub link_read : (i j : ℕ) → i < polygon_count m → j < length (corners_at (mesh_in m) i) → i * m.nvp + j < length m.links
      → link_at (mesh_in m).links i j ≡ link_word m i j
  unfolding mesh_in decoded stored_links stored_polygon link_word
  link_read i j h k l =
      let n = length (up_to_none (view m.polygons (i * m.nvp) m.nvp)) in
      ap (λ (l : List ℕ). get_or l j none) (get_or_tab (stored_links m.nvp (buffers_of m)) (polygon_count m) i [] h)
      ∙ get_or_view m.links (i * m.nvp) n j none (rw (corners_read i h) at k) ∙ get_d_any m.links (i * m.nvp + j) none 0 l

  pub vertex_read : (k : ℕ) → k < vertex_count m → get_or (mesh_in m).vertices k no_vertex
      ≡ record { x = get_or m.vertices (k * vertex_stride) 0; y = get_or m.vertices (k * vertex_stride + 1) 0; z = get_or m.vertices (k * vertex_stride + 2) 0 }
  unfolding mesh_in decoded vertex_of
  vertex_read k h =
      let z : k * vertex_stride + 0 ≡ k * vertex_stride = omega arith in
      get_or_tab (λ i. vertex_of (view m.vertices (i * vertex_stride) vertex_stride)) (vertex_count m) k no_vertex h
      ∙ rw (
        get_or_view m.vertices (k * vertex_stride) vertex_stride 0 0 (omega arith),
        get_or_view m.vertices (k * vertex_stride) vertex_stride 1 0 (omega arith),
        get_or_view m.vertices (k * vertex_stride) vertex_stride 2 0 (omega arith),
        z,
      ) refl

  pub place_read : (k : ℕ) → k < vertex_count m
      → place_of (mesh_in m).vertices k ≡ record { x = get_or m.vertices (k * vertex_stride) 0; z = get_or m.vertices (k * vertex_stride + 2) 0 }
  unfolding place_of
  place_read k h = ap on_plane (vertex_read k h)
