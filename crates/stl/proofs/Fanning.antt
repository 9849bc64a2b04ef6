-- The facets of polygons in their buffers: the facets of one are written one behind the other, and so are those of all.
-- Assumes nothing.
-- Key: `Fan`, the invariant of the loop over a polygon's corners; `facets_over`: the bytes of all facets, polygon by polygon; `row_is`, `row_few`: its rows.
use mathlib.Core.Path.{◌≡◌, refl, sym, ap, ◌∙◌}
use mathlib.Core.List.{List, [], ◌++◌}
use Prim.Native.Nat.{ℕ, ◌+◌, ◌-◌, ◌*◌, ◌/◌, ◌≤◌, ◌<◌}
use native.Mathlib.Nat.{add-zero}
use native.Mathlib.Omega.{arith}
use lib.Ieee.{Float}
use lib.ListN.{length, get_or}
use Rattle.mem.specs.Slice.{view, length_view, splice, get_or_view}
use Rattle.mem.specs.Loops.{over_cong, block_fits}
use Rattle.mem.specs.Tab.{tab, length_tab, get_or_tab}
use Rattle.mem.specs.Packed.{packed, packed_append}
use Rattle.rules.specs.Weld.{no_vertex}
use Rattle.rules.specs.Mesh.{Polygon, no_polygon, polygon_at}
use Rattle.rules.specs.Checks.{vertex_stride}
use Rattle.rules.specs.Exits.{vertex_of, up_to_none, stored_polygon}
use Rattle.rules.specs.Stl.{corner_of, facet_of, fan_of, facets_of, facet_bytes}
use Rattle.rules.specs.declared.Vertex.{Vertex}
use Rattle.laws.proofs.HandedWords.{up_to_few}
use Rattle.laws.proofs.StlBytes.{facet_long}
use Rattle.laws.proofs.Stl.{facet_is, over_through}
use Rattle.lines.specs.Print.{Room, Printed}
use Rattle.lines.specs.Pieces.{texts_from, Pieces, pieces_none, pieces_room, pieces_more, pieces_all, packed_over}
use Rattle.stored.specs.Stored.{lent_of, stored_vertices, vertex_in}
use Rattle.stl.specs.Steps.{vertices_in, polygons_in, fan_bytes, facets_bytes, FanReady, CountReady, FacetsReady}

-- ---- a vertex of the buffer

vertex_is : (vs : List ℕ) (c : ℕ) → c < length vs / vertex_stride → vertex_in vs c ≡ get_or (vertices_in vs) c no_vertex
unfolding vertex_in stored_vertices vertex_of
vertex_is vs c h =
    let o = c * vertex_stride in
    sym (get_or_tab (λ i. vertex_of (view vs (i * vertex_stride) vertex_stride)) (length vs / vertex_stride) c no_vertex h
    ∙ rw (
      get_or_view vs o vertex_stride 0 0 (omega arith),
      get_or_view vs o vertex_stride 1 0 (omega arith),
      get_or_view vs o vertex_stride 2 0 (omega arith),
      add-zero o,
    ) refl)

-- ---- the fan of one polygon

module _ (size height : Float) (vs cs : List ℕ) where
  -- facet j, and its bytes
  abbrev facet_at : ℕ → List ℕ
  facet_at j = let corner = corner_of (vertices_in vs) cs in facet_of size height (corner 0) (corner (j + 1)) (corner (j + 2))

  fan_over : fan_bytes size height vs cs ≡ texts_from (λ j. facet_bytes (facet_at j)) 0 (length cs - 2)
  unfolding fan_bytes fan_of
  fan_over =
      let n = length cs - 2 in
      packed_over facet_bytes [] (tab facet_at n)
      ∙ ap (texts_from (λ j. facet_bytes (get_or (tab facet_at n) j [])) 0) (length_tab facet_at n)
      ∙ over_cong [] ◌++◌ (λ j. facet_bytes (get_or (tab facet_at n) j [])) (λ j. facet_bytes (facet_at j)) 0 n
      (λ j a h. ap facet_bytes (get_or_tab facet_at n j [] h))

  facet_size : (j : ℕ) → length (facet_bytes (facet_at j)) ≡ 50
  facet_size j = let corner = corner_of (vertices_in vs) cs in facet_long (facet_at j) (facet_is size height (corner 0) (corner (j + 1)) (corner (j + 2)))

  -- the corners before k are done, and k - 2 facets are written
  pub record Fan (v : List ℕ) (at : ℕ) (w : List ℕ) (to k : ℕ) : Type 0 where
    pub two : 2 ≤ k
    pub pieces : Pieces (λ j. facet_bytes (facet_at j)) (length cs - 2) (fan_bytes size height vs cs) v at w to (k - 2)

  module _ {v : List ℕ} {at : ℕ} (g : FanReady size height vs cs v at) where
    pub fan_none : Fan v at v at 2
    fan_none = record { two = omega arith; pieces = pieces_none _ _ fan_over g.room }

    -- corner k is a vertex, and which
    pub corner_there : (k : ℕ) → k < length cs → get_or cs k 0 * vertex_stride + 2 < length vs
    corner_there k h = omega (arith, g.inside k h)

    corner_is : {a : Vertex} (k j : ℕ) → k < length cs → j ≡ k → a ≡ vertex_in vs (get_or cs k 0) → a ≡ corner_of (vertices_in vs) cs j
    unfolding corner_of
    corner_is k j h q e = e ∙ rw q (vertex_is vs (get_or cs k 0) (g.inside k h))

    module _ {w : List ℕ} {to k : ℕ} (f : Fan v at w to k) where
      pub fan_room : k < length cs → to + 50 ≤ length w
      fan_room h = omega (arith, pieces_room f.pieces (omega (arith, f.two)), facet_size (k - 2))

      pub fan_more : {a b c : Vertex} {x : List ℕ} → k < length cs → a ≡ vertex_in vs (get_or cs 0 0) → b ≡ vertex_in vs (get_or cs (k - 1) 0)
          → c ≡ vertex_in vs (get_or cs k 0) → x ≡ splice w to (facet_bytes (facet_of size height a b c)) → Fan v at x (to + 50) (k + 1)
      fan_more {a} {b} {c} {x} h p q r e =
          let two = f.two in
          let next : k + 1 - 2 ≡ k - 2 + 1 = omega arith in
          let p' = corner_is 0 0 (omega arith) refl p in
          let q' = corner_is (k - 1) (k - 2 + 1) (omega arith) (omega arith) q in
          let r' = corner_is k (k - 2 + 2) h (omega arith) r in
          let there : x ≡ splice w to (facet_bytes (facet_at (k - 2))) = e ∙ rw (p', q', r') refl in
          record {
            two = omega arith;
            pieces = rw next (pieces_more f.pieces (omega arith) (record { text = there; next = rw (facet_size (k - 2)) refl }));
          }

      pub fan_all : length cs ≤ k → Printed (fan_bytes size height vs cs) v w at to
      fan_all h = pieces_all f.pieces (omega arith)

-- ---- the rows of a buffer of polygons

packed_none : packed facet_bytes [] ≡ []
unfolding packed
packed_none = refl

-- the corners of polygon i, of nvp words a polygon
abbrev pub row_at : ℕ → List ℕ → ℕ → List ℕ
row_at nvp ps i = up_to_none (view ps (i * nvp) nvp)

module _ (nvp np : ℕ) (ps : List ℕ) where
  pub polygons_long : length (polygons_in nvp np ps) ≡ np
  unfolding polygons_in
  polygons_long = length_tab (stored_polygon nvp (lent_of [] ps [] [] [])) np

  pub row_is : (i : ℕ) → i < np → (polygon_at (polygons_in nvp np ps) i).corners ≡ row_at nvp ps i
  unfolding polygons_in stored_polygon lent_of
  row_is i h = ap (λ (p : Polygon). p.corners) (get_or_tab (stored_polygon nvp (lent_of [] ps [] [] [])) np i no_polygon h)

  pub row_few : CountReady nvp np ps → (i : ℕ) → i < np → length (row_at nvp ps i) ≤ 12
  row_few g i h =
      omega (arith, up_to_few (view ps (i * nvp) nvp), length_view ps (i * nvp) nvp (block_fits i np nvp (length ps) h g.words), g.most)

  -- the facets of all, polygon by polygon
  pub facets_over : (size height : Float) (vs : List ℕ) → facets_bytes size height nvp np vs ps ≡ texts_from
      (λ i. fan_bytes size height vs (row_at nvp ps i)) 0 np
  unfolding facets_bytes facets_of fan_bytes
  facets_over size height vs =
      let fan : ℕ → List (List ℕ) = λ i. fan_of size height (vertices_in vs) (polygon_at (polygons_in nvp np ps) i).corners in
      over_through [] ◌++◌ [] ◌++◌ (packed facet_bytes) packed_none (packed_append facet_bytes) fan 0 (length (polygons_in nvp np ps))
      ∙ ap (texts_from (λ i. packed facet_bytes (fan i)) 0) polygons_long
      ∙ over_cong [] ◌++◌ (λ i. packed facet_bytes (fan i)) (λ i. fan_bytes size height vs (row_at nvp ps i)) 0 np
      (λ i a h. ap (fan_bytes size height vs) (row_is i h))

-- what the fan of polygon i asks for, whose corners are lent as cs
pub fan_ready : {size height : Float} {nvp np : ℕ} {vs ps v cs w : List ℕ} {at to i : ℕ} → FacetsReady size height nvp np vs ps v at → i < np
    → cs ≡ row_at nvp ps i → Room w (fan_bytes size height vs (row_at nvp ps i)) to → FanReady size height vs cs w to
fan_ready {size} {height} {nvp} {np} {vs} {ps} {v} {cs} {w} {at} {to} {i} g h e r = record {
  size_length = g.size_length;
  height_length = g.height_length;
  long = rw e (g.count.long i h);
  inside = λ k a. let q : k < length (row_at nvp ps i) = rw e at a in rw e (g.inside i k h q);
  room = rw e r;
}
