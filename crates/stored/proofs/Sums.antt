-- The areas of the stored polygons are added up in an i64: after i turns the sum is the area of the first i. A polygon of at most 12 corners has an area
-- within 12 · 2147352578, so that the sum of 65,535 of them fits. Assumes nothing.
use mathlib.Core.Path.{◌≡◌, refl, ◌∙◌, ap}
use mathlib.Core.List.{List, [], ◌∷◌, map}
use Prim.Native.Nat.{ℕ, ◌+◌, ◌*◌, ◌≤◌, ◌<◌}
use native.Mathlib.Nat.{add-zero}
use native.Mathlib.Omega.{arith}
use lib.IntN.{ℤ, pos, ◌+ℤ◌}
use lib.ListN.{length, get_or}
use mir.Syntax.{w64}
use mir.Val.{SFits, to_z, of_z}
use Rattle.ints.specs.Order.{Within, within_pos, within_add, within_le, within_fits}
use Rattle.ints.specs.Machine.{Reads, reads_self, add_fits, add_reads}
use Rattle.mem.specs.Slice.{view, length_view, get_or_view}
use Rattle.mem.specs.Tab.{tab, get_or_tab}
use Rattle.mem.specs.Loops.{block_fits}
use Rattle.rules.specs.Plane.{InGrid, fan, area, on_plane}
use Rattle.rules.specs.Weld.{no_vertex}
use Rattle.rules.specs.Mesh.{place_of}
use Rattle.rules.specs.Checks.{vertex_stride}
use Rattle.rules.specs.Exits.{vertex_of, up_to_none, stored_polygon, decoded}
use Rattle.rules.specs.Areas.{sum_of, points_of, polygon_area, stored_area}
use Rattle.rules.specs.declared.Point.{Point}
use Rattle.laws.specs.Lists.{All}
use Rattle.laws.proofs.Lists.{all_head, all_tail, all_of_lem, map_same}
use Rattle.laws.proofs.HandedWords.{up_to_few}
use Rattle.plane.specs.Sizes.{D-within}
use Rattle.stored.specs.Stored.{lent_of, stored_in, stored_vertices, place_in, places_of, PolygonReady, MeshReady}
use Rattle.stored.specs.Areas.{sum_more}
use Rattle.stored.proofs.Places.{many_places, places_grid}

-- ---- how large a polygon's area is

fan_within : (p q : Point) (l : List Point) → InGrid p → InGrid q → All InGrid l → Within (length l * 2147352578) (fan p q l)
unfolding fan
fan_within p q [] P Q a = within_pos (omega arith)
fan_within p q (r ∷ l) P Q a = within_le (omega arith) (within_add (D-within P Q (all_head a)) (fan_within p r l P (all_head a) (all_tail a)))

area_within : (l : List Point) → All InGrid l → length l ≤ 12 → Within 25768230936 (area l)
unfolding area
area_within [] a h = within_pos (omega arith)
area_within (p ∷ []) a h = within_pos (omega arith)
area_within (p ∷ (q ∷ l)) a h = within_le (omega arith) (fan_within p q l (all_head a) (all_head (all_tail a)) (all_tail (all_tail a)))

polygon_within : {vs cs : List ℕ} → PolygonReady vs cs → Within 25768230936 (area (places_of vs cs))
polygon_within {vs} {cs} r = area_within (places_of vs cs) (places_grid r) (omega (arith, many_places vs cs, r.few))

-- ---- the places of a stored polygon

place_same : (vs : List ℕ) (k c : ℕ) → c < k → place_of (stored_vertices vs k) c ≡ place_in vs c
unfolding place_of stored_vertices place_in vertex_of
place_same vs k c h =
    let x : get_or (view vs (c * vertex_stride) vertex_stride) 0 0 ≡ get_or vs (c * vertex_stride) 0 =
    get_or_view vs (c * vertex_stride) vertex_stride 0 0 (omega arith) ∙ rw (add-zero (c * vertex_stride)) in
    let z : get_or (view vs (c * vertex_stride) vertex_stride) 2 0 ≡ get_or vs (c * vertex_stride + 2) 0 =
    get_or_view vs (c * vertex_stride) vertex_stride 2 0 (omega arith) in
    ap on_plane (get_or_tab (λ i. vertex_of (view vs (i * vertex_stride) vertex_stride)) k c no_vertex h) ∙ rw (x, z)

module _ {nvp n k : ℕ} {vs ps : List ℕ} (g : MeshReady nvp n k vs ps) (i : ℕ) (h : i < n) where
  pub row_end : i * nvp + nvp ≤ length ps
  row_end = block_fits i n nvp (length ps) h g.polygons

  pub polygon_ready : PolygonReady vs (up_to_none (view ps (i * nvp) nvp))
  polygon_ready = record {
    few = omega (arith, up_to_few (view ps (i * nvp) nvp), length_view ps (i * nvp) nvp row_end, g.most);
    inside = λ c a. omega (arith, g.corners i c h a, g.vertices);
    grid = λ c a. (g.x _ (g.corners i c h a), g.z _ (g.corners i c h a));
  }

  places_same : map (place_of (stored_vertices vs k)) (up_to_none (view ps (i * nvp) nvp)) ≡ places_of vs (up_to_none (view ps (i * nvp) nvp))
  unfolding places_of
  places_same =
      map_same (place_of (stored_vertices vs k)) (place_in vs) (place_same vs k)
      (all_of_lem (up_to_none (view ps (i * nvp) nvp)) 0 (λ c a. g.corners i c h a))

  area_more : stored_area (stored_in nvp (i + 1) k vs ps)
      ≡ stored_area (stored_in nvp i k vs ps) +ℤ area (places_of vs (up_to_none (view ps (i * nvp) nvp)))
  unfolding stored_area stored_in decoded lent_of stored_polygon polygon_area points_of stored_vertices
  area_more =
      sum_more (polygon_area (stored_vertices vs k)) (stored_polygon nvp (lent_of vs ps [] [] [])) i
      ∙ ap (λ (l : List Point). stored_area (stored_in nvp i k vs ps) +ℤ area l) places_same

-- ---- the loop's invariant: s are the bits of the sum where the turn i begins
pub record Summed (nvp n k : ℕ) (vs ps : List ℕ) (s : ℤ) (i : ℕ) : Type 0 where
  pub within : i ≤ n
  pub same : s ≡ stored_area (stored_in nvp i k vs ps)
  pub size : Within (i * 25768230936) s

pub summed_none : (nvp n k : ℕ) (vs ps : List ℕ) → Summed nvp n k vs ps (pos 0) 0
unfolding stored_area stored_in decoded sum_of tab
summed_none nvp n k vs ps = record { within = omega arith; same = refl; size = within_pos (omega arith) }

pub summed_all : {nvp n k : ℕ} {vs ps : List ℕ} {s : ℤ} {i : ℕ} → Summed nvp n k vs ps s i → n ≤ i → s ≡ stored_area (stored_in nvp n k vs ps)
summed_all {nvp} {n} {k} {vs} {ps} {s} {i} r h = let e : i ≡ n = omega (arith, r.within) in rw e at r.same

-- a turn: z are the bits of what it adds, d
module _ {nvp n k : ℕ} {vs ps : List ℕ} (s : ℕ) {i z : ℕ} {d : ℤ} (g : MeshReady nvp n k vs ps) (r : Summed nvp n k vs ps (to_z w64 s) i) (h : i < n) (z-is : Reads w64 z d)
    (d-is : d ≡ area (places_of vs (up_to_none (view ps (i * nvp) nvp)))) where
  turn_size : Within 25768230936 d
  turn_size = rw d-is (polygon_within (polygon_ready g i h))

  more_size : Within ((i + 1) * 25768230936) (to_z w64 s +ℤ d)
  more_size = within_le (omega arith) (within_add r.size turn_size)

  more_fits : SFits w64 (to_z w64 s +ℤ d)
  more_fits = within_fits (omega (arith, g.few)) more_size

  pub add_needs : SFits w64 (to_z w64 s +ℤ to_z w64 z)
  add_needs = add_fits (reads_self w64 s) z-is more_fits

  pub summed_more : Summed nvp n k vs ps (to_z w64 (of_z w64 (to_z w64 s +ℤ to_z w64 z))) (i + 1)
  summed_more =
      let q = add_reads (reads_self w64 s) z-is more_fits in
      record {
        within = omega arith;
        same = rw (q.reads, area_more g i h, r.same, d-is);
        size = rw q.reads more_size;
      }
