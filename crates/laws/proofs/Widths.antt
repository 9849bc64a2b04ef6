-- What a build writes fits the words of its buffers: what `rules` states in its file `Widths`. Numbers, regions and codes of the mesh are the job's own or 0,
-- corners are numbers of vertices, and links are numbers of polygons, none, or portals. Assumes nothing.
-- Key: `written_fits`, `always_room`.
use Rattle.std.specs.Prelude.{ℕ, zero, suc, ◌+◌, ◌-◌, ◌≤◌, ◌<◌, ◌≡◌, Bool, true, false, cond, ◌&&◌, ◌||◌, List, [], ◌∷◌, ◌++◌, map, eqb, ltb, length, take, drop, get_or, set}
use Rattle.std.proofs.Common.{arith, ⊎_elim}
use Rattle.std.proofs.Math.ListN.{get_or-eq_default}
use Rattle.ints.specs.Bools.{cond_ind}
use Rattle.mem.specs.Cases.{lt_or_le}
use Rattle.mem.specs.Loops.{over_ind, each_ind, times_ind}
use Rattle.mem.specs.Packed.{Every, every_at, every_of, every_nil, every_set, every_take, every_drop, every_append, every_same, every_map, every_tab}
use Rattle.rules.specs.declared.Vertex.{Vertex}
use Rattle.rules.specs.declared.Pair.{Pair}
use Rattle.rules.specs.declared.Side.{Side}
use Rattle.rules.specs.declared.ChainPoint.{ChainPoint}
use Rattle.rules.specs.Lists.{swap_remove, without}
use Rattle.rules.specs.Weld.{no_vertex, Welded, add_vertex, weld_one, weld_all, number_of}
use Rattle.rules.specs.Mesh.{Polygon, no_polygon, polygon_at, Mesh}
use Rattle.rules.specs.Merge.{best_pair, joined, join_pair, merge_loop, merge_all}
use Rattle.rules.specs.Removal.{no_side, no_point, untouched_side, side_into, untouched, TakingOut, take_one, taken_out, dropped_in, dropped_side, polygons_left, sides_left, holds, Walk, brought_by, Fit, front, back, neither, walk_by, walk_one, walk_once, walk_start, walk, is_closed, hole_of, hole_triangle, Removal, gone, remove_vertex}
use Rattle.rules.specs.Links.{none, links_of}
use Rattle.rules.specs.Job.{Job, vertex_at, contour_vertices, count_t, count_v}
use Rattle.rules.specs.Checks.{Lent}
use Rattle.rules.specs.Build.{weld_height, contour_triangle, add_contour, built, outcome}
use Rattle.rules.specs.Widths.{Widths, WrittenFits, AlwaysRoom}
use Rattle.laws.specs.Lists
use Rattle.laws.specs.Lists.{All}
use Rattle.laws.proofs.Lists.{all_at}
use Rattle.laws.specs.Merge.{Good, Below}
use Rattle.laws.proofs.Removal.{removal_fills}
use Rattle.laws.proofs.Checks.{T-far-below-V}
use Rattle.laws.specs.Build.{Bounded}
use Rattle.laws.proofs.Build.{bounded}
use Rattle.laws.specs.Links.{UpTo}
use Rattle.laws.proofs.Links.{links_up_to, portals_up_to}
use Rattle.laws.specs.Reached.{with_contour}
use Rattle.laws.proofs.Reached.{reached, built_links, built_passed}
use Rattle.laws.specs.Widths.{Narrow, Tag, Tagged, NarrowMesh}

-- ---- what fits

abbrev TaggedSide : Side → Type 0
TaggedSide s = Tag s.region s.code

abbrev TaggedPoint : ChainPoint → Type 0
TaggedPoint c = Tag c.region c.code

no_tag : Tag 0 0
no_tag = record { region = omega arith; code = omega arith }

-- unlike regions give 0
tag_or_none : {r c : ℕ} (same : Bool) → Tag r c → Tag (cond same r 0) c
tag_or_none true t = t
tag_or_none false t = record { region = omega arith; code = t.code }

every_without : {A : Type 0} (P : A → Type 0) (d : A) (l : List A) (i : ℕ) → Every P d l → Every P d (without l i)
unfolding without
every_without P d l i h = every_append P d (take i l) (drop (i + 1) l) (every_take P d l i h) (every_drop P d (i + 1) l h)

every_swap : {A : Type 0} (P : A → Type 0) (d : A) (l : List A) (i : ℕ) → Every P d l → Every P d (swap_remove d l i)
unfolding swap_remove
every_swap P d l i h =
    every_take P d (set l i (get_or l (length l - 1) d)) (length l - 1) (every_set P d l i (get_or l (length l - 1) d) h (every_at P d l h (length l - 1)))

-- ---- R3
no_vertex_lem : Narrow no_vertex
no_vertex_lem = record { x = omega arith; y = omega arith; z = omega arith }

welded_narrow : (height : ℕ) (vs : List Vertex) (flags : List ℕ) (s : Welded) → Every Narrow no_vertex vs → Every Narrow no_vertex s.vertices
    → Every Narrow no_vertex (weld_all height vs flags s).vertices
unfolding weld_all weld_one add_vertex
welded_narrow height vs flags s v h = each_ind (weld_one height vs flags) (λ (t : Welded). Every Narrow no_vertex t.vertices) 0 (length vs)
    (λ i t a b k. cond_ind (Every Narrow no_vertex) (eqb (number_of height t.vertices (get_or vs i no_vertex)) (length t.vertices))
    (every_append Narrow no_vertex t.vertices (get_or vs i no_vertex ∷ []) k (every_same Narrow no_vertex 1 (get_or vs i no_vertex) no_vertex_lem (every_at Narrow no_vertex vs v i))) k) s h

-- ---- R4
joined_tagged : (ps : List Polygon) (m : Pair) → Every Tagged no_polygon ps → Every Tagged no_polygon (join_pair ps m)
unfolding join_pair joined
joined_tagged ps m h =
    let p = polygon_at ps m.a in
    let q = polygon_at ps m.b in
    every_swap Tagged no_polygon (set ps m.a (joined p q m.ea m.eb)) m.b
    (every_set Tagged no_polygon ps m.a (joined p q m.ea m.eb) h (tag_or_none (eqb p.region q.region) (every_at Tagged no_polygon ps h m.a)))

loop_tagged : (f : ℕ) (vs : List Vertex) (nvp : ℕ) (ps : List Polygon) → Every Tagged no_polygon ps → Every Tagged no_polygon (merge_loop f vs nvp ps)
unfolding merge_loop
loop_tagged zero vs nvp ps h = h
loop_tagged (suc f) vs nvp ps h =
    elim (ltb 0 (best_pair vs nvp ps).length) as (λ (t : Bool). Every Tagged no_polygon (elim t [ true ↦ merge_loop f vs nvp (join_pair ps (best_pair vs nvp ps)) | false ↦ ps ])) [
      | true ↦ loop_tagged f vs nvp (join_pair ps (best_pair vs nvp ps)) (joined_tagged ps (best_pair vs nvp ps) h)
      | false ↦ h
    ]

pub merged_tagged : (vs : List Vertex) (nvp : ℕ) (ps : List Polygon) → Every Tagged no_polygon ps → Every Tagged no_polygon (merge_all vs nvp ps)
unfolding merge_all
merged_tagged vs nvp ps h =
    elim (ltb 3 nvp) as (λ (t : Bool). Every Tagged no_polygon (elim t [ true ↦ merge_loop (length ps) vs nvp ps | false ↦ ps ])) [
      | true ↦ loop_tagged (length ps) vs nvp ps h
      | false ↦ h
    ]

-- ---- one contour
contour_narrow : (j : Job) → Widths j → (first n : ℕ) → Every Narrow no_vertex (contour_vertices j.numbers first n)
unfolding contour_vertices vertex_at
contour_narrow j w first n = every_tab Narrow no_vertex (λ k. vertex_at j.numbers (first + k)) n no_vertex_lem
    (λ k h. record { x = w.numbers _; y = w.numbers _; z = w.numbers _ })

triangles_tagged : (numbers : List ℕ) (region code : ℕ) (ts : List (List ℕ)) → Tag region code → Every Tagged no_polygon (map (contour_triangle numbers region code) ts)
unfolding contour_triangle
triangles_tagged numbers region code ts t = every_map (λ (l : List ℕ). Unit) [] Tagged no_polygon (contour_triangle numbers region code) ts no_tag (λ a u. t)
    (every_of (λ (l : List ℕ). Unit) [] ts (λ i. tt))

contour_keeps : (j : Job) → Widths j → (c first : ℕ) (ts : List (List ℕ)) (m : Mesh) → NarrowMesh m → NarrowMesh (with_contour j c first ts m)
unfolding add_contour
contour_keeps j w c first ts m h =
    let vs = contour_vertices j.numbers first (get_or j.lengths c 0) in
    record {
      vertices = welded_narrow weld_height vs _ _ (contour_narrow j w first (get_or j.lengths c 0)) h.vertices;
      polygons = every_append Tagged no_polygon m.polygons _ h.polygons (merged_tagged _ j.nvp _
          (triangles_tagged _ (get_or j.regions c 0) (get_or j.codes c 0) ts (record { region = w.regions c; code = w.codes c })));
    }

-- ---- R5: sides, points of the chain, and the polygons of the hole are tagged as the polygons were

side_tagged : (rem : ℕ) (p : Polygon) (a b : ℕ) → Tagged p → Every TaggedSide no_side (untouched_side rem p a b)
unfolding untouched_side
side_tagged rem p a b t = cond_ind (Every TaggedSide no_side) (eqb a rem || eqb b rem) (every_nil TaggedSide no_side no_tag)
    (every_same TaggedSide no_side 1 (record { start = a; end = b; region = p.region; code = p.code }) no_tag t)

untouched_tagged : (rem : ℕ) (p : Polygon) → Tagged p → Every TaggedSide no_side (untouched rem p)
unfolding untouched side_into
untouched_tagged rem p t = over_ind [] ◌++◌ (side_into rem p) (Every TaggedSide no_side) (every_nil TaggedSide no_side no_tag)
    (λ a b h k. every_append TaggedSide no_side a b h k) 0 (length p.corners) (λ j h k. side_tagged rem p _ _ t)

record TaggedOut (s : TakingOut) : Type 0 where
  polygons : Every Tagged no_polygon s.polygons
  sides : Every TaggedSide no_side s.sides

take_tagged : (rem : ℕ) (s : TakingOut) → TaggedOut s → TaggedOut (take_one rem s)
unfolding take_one
take_tagged rem s h =
    let p = polygon_at s.polygons s.at in
    elim (ltb 0 (holds rem p)) as (λ (t : Bool). TaggedOut (elim t [
      | true ↦ record { polygons = swap_remove no_polygon s.polygons s.at; sides = s.sides ++ untouched rem p; at = s.at }
      | false ↦ record { polygons = s.polygons; sides = s.sides; at = s.at + 1 }
    ])) [
      | true ↦ record {
        polygons = every_swap Tagged no_polygon s.polygons s.at h.polygons;
        sides = every_append TaggedSide no_side s.sides (untouched rem p) h.sides (untouched_tagged rem p (every_at Tagged no_polygon s.polygons h.polygons s.at));
      }
      | false ↦ record { polygons = h.polygons; sides = h.sides }
    ]

out_tagged : (rem : ℕ) (ps : List Polygon) → Every Tagged no_polygon ps → TaggedOut (taken_out rem ps)
unfolding taken_out
out_tagged rem ps h = times_ind (take_one rem) TaggedOut (take_tagged rem) (length ps) (record { polygons = ps; sides = []; at = 0 })
    (record { polygons = h; sides = every_nil TaggedSide no_side no_tag })

left_tagged : (rem : ℕ) (ps : List Polygon) → Every Tagged no_polygon ps → Every Tagged no_polygon (polygons_left rem ps)
unfolding polygons_left dropped_in
left_tagged rem ps h = every_map Tagged no_polygon Tagged no_polygon (dropped_in rem) (taken_out rem ps).polygons no_tag (λ p t. t) (out_tagged rem ps h).polygons

sides_tagged : (rem : ℕ) (ps : List Polygon) → Every Tagged no_polygon ps → Every TaggedSide no_side (sides_left rem ps)
unfolding sides_left dropped_side
sides_tagged rem ps h = every_map TaggedSide no_side TaggedSide no_side (dropped_side rem) (taken_out rem ps).sides no_tag (λ s t. t) (out_tagged rem ps h).sides

record TaggedWalk (w : Walk) : Type 0 where
  chain : Every TaggedPoint no_point w.chain
  rest : Every TaggedSide no_side w.rest

one_point : (s : Side) (v : ℕ) → TaggedSide s → Every TaggedPoint no_point (brought_by s v ∷ [])
unfolding brought_by
one_point s v t = every_same TaggedPoint no_point 1 (brought_by s v) no_tag t

by_tagged : (f : Fit) (s : Side) (w : Walk) → TaggedSide s → TaggedWalk w → TaggedWalk (walk_by f s w)
unfolding walk_by
by_tagged front s w t h = record {
  chain = every_append TaggedPoint no_point (brought_by s s.start ∷ []) w.chain (one_point s s.start t) h.chain;
  rest = every_swap TaggedSide no_side w.rest w.at h.rest;
}
by_tagged back s w t h = record {
  chain = every_append TaggedPoint no_point w.chain (brought_by s s.end ∷ []) h.chain (one_point s s.end t);
  rest = every_swap TaggedSide no_side w.rest w.at h.rest;
}
by_tagged neither s w t h = record { chain = h.chain; rest = h.rest }

one_tagged : (w : Walk) → TaggedWalk w → TaggedWalk (walk_one w)
unfolding walk_one
one_tagged w h = by_tagged _ (get_or w.rest w.at no_side) w (every_at TaggedSide no_side w.rest h.rest w.at) h

once_tagged : (w : Walk) → TaggedWalk w → TaggedWalk (walk_once w)
unfolding walk_once
once_tagged w h = times_ind walk_one TaggedWalk one_tagged (length w.rest) (record { chain = w.chain; rest = w.rest; at = 0 }) (record { chain = h.chain; rest = h.rest })

walk_tagged : (sides : List Side) → Every TaggedSide no_side sides → Every TaggedPoint no_point (walk sides).chain
unfolding walk walk_start
walk_tagged sides h = (times_ind walk_once TaggedWalk once_tagged (length sides) (walk_start sides)
    (record { chain = one_point (get_or sides 0 no_side) _ (every_at TaggedSide no_side sides h 0); rest = h })).chain

hole_tagged : (chain : List ChainPoint) → Every TaggedPoint no_point chain → Every TaggedPoint no_point (hole_of chain)
unfolding hole_of
hole_tagged chain h = cond_ind (Every TaggedPoint no_point) (is_closed chain) (every_take TaggedPoint no_point chain (length chain - 1) h) h

fill_tagged : (hole : List ChainPoint) (ts : List (List ℕ)) → Every TaggedPoint no_point hole → Every Tagged no_polygon (map (hole_triangle hole) ts)
unfolding hole_triangle
fill_tagged hole ts h = every_map (λ (l : List ℕ). Unit) [] Tagged no_polygon (hole_triangle hole) ts no_tag
    (λ t u. tag_or_none (eqb (get_or hole (get_or t 0 0) no_point).region (get_or hole (get_or t 1 0) no_point).region
    && eqb (get_or hole (get_or t 1 0) no_point).region (get_or hole (get_or t 2 0) no_point).region) (every_at TaggedPoint no_point hole h (get_or t 0 0))) (every_of (λ (l : List ℕ). Unit) [] ts (λ i. tt))

removal_keeps : (nvp i : ℕ) (m t : Mesh) (r : Removal) → remove_vertex nvp i m ≡ gone t r → NarrowMesh m → NarrowMesh t
removal_keeps nvp i m t r q h =
    let f = removal_fills nvp i m t r q in
    let chain = (walk (sides_left i m.polygons)).chain in
    rw f.mesh (record {
      vertices = every_without Narrow no_vertex m.vertices i h.vertices;
      polygons = every_append Tagged no_polygon (polygons_left i m.polygons) _ (left_tagged i m.polygons h.polygons) (merged_tagged _ nvp _
          (fill_tagged (hole_of chain) f.triangles (hole_tagged chain (walk_tagged (sides_left i m.polygons) (sides_tagged i m.polygons h.polygons)))));
    })

-- of every mesh that is built
pub narrow : (j : Job) (b : Lent) (m : Mesh) (ls : List (List ℕ)) (log : List Removal) → Widths j → outcome j b ≡ built m ls log → NarrowMesh m
narrow j b m ls log w e =
    reached j NarrowMesh (record { vertices = every_nil Narrow no_vertex no_vertex_lem; polygons = every_nil Tagged no_polygon no_tag })
    (contour_keeps j w) (removal_keeps j.nvp) m ls log b e

-- ---- corners and polygons

corner_below : (m : Mesh) (nvp : ℕ) → All (Good (Below (length m.vertices)) nvp) m.polygons → length m.vertices ≤ none
    → (i k : ℕ) → get_or (polygon_at m.polygons i).corners k 0 < none
corner_below m nvp good few i k = ⊎_elim
    (λ (h : i < length m.polygons). below (all_at good i no_polygon h).inside k)
    (λ (h : length m.polygons ≤ i). rw (get_or-eq_default m.polygons no_polygon {n = i} h) (omega arith))
    (lt_or_le i (length m.polygons))
  where
    below : {cs : List ℕ} → All (Below (length m.vertices)) cs → (k : ℕ) → get_or cs k 0 < none
    below Lists.none k = omega arith
    below (Lists.more h a) zero = omega arith
    below (Lists.more h a) (suc k) = below a k

pub few_polygons : (j : Job) (m : Mesh) → count_v j ≤ none → Bounded j m → length m.polygons < none
few_polygons j m few b = ⊎_elim (λ (e : count_t j ≡ 0). omega (arith, b.polygons)) (λ (h : count_t j + 2 ≤ count_v j). omega (arith, b.polygons)) (T-far-below-V j)

pub written_fits : WrittenFits
written_fits j b m ls log w e =
    let n = narrow j b m ls log w e in
    let p = built_passed j m ls log b e in
    let o = bounded j b m ls log e in
    let few = few_polygons j m p.few o in
    let l = portals_up_to m.vertices j.w j.h j.border m.polygons (links_of m.polygons) (links_up_to m.polygons few) in
    record {
      x = λ k. (every_at Narrow no_vertex m.vertices n.vertices k).x;
      y = λ k. (every_at Narrow no_vertex m.vertices n.vertices k).y;
      z = λ k. (every_at Narrow no_vertex m.vertices n.vertices k).z;
      corners = corner_below m j.nvp o.sound.good (omega (arith, o.vertices, p.few));
      polygons = few;
      regions = λ i. (every_at Tagged no_polygon m.polygons n.polygons i).region;
      codes = λ i. (every_at Tagged no_polygon m.polygons n.polygons i).code;
      links = λ i k. rw (built_links j m ls log b e) (every_at (λ n. n ≤ 65539) none _ (every_at (UpTo 65539) [] _ l i) k);
    }

pub always_room : AlwaysRoom
always_room j b m ls log e = let o = bounded j b m ls log e in record { polygons = o.polygons; vertices = o.vertices }
