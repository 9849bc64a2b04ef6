-- R5: a removal takes from the area what the open hole's last side cuts off, D(last, removed, first), and nothing if the hole closes; and of the corners
-- beyond two it takes 1, or 2 if the hole closes. Assumes nothing.
-- Key: `removed_ok` for areas and ranges, `corners_removed` for corners; `hole_room`: a hole has three points or more.
use Rattle.std.specs.Prelude.{ℕ, suc, ◌+◌, ◌-◌, ◌^◌, ◌≤◌, ◌<◌, Bool, cond, ◌&&◌, eqb, leb, ltb, drop, get_or, ℤ, pos, ◌+ℤ◌, ◌-ℤ◌}
use Rattle.std.proofs.Common.{arith, ◌∙◌, ⊎_elim, eqb-true, ltb-true, lt-ltb, le-ltb, length-take, drop_of_length-le, get_or-append-add, get_or-drop, get_or-take}
use Rattle.std.proofs.Math.Path.{◌≡◌, refl, sym, ap, ap₂}
use Rattle.std.proofs.Math.Bool.{true, false}
use mathlib.Core.List.{List, [], ◌∷◌, ◌++◌, map, map-map}
use Rattle.std.proofs.Math.ListN.{length, take, length-map, get_or-append}
use Rattle.std.proofs.Math.Seq.{split_at}
use Rattle.std.proofs.Math.IntN.{+ℤ_idr}
use Rattle.ints.specs.Ring.{at, ◌⊕◌, ◌⊖◌}
use Rattle.ints.specs.Order.{ints, told}
use Rattle.ints.specs.Bools.{and_left, and_right}
use Rattle.mem.specs.Cases.{lt_or_le}
use Rattle.rules.specs.declared.Point.{Point}
use Rattle.rules.specs.declared.Vertex.{Vertex}
use Rattle.rules.specs.declared.Side.{Side}
use Rattle.rules.specs.declared.ChainPoint.{ChainPoint}
use Rattle.rules.specs.Plane.{D, area, origin, on_plane}
use Rattle.rules.specs.Lists.{without}
use Rattle.rules.specs.Ears.{Ears, done, stuck, triangulate}
use Rattle.rules.specs.Weld.{no_vertex}
use Rattle.rules.specs.Mesh.{Polygon, Mesh, place_of}
use Rattle.rules.specs.Merge.{merge_all}
use Rattle.rules.specs.Removal.{no_point, holds, untouched, TakingOut, taken_out, dropped, dropped_in, dropped_side, polygons_left, sides_left, first_of, last_of, walk, held_once, met_once, neighbours, can_remove, is_closed, hole_of, places_of, hole_triangle, Removal, gone, fill_hole, remove_vertex}
use Rattle.rules.specs.Areas.{sum_of, points_of, polygon_area, mesh_area, area_taken}
use Rattle.laws.specs.Measures.{area_of, spare_of, spares_in}
use Rattle.laws.specs.Lists.{All, none, more, total}
use Rattle.laws.proofs.Lists.{all_append, all_at, all_perm, all_left, all_right, all_take, all_imp, all_both, all_map, all_without, length_without, map_same}
use Rattle.laws.proofs.Lists.{map_take, get_or_map_in, sum_append, sum_perm, sum_same, sum_map, sum_gather, total_append, total_perm, total_same}
use Rattle.laws.proofs.Lists.{length_gather, all_gather}
use Rattle.laws.specs.Sides.{path}
use Rattle.laws.proofs.Sides.{path_map}
use Rattle.laws.proofs.Outlines.{area_seen, area_open}
use Rattle.laws.specs.Ears.{Triangle, triangle, cut_area}
use Rattle.laws.proofs.Ears.{triangulated}
use Rattle.laws.proofs.CutTurns.{triangles_counted}
use Rattle.laws.specs.Merge.{Good, Below, Long, Corners}
use Rattle.laws.proofs.Merge.{merged, triangles_merged}
use Rattle.laws.specs.Around.{seen, Clear, ClearSide, TookOut}
use Rattle.laws.proofs.Around.{area_untouched, length_untouched, clear_untouched, took_out, held_once_lem, not_held}
use Rattle.laws.specs.Walks.{chain_sum, on_side}
use Rattle.laws.proofs.Walks.{walked}
use Rattle.laws.specs.Removal.{path_of, Opened, Kept, place_in, lost, Filled, Chained, Sound, Removable, Step, Shorter}

-- ---- "Higher vertex numbers drop by 1.": a vertex other than the one that goes keeps its place
pub dropped_low : (rem v : ℕ) → v ≤ rem → dropped rem v ≡ v
unfolding dropped
dropped_low rem v h = rw (le-ltb rem v h)

pub dropped_high : (rem v : ℕ) → rem < v → dropped rem v ≡ v - 1
unfolding dropped
dropped_high rem v h = rw (lt-ltb rem v h)

less : (a b : ℕ) → (a ≡ b → ⊥) → a ≤ b → a < b
less a b n k = omega arith

get_dropped : (vs : List Vertex) (rem v : ℕ) → rem < length vs → (v ≡ rem → ⊥) → get_or (without vs rem) (dropped rem v) no_vertex ≡ get_or vs v no_vertex
unfolding without
get_dropped vs rem v h n = ⊎_elim
    (λ (k : rem < v).
    let t : length (take rem vs) ≡ rem = rw length-take (omega arith) in
    let e : v - 1 ≡ length (take rem vs) + (v - 1 - rem) = omega arith in
    let f : rem + 1 + (v - 1 - rem) ≡ v = omega arith in
    rw (dropped_high rem v k)
    (ap (λ (j : ℕ). get_or (take rem vs ++ drop (rem + 1) vs) j no_vertex) e ∙ get_or-append-add (take rem vs) (drop (rem + 1) vs) (v - 1 - rem) no_vertex
    ∙ get_or-drop (rem + 1) vs (v - 1 - rem) no_vertex ∙ ap (λ (j : ℕ). get_or vs j no_vertex) f))
    (λ (k : v ≤ rem).
    let l : v < rem = less v rem n k in
    let t : v < length (take rem vs) = rw length-take (omega arith) in
    rw (dropped_low rem v k) (get_or-append (take rem vs) (drop (rem + 1) vs) no_vertex v t ∙ get_or-take rem vs v no_vertex l))
    (lt_or_le rem v)

pub place_dropped : (vs : List Vertex) (rem v : ℕ) → rem < length vs → (v ≡ rem → ⊥) → place_of (without vs rem) (dropped rem v) ≡ place_of vs v
unfolding place_of
place_dropped vs rem v h n = ap on_plane (get_dropped vs rem v h n)

pub dropped_below : (rem v n : ℕ) → rem < n → Clear rem n v → dropped rem v < n - 1
dropped_below rem v n h c = ⊎_elim
    (λ (k : rem < v). rw (dropped_high rem v k) (omega (arith, c.inside)))
    (λ (k : v ≤ rem). let l = less v rem c.other k in rw (dropped_low rem v k) (omega arith))
    (lt_or_le rem v)

-- ---- the hole, as a list of points
two_ends : (p : Point) (l : List Point) → 1 ≤ length l → l ≡ take (length l - 1) l ++ (get_or (p ∷ l) (length l) origin ∷ [])
two_ends p [] h = absurd (omega arith)
two_ends p (q ∷ l) h =
    let e : length (q ∷ l) - 1 ≡ length l = omega arith in
    rw e (split_at (q ∷ l) (length l) origin (omega arith) ∙ ap (λ (s : List Point). take (length l) (q ∷ l) ++ (get_or (q ∷ l) (length l) origin ∷ s)) (drop_of_length-le (q ∷ l) {i = suc (length l)} (omega arith)))

pub hole_open : (v : Point) (pts : List Point) → 2 ≤ length pts → path_of v pts ≡ area pts +ℤ D (get_or pts (length pts - 1) origin) v (get_or pts 0 origin)
unfolding path_of
hole_open v [] h = absurd (omega arith)
hole_open v (p ∷ l) h =
    let e : length (p ∷ l) - 1 ≡ length l = omega arith in
    rw e (go (take (length l - 1) l) (get_or (p ∷ l) (length l) origin) (two_ends p l (omega arith)))
  where
    go : (m : List Point) (q : Point) → l ≡ m ++ (q ∷ []) → path (D v) p l ≡ area (p ∷ l) +ℤ D q v p
    go m q e = rw e (area_open v p m q)

pub hole_closed : (v : Point) (pts : List Point) → 2 ≤ length pts → get_or pts (length pts - 1) origin ≡ get_or pts 0 origin → path_of v pts ≡ area (take (length pts - 1) pts)
unfolding path_of
hole_closed v [] h k = absurd (omega arith)
hole_closed v (p ∷ l) h k =
    let e : length (p ∷ l) - 1 ≡ suc (length l - 1) = omega arith in
    let f : length (p ∷ l) - 1 ≡ length l = omega arith in
    rw e (go (take (length l - 1) l) (get_or (p ∷ l) (length l) origin) (two_ends p l (omega arith)) (rw f at k))
  where
    go : (m : List Point) (q : Point) → l ≡ m ++ (q ∷ []) → q ≡ p → path (D v) p l ≡ area (p ∷ m)
    go m q e r = rw (e, r) (sym (area_seen v p m))

-- ---- what goes and what stays

record Once (rem : ℕ) (p : Polygon) : Type 0 where
  long : 3 ≤ length p.corners
  once : holds rem p ≡ 1

spare_once : (rem : ℕ) (p : Polygon) → Once rem p → spare_of p ≡ length (untouched rem p)
spare_once rem p k = omega (arith, k.long, length_untouched rem p (omega (arith, k.long)) k.once)

-- of polygons with three corners or more, each of which holds the vertex at most once: each side that is given is a corner beyond two that has gone
pub spares_opened : (rem : ℕ) (ps : List Polygon) → All Long ps → held_once rem ps ≡ true
    → spares_in ps ≡ length (taken_out rem ps).sides + spares_in (taken_out rem ps).polygons
spares_opened rem ps long h =
    total_perm spare_of t.perm ∙ total_append spare_of t.gone out.polygons
    ∙ ap (λ (n : ℕ). n + spares_in out.polygons) (total_same spare_of (λ p. length (untouched rem p)) (spare_once rem) gone_once
    ∙ sym (length_gather (untouched rem) t.gone) ∙ ap length (sym t.sides))
  where
    out : TakingOut
    out = taken_out rem ps

    t : TookOut rem ps [] out
    t = took_out rem ps

    once : All (λ p. holds rem p ≡ 1) t.gone
    once = all_both (λ p (a : holds rem p ≤ 1) (b : 0 < holds rem p). omega arith)
        (all_left t.gone out.polygons (all_perm t.perm (held_once_lem rem ps h))) t.held

    gone_once : All (Once rem) t.gone
    gone_once = all_both (λ p (a : 3 ≤ length p.corners) (b : holds rem p ≡ 1). record { long = a; once = b })
        (all_left t.gone out.polygons (all_perm t.perm long)) once

seen_area : (vs : List Vertex) (nvp rem : ℕ) (p : Polygon) → Good (Below (length vs)) nvp p
    → polygon_area vs p ≡ sum_of (on_side (seen (place_of vs rem) (place_of vs))) (untouched rem p)
unfolding on_side polygon_area points_of
seen_area vs nvp rem p k = sym (area_untouched (place_of vs) rem p (omega (arith, k.long)))

pub opened : (vs : List Vertex) (nvp rem : ℕ) (ps : List Polygon) → All (Good (Below (length vs)) nvp) ps → Opened vs nvp rem ps (taken_out rem ps)
opened vs nvp rem ps good = record {
  areas = sum_perm (polygon_area vs) t.perm ∙ sum_append (polygon_area vs) t.gone out.polygons
      ∙ ap (λ (z : ℤ). z +ℤ area_of vs out.polygons) (sum_same (polygon_area vs) (λ p. sum_of g (untouched rem p)) (seen_area vs nvp rem) gone_good
      ∙ sym (sum_gather g (untouched rem) t.gone) ∙ ap (sum_of g) (sym t.sides));
  clear = rw t.sides (all_gather (untouched rem)
      (λ p (k : Good (Below (length vs)) nvp p). clear_untouched rem (length vs) p (omega (arith, k.long)) k.inside) gone_good);
  good = all_right t.gone out.polygons (all_perm t.perm good);
  free = t.free;
}
  where
    out : TakingOut
    out = taken_out rem ps

    t : TookOut rem ps [] out
    t = took_out rem ps

    g : Side → ℤ
    g = on_side (seen (place_of vs rem) (place_of vs))

    gone_good : All (Good (Below (length vs)) nvp) t.gone
    gone_good = all_left t.gone out.polygons (all_perm t.perm good)

-- the polygons that stay have as many corners once the higher numbers have dropped
pub spares_dropped : (rem : ℕ) (ps : List Polygon) → spares_in (map (dropped_in rem) ps) ≡ spares_in ps
unfolding total dropped_in
spares_dropped rem [] = refl
spares_dropped rem (p ∷ ps) = ap₂ ◌+◌ (ap (λ (n : ℕ). n - 2) (length-map p.corners (dropped rem))) (spares_dropped rem ps)

points_dropped : (vs : List Vertex) (rem : ℕ) (p : Polygon) → rem < length vs → All (Clear rem (length vs)) p.corners
    → points_of (without vs rem) (dropped_in rem p) ≡ points_of vs p
unfolding points_of dropped_in
points_dropped vs rem p h a =
    map-map (place_of (without vs rem)) (dropped rem) p.corners
    ∙ map_same (λ c. place_of (without vs rem) (dropped rem c)) (place_of vs) (λ c (k : Clear rem (length vs) c). place_dropped vs rem c h k.other) a

good_dropped : (vs : List Vertex) (nvp rem : ℕ) (p : Polygon) → rem < length vs → Good (Below (length vs)) nvp p → All (Clear rem (length vs)) p.corners
    → Good (Below (length (without vs rem))) nvp (dropped_in rem p)
unfolding dropped_in
good_dropped vs nvp rem p h g a = record {
  long = rw (length-map p.corners (dropped rem)) g.long;
  short = rw (length-map p.corners (dropped rem)) g.short;
  inside = rw (length_without vs rem h) (all_map (dropped rem) (λ c (k : Clear rem (length vs) c). dropped_below rem c (length vs) h k) a);
}

record Stays (vs : List Vertex) (nvp rem : ℕ) (p : Polygon) : Type 0 where
  area : polygon_area (without vs rem) (dropped_in rem p) ≡ polygon_area vs p
  good : Good (Below (length (without vs rem))) nvp (dropped_in rem p)

stays : (vs : List Vertex) (nvp rem : ℕ) (p : Polygon) → rem < length vs → Good (Below (length vs)) nvp p → holds rem p ≡ 0 → Stays vs nvp rem p
unfolding holds polygon_area
stays vs nvp rem p h g z =
    let a = not_held rem (length vs) z g.inside in
    record { area = ap area (points_dropped vs rem p h a); good = good_dropped vs nvp rem p h g a }

pub kept : (vs : List Vertex) (nvp rem : ℕ) (ps : List Polygon) → rem < length vs → All (Good (Below (length vs)) nvp) ps → All (λ p. holds rem p ≡ 0) ps
    → Kept vs nvp rem ps
kept vs nvp rem ps h g z = record {
  areas = sum_map (polygon_area (without vs rem)) (dropped_in rem) ps
      ∙ sum_same (λ p. polygon_area (without vs rem) (dropped_in rem p)) (polygon_area vs) (λ p (k : Stays vs nvp rem p). k.area) all;
  good = all_map (dropped_in rem) (λ p (k : Stays vs nvp rem p). k.good) all;
}
  where
    all : All (Stays vs nvp rem) ps
    all = all_both (λ p (a : Good (Below (length vs)) nvp p) (b : holds rem p ≡ 0). stays vs nvp rem p h a b) g z

-- ---- the hole that the chain is

pub length_places : (vs : List Vertex) (hole : List ChainPoint) → length (places_of vs hole) ≡ length hole
unfolding places_of
length_places vs hole = length-map hole (place_in vs)

place_at : (vs : List Vertex) (hole : List ChainPoint) (i : ℕ) → i < length hole → get_or (places_of vs hole) i origin ≡ place_in vs (get_or hole i no_point)
unfolding places_of
place_at vs hole i h = get_or_map_in (place_in vs) hole i no_point origin h

module _ (vs : List Vertex) (chain : List ChainPoint) (v : Point) (h : 2 ≤ length chain) where
  last_place : get_or (places_of vs chain) (length (places_of vs chain) - 1) origin ≡ place_in vs (last_of chain)
  last_place = rw (length_places vs chain) (place_at vs chain (length chain - 1) (omega arith))

  first_place : get_or (places_of vs chain) 0 origin ≡ place_in vs (first_of chain)
  first_place = place_at vs chain 0 (omega arith)

  closed_area : is_closed chain ≡ true → path_of v (places_of vs chain) ≡ area (places_of vs (take (length chain - 1) chain)) +ℤ pos 0
  unfolding is_closed places_of
  closed_area e =
      let n = length_places vs chain in
      let ends : place_in vs (last_of chain) ≡ place_in vs (first_of chain) = ap (place_of vs) (eqb-true (last_of chain).vertex (first_of chain).vertex e) in
      hole_closed v (places_of vs chain) (omega arith) (last_place ∙ ends ∙ sym first_place)
      ∙ ap area (ap (λ (k : ℕ). take (k - 1) (places_of vs chain)) n ∙ sym (map_take (place_in vs) (length chain - 1) chain))
      ∙ sym (+ℤ_idr (area (places_of vs (take (length chain - 1) chain))))

  open_area : path_of v (places_of vs chain) ≡ area (places_of vs chain) +ℤ lost vs v chain false
  open_area =
      let n = length_places vs chain in
      hole_open v (places_of vs chain) (omega arith)
      ∙ ap₂ (λ (l f : Point). area (places_of vs chain) +ℤ D l v f) last_place first_place

  -- the chain's sides, as seen from v, have the hole's area and what the open hole takes
  pub hole_area : path_of v (places_of vs chain) ≡ area (places_of vs (hole_of chain)) +ℤ lost vs v chain (is_closed chain)
  unfolding hole_of
  hole_area = go (is_closed chain) refl
    where
      go : (b : Bool) → is_closed chain ≡ b
          → path_of v (places_of vs chain) ≡ area (places_of vs (cond b (take (length chain - 1) chain) chain)) +ℤ lost vs v chain b
      go true e = closed_area e
      go false e = open_area

-- an open hole has as many points as the chain, a closed one fewer by one
pub hole_length : (chain : List ChainPoint) → 2 ≤ length chain → length (hole_of chain) + cond (is_closed chain) 2 1 ≡ length chain + 1
unfolding hole_of
hole_length chain h = go (is_closed chain)
  where
    go : (b : Bool) → length (cond b (take (length chain - 1) chain) chain) + cond b 2 1 ≡ length chain + 1
    go true = rw length-take (omega arith)
    go false = refl

one_or_two : (b : Bool) → (cond b 2 1 ≤ 2) × (1 ≤ cond b 2 1)
one_or_two true = omega arith
one_or_two false = omega arith

-- three points at least, and as many as the chain at most
pub hole_room : (chain : List ChainPoint) → 4 ≤ length chain → (3 ≤ length (hole_of chain)) × (length (hole_of chain) ≤ length chain)
hole_room chain h = omega (arith, hole_length chain (omega arith), one_or_two (is_closed chain))

pub all_hole : {P : ChainPoint → Type 0} (chain : List ChainPoint) → All P chain → All P (hole_of chain)
unfolding hole_of
all_hole {P} chain a = go (is_closed chain)
  where
    go : (b : Bool) → All P (cond b (take (length chain - 1) chain) chain)
    go true = all_take (length chain - 1) a
    go false = a

-- ---- the triangles that fill it

points_triangle : (vs : List Vertex) (hole : List ChainPoint) {t : List ℕ} → Triangle (length (places_of vs hole)) t
    → points_of vs (hole_triangle hole t) ≡ map (λ k. get_or (places_of vs hole) k origin) t
unfolding points_of hole_triangle
points_triangle vs hole (triangle {a} {b} {c} h k l) =
    let n = length_places vs hole in
    rw (place_at vs hole a (omega arith), place_at vs hole b (omega arith), place_at vs hole c (omega arith)) refl

pub good_triangle : (vs : List Vertex) (P : ℕ → Type 0) (nvp : ℕ) (hole : List ChainPoint) {t : List ℕ} → 3 ≤ nvp → All (λ (c : ChainPoint). P c.vertex) hole
    → Triangle (length (places_of vs hole)) t → Good P nvp (hole_triangle hole t)
unfolding hole_triangle
good_triangle vs P nvp hole z a (triangle {a = x} {b = y} {c = w} h k l) =
    let e = length_places vs hole in
    record {
      long = omega arith;
      short = z;
      inside = more (all_at a x no_point (omega arith)) (more (all_at a y no_point (omega arith)) (more (all_at a w no_point (omega arith)) none));
    }

three_each : (hole : List ChainPoint) (ts : List (List ℕ)) → All (λ p. length p.corners ≡ 3) (map (hole_triangle hole) ts)
unfolding hole_triangle
three_each hole [] = none
three_each hole (t ∷ ts) = more {a = hole_triangle hole t} refl (three_each hole ts)

-- R2 and R4 on the hole: two fewer corners beyond two than points
pub hole_corners : (vs : List Vertex) (nvp : ℕ) (hole : List ChainPoint) (ts : List (List ℕ)) → 3 ≤ nvp → 3 ≤ length hole
    → triangulate (places_of vs hole) ≡ done ts → Corners (length hole - 2) (merge_all vs nvp (map (hole_triangle hole) ts))
hole_corners vs nvp hole ts z low e =
    let l = length_places vs hole in
    let m = triangles_merged vs nvp (map (hole_triangle hole) ts) z (three_each hole ts) in
    record {
      spares = m.spares ∙ length-map ts (hole_triangle hole) ∙ triangles_counted (places_of vs hole) ts (omega arith) e ∙ ap (λ (k : ℕ). k - 2) l;
      long = m.long;
    }

pub filled : (vs : List Vertex) (P : ℕ → Type 0) (nvp : ℕ) (hole : List ChainPoint) (ts : List (List ℕ)) → 3 ≤ nvp → All (λ (c : ChainPoint). P c.vertex) hole
    → 3 ≤ length hole → length hole ≤ 2 ^ 28 → triangulate (places_of vs hole) ≡ done ts → Filled vs P nvp hole ts
unfolding cut_area polygon_area
filled vs P nvp hole ts z a low high e =
    let l = length_places vs hole in
    let c = triangulated (places_of vs hole) ts (omega arith) (omega arith) e in
    let ps = map (hole_triangle hole) ts in
    let g = merged vs P nvp ps (all_map (hole_triangle hole) (λ t (k : Triangle (length (places_of vs hole)) t). good_triangle vs P nvp hole z a k) c.inside) in
    record {
      areas = g.areas ∙ sum_map (polygon_area vs) (hole_triangle hole) ts
          ∙ sum_same (λ t. polygon_area vs (hole_triangle hole t)) (cut_area (places_of vs hole))
          (λ t (k : Triangle (length (places_of vs hole)) t). ap area (points_triangle vs hole k)) c.inside ∙ c.areas;
      good = g.good;
    }

-- ---- the chain

sum_none : (f : Side → ℤ) (l : List Side) → length l ≡ 0 → sum_of f l ≡ pos 0
unfolding sum_of
sum_none f [] e = refl
sum_none f (s ∷ l) e = absurd (omega arith)

chain_path : (v : Point) (pl : ℕ → Point) (chain : List ChainPoint) → chain_sum (seen v pl) chain ≡ path_of v (map (λ (c : ChainPoint). pl c.vertex) chain)
unfolding chain_sum path_of seen
chain_path v pl [] = refl
chain_path v pl (c ∷ chain) = sym (path_map (D v) (λ (c : ChainPoint). pl c.vertex) c chain)

-- one point more than sides that are used
pub walk_counts : (sides : List Side) → 0 < length sides → length (walk sides).chain + length (walk sides).rest ≡ suc (length sides)
walk_counts sides z = (walked {P = λ c. Unit} (λ a b. pos 0) sides z (anything sides) (anything sides)).counts
  where
    anything : (l : List Side) → All (λ (s : Side). Unit) l
    anything [] = none
    anything (s ∷ l) = more tt (anything l)

pub chain_length : (sides : List Side) → 0 < length sides → length (walk sides).rest ≡ 0 → length (walk sides).chain ≡ suc (length sides)
chain_length sides z e = omega (arith, walk_counts sides z)

module _ (vs : List Vertex) (rem : ℕ) (sides : List Side) (h : rem < length vs) (clear : All (ClearSide rem (length vs)) sides) where
  -- a side in new numbers is the same side
  side_dropped : (s : Side) → ClearSide rem (length vs) s
      → on_side (seen (place_of vs rem) (place_of (without vs rem))) (dropped_side rem s) ≡ on_side (seen (place_of vs rem) (place_of vs)) s
  unfolding on_side seen dropped_side
  side_dropped s k =
      ap₂ (D (place_of vs rem)) (place_dropped vs rem s.start h k.starts.other) (place_dropped vs rem s.end h k.ends.other)

  start_below : (s : Side) → ClearSide rem (length vs) s → (dropped_side rem s).start < length (without vs rem)
  unfolding dropped_side
  start_below s k = rw (length_without vs rem h) (dropped_below rem s.start (length vs) h k.starts)

  end_below : (s : Side) → ClearSide rem (length vs) s → (dropped_side rem s).end < length (without vs rem)
  unfolding dropped_side
  end_below s k = rw (length_without vs rem h) (dropped_below rem s.end (length vs) h k.ends)

  pub chained : 0 < length sides → length (walk (map (dropped_side rem) sides)).rest ≡ 0 → Chained vs rem sides (walk (map (dropped_side rem) sides)).chain
  unfolding places_of
  chained z e =
      let g = seen (place_of vs rem) (place_of (without vs rem)) in
      let new = map (dropped_side rem) sides in
      let n = length-map sides (dropped_side rem) in
      let w = walked {P = λ c. c < length (without vs rem)} g new (omega arith) (all_map (dropped_side rem) start_below clear) (all_map (dropped_side rem) end_below clear) in
      record {
        areas = sym (chain_path (place_of vs rem) (place_of (without vs rem)) (walk new).chain) ∙ sym (+ℤ_idr (chain_sum g (walk new).chain))
            ∙ ap (λ (y : ℤ). chain_sum g (walk new).chain +ℤ y) (sym (sum_none (on_side g) (walk new).rest e)) ∙ w.total
            ∙ sum_map (on_side g) (dropped_side rem) sides
            ∙ sum_same (λ s. on_side g (dropped_side rem s)) (on_side (seen (place_of vs rem) (place_of vs))) side_dropped clear;
        inside = w.points;
      }

-- ---- one removal

pub removable : (rem : ℕ) (ps : List Polygon) → can_remove rem ps ≡ true → Removable rem ps
unfolding can_remove
removable rem ps e =
    let sides = sides_left rem ps in
    let d = eqb (length (walk sides).rest) 0 in
    let c = leb (met_once (neighbours rem ps)) 2 in
    let b = ltb 2 (length sides) in
    let f = and_right (held_once rem ps) (b && (c && d)) e in
    record {
      once = and_left (held_once rem ps) (b && (c && d)) e;
      many = ltb-true 2 (length sides) (and_left b (c && d) f);
      used = eqb-true (length (walk sides).rest) 0 (and_right c d (and_right b (c && d) f));
    }

pub length_sides : (rem : ℕ) (ps : List Polygon) → length (sides_left rem ps) ≡ length (taken_out rem ps).sides
unfolding sides_left
length_sides rem ps = length-map (taken_out rem ps).sides (dropped_side rem)

-- no more sides than corners beyond two
pub sides_few : (rem : ℕ) (ps : List Polygon) → All Long ps → held_once rem ps ≡ true → length (sides_left rem ps) ≤ spares_in ps
sides_few rem ps long h = omega (arith, length_sides rem ps, spares_opened rem ps long h)

pub chain_counts : (rem : ℕ) (ps : List Polygon) → Removable rem ps → length (walk (sides_left rem ps)).chain ≡ suc (length (taken_out rem ps).sides)
chain_counts rem ps may = chain_length (sides_left rem ps) (omega (arith, may.many)) may.used ∙ ap suc (length_sides rem ps)

-- the sum: k stays, the sides s are the hole's area h and what is lost, l
balance : (m s k h l : ℤ) → m ≡ s +ℤ k → s ≡ h +ℤ l → k +ℤ h ≡ m -ℤ l
balance m s k h l e f = omega (ints, told (at s ⊕ at k), told (at h ⊕ at l), told (at k ⊕ at h), told (at m ⊖ at l))

length_marks : (m : Mesh) (rem : ℕ) → rem < length m.vertices → length m.marks ≡ length m.vertices
    → length (without m.marks rem) ≡ length (without m.vertices rem)
length_marks m rem h e = length_without m.marks rem (omega arith) ∙ ap (λ (n : ℕ). n - 1) e ∙ sym (length_without m.vertices rem h)

-- a removal that fills its hole: with which triangles, and what it then leaves
module _ (nvp rem : ℕ) (m : Mesh) where
  abbrev chain : List ChainPoint
  chain = (walk (sides_left rem m.polygons)).chain

  abbrev new : List Vertex
  new = without m.vertices rem

  abbrev logged : Removal
  logged = record {
    vertex = rem;
    removed = place_of m.vertices rem;
    closed = is_closed chain;
    first = place_of new (first_of chain).vertex;
    last = place_of new (last_of chain).vertex;
  }

  abbrev result : List (List ℕ) → Mesh
  result ts = record {
    vertices = new;
    marks = without m.marks rem;
    polygons = polygons_left rem m.polygons ++ merge_all new nvp (map (hole_triangle (hole_of chain)) ts);
  }

  pub record Fills (t : Mesh) (r : Removal) : Type 0 where
    pub triangles : List (List ℕ)
    pub cut : triangulate (places_of new (hole_of chain)) ≡ done triangles
    pub mesh : t ≡ result triangles
    pub log : r ≡ logged

  fills : (e : Ears) (t : Mesh) (r : Removal) → triangulate (places_of new (hole_of chain)) ≡ e
      → fill_hole nvp new (without m.marks rem) (polygons_left rem m.polygons) (hole_of chain) logged e ≡ gone t r → Fills t r
  unfolding fill_hole
  fills (stuck k) t r p q = let z : ◌≡◌ {A = ℕ} 0 1 = cc in absurd (omega arith)
  fills (done ts) t r p q = record { triangles = ts; cut = p; mesh = cc; log = cc }

  pub removal_fills : (t : Mesh) (r : Removal) → remove_vertex nvp rem m ≡ gone t r → Fills t r
  unfolding remove_vertex
  removal_fills t r q = fills (triangulate (places_of new (hole_of chain))) t r refl q

long_dropped : (rem : ℕ) {ps : List Polygon} → All Long ps → All Long (map (dropped_in rem) ps)
unfolding dropped_in
long_dropped rem a = all_map (dropped_in rem) (λ p (h : Long p). rw (length-map p.corners (dropped rem)) h) a

corners_filled : (nvp rem : ℕ) (m : Mesh) (ts : List (List ℕ)) → 3 ≤ nvp → All Long m.polygons → Removable rem m.polygons
    → triangulate (places_of (new nvp rem m) (hole_of (chain nvp rem m))) ≡ done ts → Shorter m (result nvp rem m ts) (logged nvp rem m)
unfolding polygons_left
corners_filled nvp rem m ts three long may cut =
    let c = chain nvp rem m in
    let out = taken_out rem m.polygons in
    let took = took_out rem m.polygons in
    let n = chain_counts rem m.polygons may in
    let l = length_sides rem m.polygons in
    let room = hole_room c (omega (arith, may.many)) in
    let h = hole_corners (new nvp rem m) nvp (hole_of c) ts three room.0 cut in
    record {
      spares = omega (
        arith,
        total_append spare_of (polygons_left rem m.polygons) (merge_all (new nvp rem m) nvp (map (hole_triangle (hole_of c)) ts)),
        spares_dropped rem out.polygons,
        spares_opened rem m.polygons long may.once,
        h.spares,
        hole_length c (omega (arith, may.many)),
        one_or_two (is_closed c),
      );
      long = all_append (long_dropped rem (all_right took.gone out.polygons (all_perm took.perm long))) h.long;
    }

pub corners_removed : (nvp rem : ℕ) (m t : Mesh) (r : Removal) → 3 ≤ nvp → All Long m.polygons → Removable rem m.polygons
    → remove_vertex nvp rem m ≡ gone t r → Shorter m t r
corners_removed nvp rem m t r three long may q =
    let f = removal_fills nvp rem m t r q in
    go t r f.mesh f.log (corners_filled nvp rem m f.triangles three long may f.cut)
  where
    go : {u : Mesh} {l : Removal} (t : Mesh) (r : Removal) → t ≡ u → r ≡ l → Shorter m u l → Shorter m t r
    go t r a b h = rw (a, b) h

-- and it leaves a sound mesh, with the area that it had but for what the open hole takes
step_filled : (nvp rem : ℕ) (m : Mesh) (ts : List (List ℕ)) → 3 ≤ nvp → rem < length m.vertices → Sound nvp m → spares_in m.polygons < 2 ^ 28 → Removable rem m.polygons
    → triangulate (places_of (new nvp rem m) (hole_of (chain nvp rem m))) ≡ done ts → Step nvp m (result nvp rem m ts) (logged nvp rem m)
unfolding polygons_left sides_left mesh_area area_taken
step_filled nvp rem m ts three here sound few may cut =
    let ps = m.polygons in
    let out = taken_out rem ps in
    let c = chain nvp rem m in
    let vs = new nvp rem m in
    let v = place_of m.vertices rem in
    let n = chain_counts rem ps may in
    let l = length_sides rem ps in
    let room = hole_room c (omega (arith, may.many)) in
    let long = all_imp (λ p (k : Good (Below (length m.vertices)) nvp p). k.long) sound.good in
    let o = opened m.vertices nvp rem ps sound.good in
    let k = kept m.vertices nvp rem out.polygons here o.good o.free in
    let d = chained m.vertices rem out.sides here o.clear (omega (arith, may.many)) may.used in
    let g = filled vs (Below (length vs)) nvp (hole_of c) ts three (all_hole c d.inside) room.0
    (omega (arith, may.many, spares_opened rem ps long may.once)) cut in
    record {
      areas = sum_append (polygon_area vs) (map (dropped_in rem) out.polygons) (merge_all vs nvp (map (hole_triangle (hole_of c)) ts))
          ∙ ap₂ ◌+ℤ◌ k.areas g.areas
          ∙ balance (area_of m.vertices ps) (sum_of (on_side (seen v (place_of m.vertices))) out.sides) (area_of m.vertices out.polygons)
          (area (places_of vs (hole_of c))) (lost vs v c (is_closed c)) o.areas (sym d.areas ∙ hole_area vs c v (omega (arith, may.many)));
      sound = record { good = all_append k.good g.good; marked = length_marks m rem here sound.marked; grid = all_without m.vertices rem sound.grid };
      vertices = length_without m.vertices rem here;
    }

pub removed_ok : (nvp rem : ℕ) (m t : Mesh) (r : Removal) → 3 ≤ nvp → rem < length m.vertices → Sound nvp m → spares_in m.polygons < 2 ^ 28 → Removable rem m.polygons
    → remove_vertex nvp rem m ≡ gone t r → Step nvp m t r
removed_ok nvp rem m t r three here sound few may q =
    let f = removal_fills nvp rem m t r q in
    go t r f.mesh f.log (step_filled nvp rem m f.triangles three here sound few may f.cut)
  where
    go : {u : Mesh} {l : Removal} (t : Mesh) (r : Removal) → t ≡ u → r ≡ l → Step nvp m u l → Step nvp m t r
    go t r a b h = rw (a, b) h
