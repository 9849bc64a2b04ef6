-- R6 and R7: a link is the number of a polygon, none, or a portal; and there is one for each side. Assumes nothing.
-- Key: `links_up_to`, `portals_up_to`: how great a link is; `links_shaped`, `portals_shaped`: one for each side.
use Rattle.std.specs.Prelude.{ℕ, zero, suc, ◌≤◌, ◌<◌, ◌≡◌, refl, ◌&&◌, ◌≢◌, eqb, ltb, length, get_or, set, replicate, Option, Some, None}
use native.Mathlib.Omega.{arith}
use Rattle.std.proofs.Common.{sym, ◌∙◌, ap, ⊎_elim, length-set, get_or-set_same, get_or-set_other}
use mathlib.Core.List.{List, [], ◌∷◌}
use Rattle.std.proofs.lemmas.List.{length-map, length-replicate}
use Rattle.std.proofs.Math.ListN.{get_or-eq_default}
use Rattle.std.proofs.Math.Seq.{set_out}
use Rattle.ints.specs.Bools.{cond_ind}
use Rattle.mem.specs.Cases.{lt_or_le, eq_or_ne}
use Rattle.mem.specs.Loops.{each_ind}
use Rattle.mem.specs.Tab.{tab, length_tab, get_or_tab}
use Rattle.mem.specs.Packed.{Every, every_at, every_of, every_nil, every_set, every_append, every_same, every_map, every_tab}
use Rattle.rules.specs.declared.Point.{Point}
use Rattle.rules.specs.declared.Vertex.{Vertex}
use Rattle.rules.specs.declared.Edge.{Edge}
use Rattle.rules.specs.Mesh.{Polygon, no_polygon, polygon_at, side_start, side_end}
use Rattle.rules.specs.Links.{none, no_edge, each_side, record_side, newest, joined_to, join_at, join_side, edges_of, set_link, store_edge, no_links, links_of}
use Rattle.rules.specs.Portals.{portal_of, portal_at, portals_in, portals}
use Rattle.laws.specs.Links.{UpTo, Shaped}

-- ---- how great a link is, where no polygon has the number 65,535

record Small (e : Edge) : Type 0 where
  poly : e.poly < none
  other : e.other < none

no_edge_lem : Small no_edge
no_edge_lem = record { poly = omega arith; other = omega arith }

-- what each step keeps, all of them keep
side_ind : {S : Type 0} (P : S → Type 0) (ps : List Polygon) (step : ℕ → ℕ → S → S) → ((i j : ℕ) (s : S) → i < length ps → P s → P (step i j s))
    → (s : S) → P s → P (each_side ps step s)
unfolding each_side
side_ind P ps step kept s p = each_ind (λ i t. Rattle.mem.specs.Loops.each (step i) 0 (length (polygon_at ps i).corners) t) P 0 (length ps)
    (λ i t a h q. each_ind (step i) P 0 (length (polygon_at ps i).corners) (λ j u b k r. kept i j u h r) t q) s p

module _ (ps : List Polygon) (few : length ps < none) where
  record_small : (i j : ℕ) (es : List Edge) → i < length ps → Every Small no_edge es → Every Small no_edge (record_side ps i j es)
  unfolding record_side
  record_small i j es h k =
      let a = side_start (polygon_at ps i).corners j in
      let b = side_end (polygon_at ps i).corners j in
      let e : Edge = record { low = a; high = b; poly = i; side = j; other = i; at = 0 } in
      cond_ind (Every Small no_edge) (ltb a b)
      (every_append Small no_edge es (e ∷ []) k (every_same Small no_edge 1 e no_edge_lem (record { poly = omega arith; other = omega arith }))) k

  at_small : (i j : ℕ) (es : List Edge) (f : Option ℕ) → i < length ps → Every Small no_edge es → Every Small no_edge (join_at i j es f)
  unfolding join_at joined_to
  at_small i j es (Some k) h s =
      every_set Small no_edge es k (joined_to i j (get_or es k no_edge)) s (record { poly = (every_at Small no_edge es s k).poly; other = omega arith })
  at_small i j es None h s = s

  join_small : (i j : ℕ) (es : List Edge) → i < length ps → Every Small no_edge es → Every Small no_edge (join_side ps i j es)
  unfolding join_side
  join_small i j es h k =
      let a = side_start (polygon_at ps i).corners j in
      let b = side_end (polygon_at ps i).corners j in
      cond_ind (Every Small no_edge) (ltb b a) (at_small i j es (newest b a es) h k) k

  edges_small : Every Small no_edge (edges_of ps)
  unfolding edges_of
  edges_small = side_ind (Every Small no_edge) ps (join_side ps) join_small _
      (side_ind (Every Small no_edge) ps (record_side ps) record_small [] (every_nil Small no_edge no_edge_lem))

none_yet : (n : ℕ) → none ≤ n → UpTo n []
none_yet n h = every_nil (λ k. k ≤ n) none h

set_up_to : (i j n : ℕ) (ls : List (List ℕ)) → n ≤ none → Every (UpTo none) [] ls → Every (UpTo none) [] (set_link i j n ls)
unfolding set_link
set_up_to i j n ls h k =
    every_set (UpTo none) [] ls i (set (get_or ls i []) j n) k (every_set (λ k. k ≤ none) none (get_or ls i []) j n (every_at (UpTo none) [] ls k i) h)

store_up_to : (es : List Edge) (k : ℕ) (ls : List (List ℕ)) → Every Small no_edge es → Every (UpTo none) [] ls → Every (UpTo none) [] (store_edge es k ls)
unfolding store_edge
store_up_to es k ls s h =
    let e = get_or es k no_edge in
    let t = every_at Small no_edge es s k in
    cond_ind (Every (UpTo none) []) (eqb e.other e.poly) h
    (set_up_to e.other e.at e.poly (set_link e.poly e.side e.other ls) (omega (arith, t.poly))
    (set_up_to e.poly e.side e.other ls (omega (arith, t.other)) h))

pub links_up_to : (ps : List Polygon) → length ps < none → Every (UpTo none) [] (links_of ps)
unfolding links_of no_links
links_up_to ps few = each_ind (store_edge (edges_of ps)) (Every (UpTo none) []) 0 (length (edges_of ps))
    (λ k ls a b h. store_up_to (edges_of ps) k ls (edges_small ps few) h) (no_links ps)
    (every_map (λ (p : Polygon). Unit) no_polygon (UpTo none) [] (λ p. replicate (length p.corners) none) ps (none_yet none (omega arith))
    (λ p u. every_same (λ k. k ≤ none) none (length p.corners) none (omega arith) (omega arith)) (every_of (λ (p : Polygon). Unit) no_polygon ps (λ i. tt)))

-- what R7 gives is one of its four marks, or none
pub portal_ind : (P : ℕ → Type 0) → P 65536 → P 65537 → P 65538 → P 65539 → P none → (w h : ℕ) (a b : Point) → P (portal_of w h a b)
unfolding portal_of
portal_ind P x z x' z' o w h a b =
    cond_ind P (eqb a.x 0 && eqb b.x 0) x
    (cond_ind P (eqb a.z h && eqb b.z h) z
    (cond_ind P (eqb a.x w && eqb b.x w) x'
    (cond_ind P (eqb a.z 0 && eqb b.z 0) z' o)))

portal_up_to : (w h : ℕ) (a b : Point) → portal_of w h a b ≤ 65539
portal_up_to = portal_ind (λ (n : ℕ). n ≤ 65539) (omega arith) (omega arith) (omega arith) (omega arith) (omega arith)

pub portals_up_to : (vs : List Vertex) (w h border : ℕ) (ps : List Polygon) (ls : List (List ℕ)) → Every (UpTo none) [] ls
    → Every (UpTo 65539) [] (portals vs w h border ps ls)
unfolding portals portals_in portal_at
portals_up_to vs w h border ps ls k =
    cond_ind (Every (UpTo 65539) []) (ltb 0 border)
    (every_tab (UpTo 65539) [] (λ i. portals_in vs w h (polygon_at ps i).corners (get_or ls i [])) (length ps) (none_yet 65539 (omega arith))
    (λ i a. every_tab (λ n. n ≤ 65539) none (portal_at vs w h (polygon_at ps i).corners (get_or ls i [])) (length (polygon_at ps i).corners) (omega arith)
    (λ j b. cond_ind (λ n. n ≤ 65539) (eqb (get_or (get_or ls i []) j none) none) (portal_up_to w h _ _) (wider i j))))
    (every_of (UpTo 65539) [] ls (λ i. every_of (λ n. n ≤ 65539) none (get_or ls i []) (λ j. wider i j)))
  where
    wider : (i j : ℕ) → get_or (get_or ls i []) j none ≤ 65539
    wider i j = omega (arith, every_at (λ k. k ≤ none) none (get_or ls i []) (every_at (UpTo none) [] ls k i) j)

-- ---- one for each side

get_set : (ls : List (List ℕ)) (i k : ℕ) (l : List ℕ) → length l ≡ length (get_or ls i []) → length (get_or (set ls i l) k []) ≡ length (get_or ls k [])
get_set ls i k l e = ⊎_elim
    (λ (h : i < length ls). ⊎_elim
    (λ (q : k ≡ i). rw (q, get_or-set_same ls i l [] h) e)
    (λ (q : k ≢ i). ap length (get_or-set_other ls i k l [] q))
    (eq_or_ne k i))
    (λ (h : length ls ≤ i). ap (λ (m : List (List ℕ)). length (get_or m k [])) (set_out ls i l h))
    (lt_or_le i (length ls))

pub set_shaped : (ps : List Polygon) (i j n : ℕ) (ls : List (List ℕ)) → Shaped ps ls → Shaped ps (set_link i j n ls)
unfolding set_link
set_shaped ps i j n ls s = record {
  polygons = length-set ls i (set (get_or ls i []) j n) ∙ s.polygons;
  sides = λ k. get_set ls i k (set (get_or ls i []) j n) (length-set (get_or ls i []) j n) ∙ s.sides k;
}

pub store_shaped : (ps : List Polygon) (es : List Edge) (k : ℕ) (ls : List (List ℕ)) → Shaped ps ls → Shaped ps (store_edge es k ls)
unfolding store_edge
store_shaped ps es k ls s =
    let e = get_or es k no_edge in
    cond_ind (Shaped ps) (eqb e.other e.poly) s
    (set_shaped ps e.other e.at e.poly (set_link e.poly e.side e.other ls) (set_shaped ps e.poly e.side e.other ls s))

none_sides : (ps : List Polygon) (i : ℕ) → length (get_or (no_links ps) i []) ≡ length (polygon_at ps i).corners
unfolding no_links
none_sides [] i = refl
none_sides (p ∷ ps) zero = length-replicate (length p.corners) none
none_sides (p ∷ ps) (suc i) = none_sides ps i

pub none_shaped : (ps : List Polygon) → Shaped ps (no_links ps)
unfolding no_links
none_shaped ps = record { polygons = length-map ps _; sides = none_sides ps }

pub links_shaped : (ps : List Polygon) → Shaped ps (links_of ps)
unfolding links_of
links_shaped ps = each_ind (store_edge (edges_of ps)) (Shaped ps) 0 (length (edges_of ps)) (λ k ls a b s. store_shaped ps (edges_of ps) k ls s) (no_links ps) (none_shaped ps)

pub portals_shaped : (vs : List Vertex) (w h border : ℕ) (ps : List Polygon) (ls : List (List ℕ)) → Shaped ps ls → Shaped ps (portals vs w h border ps ls)
unfolding portals portals_in
portals_shaped vs w h border ps ls s = cond_ind (Shaped ps) (ltb 0 border) (record { polygons = length_tab f (length ps); sides = sides }) s
  where
    f : ℕ → List ℕ
    f i = tab (portal_at vs w h (polygon_at ps i).corners (get_or ls i [])) (length (polygon_at ps i).corners)

    sides : (i : ℕ) → length (get_or (tab f (length ps)) i []) ≡ length (polygon_at ps i).corners
    sides i = ⊎_elim
        (λ (a : i < length ps). ap length (get_or_tab f (length ps) i [] a) ∙ length_tab _ (length (polygon_at ps i).corners))
        (λ (a : length ps ≤ i).
        ap length (get_or-eq_default (tab f (length ps)) [] {n = i} (rw (length_tab f (length ps)) a))
        ∙ sym (ap (λ (p : Polygon). length p.corners) (get_or-eq_default ps no_polygon {n = i} a)))
        (lt_or_le i (length ps))
