-- The portals: the word of an open side, of each side of a polygon, and of all polygons. After i polygons the words hold R7's links of those, and the links
-- that they held of the others. Assumes nothing.
use mathlib.Core.Path.{◌≡◌, refl, sym, ap, ◌∙◌}
use mathlib.Core.List.{List, [], ◌∷◌}
use mathlib.Core.Logic.{⊎_elim, ◌≢◌}
use Prim.Native.Nat.{ℕ, zero, suc, ◌+◌, ◌*◌, ◌≤◌, ◌<◌}
use native.Mathlib.Omega.{arith}
use native.Mathlib.Nat.{le_refl}
use borrow.Author.Tests.{ne_eqb, lt-ltb, le-ltb}
use lib.ListN.{length, get_or, set, length-set}
use lib.Seq.{ext_get_or, get_or-set_same, get_or-set_other}
use Rattle.mem.specs.Slice.{view, splice, length_splice, get_or_view, get_or_splice_above}
use Rattle.mem.specs.Tab.{tab, length_tab, get_or_tab, blocks_after, Filled}
use Rattle.mem.specs.Loops.{block_fits}
use Rattle.mem.specs.Cases.{eq_or_ne}
use Rattle.rules.specs.Mesh.{Polygon, no_polygon, polygon_at, place_of, side_start, side_end}
use Rattle.rules.specs.Links.{none}
use Rattle.rules.specs.Portals.{portal_of, portal_at, portals_in, portals}
use Rattle.rules.specs.declared.Vertex.{Vertex}
use Rattle.laws.proofs.Lists.{all_at}
use Rattle.laws.specs.Links.{Shaped}
use Rattle.records.specs.Layout.{vertex_size, vertex_in, vertices_at, polygon_size, most_corners, polygon_in, polygons_at, link_size}
use Rattle.records.specs.Values.{corners_of, Loaded}
use Rattle.records.specs.Polygons.{loaded_corners, length_corners, length_polygons}
use Rattle.records.specs.declared.polygon.Poly.{Poly}
use Rattle.links.specs.Ready.{link_records, links_at, LinksInHand, PortalReady, portals_at}
use Rattle.links.specs.Linked.{links_view, links_put, links_at_shaped}

-- a corner is one of the vertices
-- what stands past the end of a list doesn't matter before it
get_d_any : (l : List ℕ) (n d e : ℕ) → n < length l → get_or l n d ≡ get_or l n e
get_d_any [] n d e h = absurd (omega arith)
get_d_any (x ∷ l) zero d e h = refl
get_d_any (x ∷ l) (suc n) d e h = get_d_any l n d e (omega arith)

-- ---- one side

module _ (w : List ℕ) (at n : ℕ) (vs : List Vertex) (gw gh : ℕ) (cs : List ℕ) (j : ℕ) (h : j < n) where
  pub portal_open : {r : ℕ} → get_or w (at + j) 0 ≡ none → at + n ≤ length w → r ≡ portal_of gw gh (place_of vs (side_start cs j)) (place_of vs (side_end cs j))
      → r ≡ portal_at vs gw gh cs (view w at n) j
  unfolding portal_at
  portal_open e f q = rw (get_or_view w at n j none h, word) q
    where
      word : get_or w (at + j) none ≡ none
      word = get_d_any w (at + j) none 0 (omega arith) ∙ e

  pub portal_linked : get_or w (at + j) 0 ≢ none → at + n ≤ length w → get_or w (at + j) 0 ≡ portal_at vs gw gh cs (view w at n) j
  unfolding portal_at
  portal_linked e f = rw (get_or_view w at n j none h, get_d_any w (at + j) none 0 (omega arith), ne_eqb (get_or w (at + j) 0) none e) refl

-- ---- each side of a polygon: j of them are written

module _ {w₀ : List ℕ} {vo nv : ℕ} {p : Poly} {at : ℕ} (c : LinksInHand w₀ vo nv p at) (gw gh : ℕ) where
  f : ℕ → ℕ
  f = portal_at (vertices_at w₀ vo nv) gw gh (corners_of p) (view w₀ at p.n)

  module _ {w : List ℕ} {j : ℕ} (g : Filled w₀ at (portal_at (vertices_at w₀ vo nv) gw gh (corners_of p) (view w₀ at p.n)) p.n w j) where
    vertices_kept : vertices_at w vo nv ≡ vertices_at w₀ vo nv
    unfolding vertices_at f
    vertices_kept = ap (λ (v : List ℕ). vertices_at v vo nv) g.put ∙ blocks_after vertex_in w₀ at vo vertex_size nv (tab f j) c.behind

    pub still_in_hand : LinksInHand w vo nv p at
    still_in_hand = record {
      placed = record { fits = omega (arith, c.placed.fits, g.long); grid = λ k. rw vertices_kept (c.placed.grid k) };
      behind = c.behind;
      inside = c.inside;
      most = c.most;
      fits = omega (arith, c.fits, g.long);
    }

    pub portal_same : {x : ℕ} → j < p.n → x ≡ portal_at (vertices_at w vo nv) gw gh (corners_of p) (view w at p.n) j
        → x ≡ portal_at (vertices_at w₀ vo nv) gw gh (corners_of p) (view w₀ at p.n) j
    unfolding portal_at f
    portal_same h q = q ∙ rw (vertices_kept, get_or_view w at p.n j none h, get_or_view w₀ at p.n j none h, word) refl
      where
        word : get_or w (at + j) none ≡ get_or w₀ (at + j) none
        word = ap (λ (v : List ℕ). get_or v (at + j) none) g.put ∙ get_or_splice_above w₀ at (at + j) (tab f j) none (omega (arith, length_tab f j))

pub all_sides : (p : Poly) → length p.corners ≡ most_corners → p.n ≤ most_corners → (vs : List Vertex) (gw gh : ℕ) (ls : List ℕ)
    → tab (portal_at vs gw gh (corners_of p) ls) p.n ≡ portals_in vs gw gh (corners_of p) ls
unfolding portals_in
all_sides p l h vs gw gh ls = ap (tab (portal_at vs gw gh (corners_of p) ls)) (sym (length_corners p l h))

-- ---- all polygons: the links of i of them are written

module _ (w₀ : List ℕ) (vo nv o np lo gw gh : ℕ) where
  -- R7's links of polygon k
  unfoldable pub marked : ℕ → List ℕ
  marked k =
      portals_in (vertices_at w₀ vo nv) gw gh (polygon_at (polygons_at w₀ o np) k).corners (get_or (links_at w₀ lo (polygons_at w₀ o np)) k [])

  pub record Marking (w : List ℕ) (i : ℕ) : Type 0 where
    pub ls : List (List ℕ)
    pub size : length w ≡ length w₀
    pub shaped : Shaped (polygons_at w₀ o np) ls
    pub is : w ≡ splice w₀ lo (link_records ls)
    pub done : (k : ℕ) → k < i → get_or ls k [] ≡ marked k
    pub left : (k : ℕ) → i ≤ k → get_or ls k [] ≡ get_or (links_at w₀ lo (polygons_at w₀ o np)) k []

  module _ (ready : PortalReady w₀ vo nv o np lo) where
    ps : List Polygon
    ps = polygons_at w₀ o np

    ls₀ : List (List ℕ)
    ls₀ = links_at w₀ lo ps

    count : length ps ≡ np
    unfolding ps
    count = length_polygons w₀ o np

    fits : lo + length ps * link_size ≤ length w₀
    fits = rw count ready.links

    shaped₀ : Shaped ps ls₀
    unfolding ps ls₀
    shaped₀ = links_at_shaped w₀ lo ps ready.small fits

    pub marking_begin : Marking w₀ 0
    unfolding ps ls₀
    marking_begin = record {
      ls = ls₀;
      size = refl;
      shaped = shaped₀;
      is = ready.is;
      done = λ k h. absurd (omega arith);
      left = λ k h. refl;
    }

    module _ (w : List ℕ) {i : ℕ} (g : Marking w i) where
      marking_kept : polygons_at w o np ≡ polygons_at w₀ o np
      unfolding polygons_at
      marking_kept =
          ap (λ (v : List ℕ). polygons_at v o np) g.is ∙ blocks_after polygon_in w₀ lo o polygon_size np (link_records g.ls) ready.polygons

      vertices : vertices_at w vo nv ≡ vertices_at w₀ vo nv
      unfolding vertices_at
      vertices =
          ap (λ (v : List ℕ). vertices_at v vo nv) g.is
          ∙ blocks_after vertex_in w₀ lo vo vertex_size nv (link_records g.ls) (omega (arith, ready.vertices, ready.polygons))

      module _ (h : i < np) where
        here : i < length ps
        here = rw count h

        pub marking_small : length (polygon_at (polygons_at w o np) i).corners ≤ most_corners
        unfolding ps
        marking_small = rw marking_kept (all_at ready.small i no_polygon here)

        pub marking_fits : lo + i * link_size + link_size ≤ length w
        marking_fits = omega (arith, g.size, ready.links, block_fits i np link_size (np * link_size) h (le_refl (np * link_size)))

        module _ {p : Poly} (lp : Loaded (polygon_at (polygons_at w o np) i) p) where
          corners : corners_of p ≡ (polygon_at ps i).corners
          unfolding ps
          corners = loaded_corners lp ∙ ap (λ (qs : List Polygon). (polygon_at qs i).corners) marking_kept

          pub marking_hand : LinksInHand w vo nv p (lo + i * link_size)
          unfolding ps
          marking_hand = record {
            placed = record { fits = omega (arith, ready.placed.fits, g.size); grid = λ k. rw vertices (ready.placed.grid k) };
            behind = omega (arith, ready.vertices, ready.polygons);
            inside = rw corners (all_at ready.inside i no_polygon here);
            most = lp.most;
            fits = omega (arith, lp.most, marking_fits);
          }

          many : p.n ≡ length (get_or g.ls i [])
          unfolding ps
          many = lp.count ∙ ap (λ (qs : List Polygon). length (polygon_at qs i).corners) marking_kept ∙ sym (g.shaped.sides i)

          words : portals_in (vertices_at w vo nv) gw gh (corners_of p) (view w (lo + i * link_size) p.n) ≡ marked i
          unfolding marked ps
          words =
              rw (vertices, corners, many, links_view w₀ lo ps g.ls ready.small g.shaped fits g.is i here, g.left i (le_refl i)) refl

          long : length (marked i) ≡ length (get_or g.ls i [])
          unfolding marked portals_in ps
          long = length_tab _ (length (polygon_at ps i).corners) ∙ sym (g.shaped.sides i)

          in_list : i < length g.ls
          unfolding ps
          in_list = rw g.shaped.polygons here

          pub marking_more : {u : List ℕ}
              → u ≡ splice w (lo + i * link_size) (portals_in (vertices_at w vo nv) gw gh (corners_of p) (view w (lo + i * link_size) p.n)) → Marking u (i + 1)
          unfolding ps
          marking_more {u} e = record {
            ls = set g.ls i (marked i);
            size = ap length e ∙ length_splice w (lo + i * link_size) _ ∙ g.size;
            shaped = record {
              polygons = length-set g.ls i (marked i) ∙ g.shaped.polygons;
              sides = λ k. ⊎_elim
                  (λ (q : k ≡ i). rw (q, get_or-set_same g.ls i (marked i) [] in_list) (long ∙ g.shaped.sides i))
                  (λ (q : k ≢ i). rw (get_or-set_other g.ls i k (marked i) [] q) (g.shaped.sides k)) (eq_or_ne k i);
            };
            is =
                e ∙ ap (splice w (lo + i * link_size)) words
                ∙ links_put w₀ lo ps g.ls ready.small g.shaped fits g.is i here (marked i) long;
            done = λ k b. ⊎_elim
                (λ (q : k ≡ i). rw q (get_or-set_same g.ls i (marked i) [] in_list))
                (λ (q : k ≢ i). get_or-set_other g.ls i k (marked i) [] q ∙ g.done k (omega arith)) (eq_or_ne k i);
            left = λ k b. get_or-set_other g.ls i k (marked i) [] (λ (q : k ≡ i). omega arith) ∙ g.left k (omega arith);
          }

      pub marking_end : (border : ℕ) → np ≤ i → border ≢ 0
          → w ≡ splice w₀ lo (link_records (portals_at w₀ vo nv o np lo gw gh border))
      unfolding portals marked ps
      marking_end border h b = rw (lt-ltb 0 border (omega arith)) (g.is ∙ ap (λ (l : List (List ℕ)). splice w₀ lo (link_records l)) all)
        where
          all : g.ls ≡ tab marked (length ps)
          all = ext_get_or [] g.ls (tab marked (length ps)) (g.shaped.polygons ∙ sym (length_tab marked (length ps))) (λ k a.
              let c : k < length ps = rw g.shaped.polygons at a in
              g.done k (omega (arith, count)) ∙ sym (get_or_tab marked (length ps) k [] c))

    -- no border: the links stay as they are
    pub unmarked : (border : ℕ) → border ≡ 0
        → w₀ ≡ splice w₀ lo (link_records (portals_at w₀ vo nv o np lo gw gh border))
    unfolding portals
    unmarked border e = rw (le-ltb 0 border (omega arith)) ready.is
