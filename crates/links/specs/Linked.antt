-- The words of links: read back, and written anew, a polygon's or a single one. Assumes nothing.
-- Key: `links_are`: words that hold the links ls give them back; `links_put`: the links of one polygon written anew; `link_set`: one link; `linked_ready`:
-- what R7 asks for holds after R6; `marked_links`: the links after R7.
use Rattle.std.specs.Prelude.{◌≡◌, ℕ, ◌+◌, ◌-◌, ◌*◌, ◌≤◌, ◌<◌, take, set}
use Rattle.std.proofs.Math.Path.{sym, ap}
use Rattle.std.proofs.Common.{◌∙◌, ⊎_elim, arith, le_refl, add-zero, length-set}
use mathlib.Core.List.{List, [], ◌++◌}
use Rattle.std.proofs.Math.ListN.{length, get_or, replicate, get_or-eq_default}
use Rattle.std.proofs.Math.Seq.{ext_get_or}
use Rattle.mem.specs.Slice.{view, splice, splice_view, splice_over, length_splice, length_view, set_part, view_view, view_before}
use Rattle.mem.specs.Tab.{tab, length_tab, get_or_tab, tab_cong, blocks}
use Rattle.mem.specs.Loops.{block_fits}
use Rattle.mem.specs.Cases.{lt_or_le}
use Rattle.mem.specs.Packed.{Every, every_at, every_of, splice_first, packed_at, packed_put, length_packed}
use Rattle.rules.specs.Mesh.{Polygon, no_polygon, polygon_at}
use Rattle.rules.specs.Links.{none, set_link, edges_of, links_of}
use Rattle.rules.specs.Exits.{padded}
use Rattle.laws.specs.Lists.{All}
use Rattle.laws.proofs.Lists.{all_at, every_of_all}
use Rattle.laws.specs.Links.{Shaped}
use Rattle.laws.proofs.Links.{links_shaped, portals_shaped}
use Rattle.records.specs.Layout.{vertex_size, vertex_in, vertices_at, Placed, polygon_size, most_corners, polygon_in, polygons_at, Small, link_size}
use Rattle.records.specs.Polygons.{length_padded, take_padded, length_polygons}
use Rattle.links.specs.declared.edges.EdgeTables.{EdgeTables}
use Rattle.links.specs.Tables.{edged, Room}
use Rattle.links.specs.Ready.{link_records, link_place, links_at, LinkReady, PortalReady, portals_at}
use Rattle.links.specs.Counts.{edges_few}
use Rattle.links.specs.Standing.{length_edged, less_room, edged_before}

Short : List ℕ → Type 0
Short l = length l ≤ link_size

sized : (l : List ℕ) → Short l → length (padded link_size l) ≡ link_size
unfolding Short
sized l h = length_padded link_size l h

short : (ps : List Polygon) (ls : List (List ℕ)) → All Small ps → Shaped ps ls → Every Short [] ls
unfolding Short
short ps ls h s = every_of Short [] ls (λ i. rw (s.sides i) (every_at Small no_polygon ps (every_of_all Small no_polygon (omega arith) h) i))

pub length_links : (ps : List Polygon) (ls : List (List ℕ)) → All Small ps → Shaped ps ls → length (link_records ls) ≡ length ps * link_size
unfolding link_records
length_links ps ls h s = length_packed (padded link_size) link_size Short [] sized ls (short ps ls h s) ∙ ap (λ (n : ℕ). n * link_size) s.polygons

-- w is v with the words of ls from lo on
module _ (v : List ℕ) (lo : ℕ) (ps : List Polygon) (ls : List (List ℕ)) (small : All Small ps) (s : Shaped ps ls) (fits : lo + length ps * link_size ≤ length v)
    {w : List ℕ} (e : w ≡ splice v lo (link_records ls)) where
  fits_all : lo + length ls * link_size ≤ length v
  fits_all = rw s.polygons fits

  size : length w ≡ length v
  size = ap length e ∙ length_splice v lo (link_records ls)

  module _ (i : ℕ) (h : i < length ps) where
    in_list : i < length ls
    in_list = rw s.polygons h

    most : length (get_or ls i []) ≤ link_size
    unfolding Short
    most = every_at Short [] ls (short ps ls small s) i

    block : lo + i * link_size + link_size ≤ length v
    block = omega (arith, fits, block_fits i (length ps) link_size (length ps * link_size) h (le_refl (length ps * link_size)))

    all_words : view w (lo + i * link_size) link_size ≡ padded link_size (get_or ls i [])
    unfolding link_records
    all_words =
        ap (λ (u : List ℕ). view u (lo + i * link_size) link_size) e
        ∙ packed_at (padded link_size) link_size Short [] sized v lo ls (short ps ls small s) fits_all i in_list

    -- the links of polygon i
    pub links_view : view w (lo + i * link_size) (length (get_or ls i [])) ≡ get_or ls i []
    links_view =
        let a = lo + i * link_size in
        ap (λ (k : ℕ). view w k (length (get_or ls i []))) (sym (add-zero a))
        ∙ sym (view_view w a link_size 0 (length (get_or ls i [])) (omega (arith, most)))
        ∙ ap (take (length (get_or ls i []))) all_words
        ∙ take_padded link_size (get_or ls i [])

    pub links_put : (xs : List ℕ) → length xs ≡ length (get_or ls i []) → splice w (lo + i * link_size) xs ≡ splice v lo (link_records (set ls i xs))
    unfolding link_records Short padded
    links_put xs q =
        let a = lo + i * link_size in
        let r = replicate (link_size - length (get_or ls i [])) none in
        ap (λ (u : List ℕ). splice u a xs) (sym (splice_view w a link_size) ∙ ap (splice w a) all_words)
        ∙ splice_first w a (get_or ls i []) r xs q
        ∙ ap (λ (n : ℕ). splice w a (xs ++ replicate (link_size - n) none)) (sym q)
        ∙ ap (λ (u : List ℕ). splice u a (padded link_size xs)) e
        ∙ packed_put (padded link_size) link_size Short [] sized v lo ls (short ps ls small s) fits_all i xs (omega (arith, most)) in_list

    -- link j of polygon i
    pub link_set : (j x : ℕ) → j < length (polygon_at ps i).corners → set w (link_place lo i j) x ≡ splice v lo (link_records (set_link i j x ls))
    unfolding set_link
    link_set j x k =
        let a = lo + i * link_size in
        let l = get_or ls i [] in
        let c : j < length l = rw (s.sides i) k in
        set_part w a (length l) j x c (omega (arith, most, block, size))
        ∙ ap (λ (u : List ℕ). splice w a (set u j x)) links_view
        ∙ links_put (set l j x) (length-set l j x)

  -- all of them
  pub links_are : links_at w lo ps ≡ ls
  unfolding links_at
  links_are = ext_get_or [] _ ls (length_tab _ (length ps) ∙ sym s.polygons) (λ i a.
      let h : i < length ps = rw (length_tab _ (length ps)) at a in
      get_or_tab _ (length ps) i [] h ∙ ap (view w (lo + i * link_size)) (sym (s.sides i)) ∙ links_view i h)

-- one link for each side is read
pub links_at_shaped : (w : List ℕ) (lo : ℕ) (ps : List Polygon) → All Small ps → lo + length ps * link_size ≤ length w → Shaped ps (links_at w lo ps)
unfolding links_at
links_at_shaped w lo ps small fits = record { polygons = length_tab _ (length ps); sides = sides }
  where
    f : ℕ → List ℕ
    f i = view w (lo + i * link_size) (length (polygon_at ps i).corners)

    sides : (i : ℕ) → length (get_or (tab f (length ps)) i []) ≡ length (polygon_at ps i).corners
    sides i = ⊎_elim
        (λ (a : i < length ps).
        let m : length (polygon_at ps i).corners ≤ most_corners = all_at small i no_polygon a in
        ap length (get_or_tab f (length ps) i [] a) ∙ length_view w (lo + i * link_size) (length (polygon_at ps i).corners)
        (omega (arith, block_fits i (length ps) link_size (length ps * link_size) a (le_refl (length ps * link_size)))))
        (λ (a : length ps ≤ i).
        ap length (get_or-eq_default (tab f (length ps)) [] {n = i} (rw (length_tab f (length ps)) a))
        ∙ sym (ap (λ (p : Polygon). length p.corners) (get_or-eq_default ps no_polygon {n = i} a)))
        (lt_or_le i (length ps))

-- ---- after R6: what R7 asks for holds, and the links are R6's

module _ {w : List ℕ} {o np nv : ℕ} {t : EdgeTables} {lo : ℕ} (ready : LinkReady w o np nv t lo) {u : List ℕ}
    (e : u ≡ splice (edged w t nv (edges_of (polygons_at w o np))) lo (link_records (links_of (polygons_at w o np)))) where
  room₁ : Room w t nv (length (edges_of (polygons_at w o np)))
  room₁ = less_room (edges_few (polygons_at w o np)) ready.room

  -- words in front of the tables are as they were
  pub linked_before : (a n : ℕ) → a + n ≤ t.firsts → view u a n ≡ view w a n
  linked_before a n h =
      ap (λ (x : List ℕ). view x a n) e
      ∙ view_before (edged w t nv (edges_of (polygons_at w o np))) lo a n (link_records (links_of (polygons_at w o np)))
      (omega (arith, ready.room.firsts, ready.room.edges, ready.behind))
      ∙ edged_before w t nv (edges_of (polygons_at w o np)) a n h room₁

  pub linked_size : length u ≡ length w
  linked_size = ap length e ∙ length_splice _ lo (link_records (links_of (polygons_at w o np))) ∙ length_edged w t nv (edges_of (polygons_at w o np))

  blocks_kept : {B : Type 0} (dec : List ℕ → B) (a k n : ℕ) → a + n * k ≤ t.firsts → blocks dec u a k n ≡ blocks dec w a k n
  unfolding blocks
  blocks_kept dec a k n h =
      tab_cong _ _ n (λ i b. ap dec (linked_before (a + i * k) k (omega (arith, block_fits i n k (n * k) b (le_refl (n * k))))))

  pub linked_polygons : polygons_at u o np ≡ polygons_at w o np
  unfolding polygons_at
  linked_polygons = blocks_kept polygon_in o polygon_size np ready.sides.fits

  pub linked_links : links_at u lo (polygons_at w o np) ≡ links_of (polygons_at w o np)
  linked_links =
      let ps = polygons_at w o np in
      links_are (edged w t nv (edges_of ps)) lo ps (links_of ps) ready.sides.small (links_shaped ps)
      (rw (length_edged w t nv (edges_of ps), length_polygons w o np) ready.links) e

  module _ (vo : ℕ) (placed : Placed w vo nv) (behind : vo + nv * vertex_size ≤ o) where
    vertices_end : vo + nv * vertex_size ≤ t.firsts
    vertices_end = omega (arith, ready.sides.fits)

    pub linked_vertices : vertices_at u vo nv ≡ vertices_at w vo nv
    unfolding vertices_at
    linked_vertices = blocks_kept vertex_in vo vertex_size nv vertices_end

    pub linked_ready : PortalReady u vo nv o np lo
    linked_ready =
        let ps = polygons_at w o np in
        record {
          placed = record { fits = omega (arith, linked_size, placed.fits); grid = λ k. rw linked_vertices (placed.grid k) };
          vertices = behind;
          polygons = omega (arith, ready.sides.fits, ready.room.firsts, ready.room.edges, ready.behind);
          links = omega (arith, linked_size, ready.links);
          small = rw linked_polygons ready.sides.small;
          inside = rw linked_polygons ready.sides.inside;
          is = rw (linked_polygons, linked_links) (e
              ∙ sym (splice_over (edged w t nv (edges_of ps)) lo (link_records (links_of ps)) (link_records (links_of ps)) (omega arith))
              ∙ ap (λ (x : List ℕ). splice x lo (link_records (links_of ps))) (sym e));
        }

-- ---- after R7: the links are R7's, and every word in front of them is as it was

module _ {w : List ℕ} {vo nv o np lo : ℕ} (ready : PortalReady w vo nv o np lo) (gw gh border : ℕ) {u : List ℕ}
    (e : u ≡ splice w lo (link_records (portals_at w vo nv o np lo gw gh border))) where
  pub marked_before : (a n : ℕ) → a + n ≤ lo → view u a n ≡ view w a n
  marked_before a n h = ap (λ (x : List ℕ). view x a n) e ∙ view_before w lo a n (link_records (portals_at w vo nv o np lo gw gh border)) h

  pub marked_links : links_at u lo (polygons_at w o np) ≡ portals_at w vo nv o np lo gw gh border
  marked_links =
      let ps = polygons_at w o np in
      let fits : lo + length ps * link_size ≤ length w = rw (length_polygons w o np) ready.links in
      links_are w lo ps (portals_at w vo nv o np lo gw gh border) ready.small
      (portals_shaped (vertices_at w vo nv) gw gh border ps (links_at w lo ps) (links_at_shaped w lo ps ready.small fits)) fits e
