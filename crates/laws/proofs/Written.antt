-- A mesh that is written one thing after the other meets the checker's sentences, if its lists do what they ask: its words read back as they were written.
-- Assumes nothing.
-- Key: `meets_acceptable`; `polygons_are`, `vertices_are`: how it is read.
use Rattle.std.specs.Prelude.{ℕ, ◌+◌, ◌-◌, ◌*◌, ◌/◌, ◌≤◌, ◌<◌, ◌≡◌, take, drop, replicate}
use Rattle.std.proofs.Math.Nat.{mul-div_cancel}
use Rattle.std.proofs.Common.{arith, ◌∙◌, take-take, get_or-append-add}
use Rattle.std.proofs.Math.Path.{refl, sym, ap}
use mathlib.Core.List.{List, [], ◌++◌, map}
use Rattle.std.proofs.Math.ListN.{length, get_or, length-map, get_or-append, get_or-map}
use Rattle.std.proofs.lemmas.List.{get_or-replicate}
use Rattle.mem.specs.Slice.{view, get_or_view}
use Rattle.mem.specs.Tab.{tab}
use Rattle.mem.specs.Packed.{Every, every_at, every_of, packed, packed_view, length_packed}
use Rattle.rules.specs.declared.Vertex.{Vertex}
use Rattle.rules.specs.Weld.{no_vertex}
use Rattle.rules.specs.Mesh.{Polygon, no_polygon, polygon_at}
use Rattle.rules.specs.Links.{none}
use Rattle.rules.specs.Checks.{vertex_stride}
use Rattle.rules.specs.Exits.{vertex_words, padded, corner_words, vertex_of, stored_polygon, stored_links, decoded}
use Rattle.rules.specs.Areas.{sum_of, polygon_area, points_of, stored_area}
use Rattle.rules.specs.Handed.{Handed, vertex_count, polygon_count, buffers_of, mesh_in, corner_word, link_word, corners_at, link_at}
use Rattle.rules.specs.Handed.{GoodBuffers, GoodCorners, NamedBack, GoodLinks}
use Rattle.rules.specs.Checker.{Claim, GoodPortals, Acceptable}
use Rattle.laws.specs.Lists.{All}
use Rattle.laws.proofs.Lists.{all_at, all_imp, every_of_all, sum_map}
use Rattle.laws.specs.Merge.{Good, Below}
use Rattle.laws.proofs.Exits.{tab_list, length_padded, up_to_padded, take_padded}
use Rattle.laws.specs.Written.{bare, Meets}

-- ---- a polygon's words: its corners, or its links, and 65,535 behind them

padded_in : (n : ℕ) (cs : List ℕ) (k : ℕ) → k < length cs → get_or (padded n cs) k 0 ≡ get_or cs k 0
unfolding padded
padded_in n cs k h = get_or-append cs (replicate (n - length cs) none) 0 k h

padded_after : (n : ℕ) (cs : List ℕ) (k : ℕ) → length cs ≤ k → k < n → get_or (padded n cs) k 0 ≡ none
unfolding padded
padded_after n cs k h l =
    let e : k ≡ length cs + (k - length cs) = omega arith in
    ap (λ (i : ℕ). get_or (cs ++ replicate (n - length cs) none) i 0) e
    ∙ get_or-append-add cs (replicate (n - length cs) none) (k - length cs) 0
    ∙ get_or-replicate (n - length cs) (k - length cs) none 0 (omega arith)

-- ---- what is proved of a mesh goes by the corners alone

same_corners : (ps qs : List Polygon) (ls : List (List ℕ)) (i j : ℕ) → length qs ≡ length ps → ((i : ℕ) → (polygon_at qs i).corners ≡ (polygon_at ps i).corners)
    → NamedBack ps ls i j → NamedBack qs ls i j
same_corners ps qs ls i j e f n = record {
  side = n.side;
  there = rw e n.there;
  other = n.other;
  within = rw (f (link_at ls i j)) n.within;
  starts = rw (f (link_at ls i j), f i) n.starts;
  ends = rw (f (link_at ls i j), f i) n.ends;
  back = n.back;
}

pub bare_corners : (ps : List Polygon) (i : ℕ) → (polygon_at (map bare ps) i).corners ≡ (polygon_at ps i).corners
unfolding bare
bare_corners ps i = ap (λ (p : Polygon). p.corners) (get_or-map bare ps i no_polygon)

-- ---- a mesh that is written one thing after the other

module _ (nvp w h border : ℕ) (vs : List Vertex) (ps : List Polygon) (ls : List (List ℕ)) (x : Meets nvp w h border vs ps ls) where
  unfoldable pub written : Handed
  written = record {
    nvp = nvp;
    vertices = packed vertex_words vs;
    polygons = packed (corner_words nvp) ps;
    links = packed (padded nvp) ls;
  }

  unfoldable pub claimed : Claim
  claimed = record { mesh = written; w = w; h = h; border = border; total = sum_of (polygon_area vs) ps }

  Short : Polygon → Type 0
  Short p = length p.corners ≤ nvp

  ShortLinks : List ℕ → Type 0
  ShortLinks l = length l ≤ nvp

  AnyVertex : Vertex → Type 0
  AnyVertex v = Unit

  short : Every Short no_polygon ps
  unfolding Short
  short = every_of_all (λ (p : Polygon). length p.corners ≤ nvp) no_polygon (omega arith)
      (all_imp (λ p (g : Good (Below (length vs)) nvp p). g.short) x.good)

  short_links : Every ShortLinks [] ls
  unfolding ShortLinks Short
  short_links = every_of (λ (l : List ℕ). length l ≤ nvp) [] ls (λ i. rw (x.shaped.sides i) (every_at Short no_polygon ps short i))

  any_vertex : Every AnyVertex no_vertex vs
  unfolding AnyVertex
  any_vertex = every_of (λ (v : Vertex). Unit) no_vertex vs (λ i. tt)

  vertex_sized : (v : Vertex) → AnyVertex v → length (vertex_words v) ≡ vertex_stride
  unfolding vertex_words
  vertex_sized v u = refl

  polygon_sized : (p : Polygon) → Short p → length (corner_words nvp p) ≡ nvp
  unfolding corner_words Short
  polygon_sized p k = length_padded nvp p.corners k

  links_sized : (l : List ℕ) → ShortLinks l → length (padded nvp l) ≡ nvp
  unfolding ShortLinks
  links_sized l k = length_padded nvp l k

  pub vertices_long : length (packed vertex_words vs) ≡ length vs * vertex_stride
  vertices_long = length_packed vertex_words vertex_stride AnyVertex no_vertex vertex_sized vs any_vertex

  pub polygons_long : length (packed (corner_words nvp) ps) ≡ length ps * nvp
  polygons_long = length_packed (corner_words nvp) nvp Short no_polygon polygon_sized ps short

  pub links_long : length (packed (padded nvp) ls) ≡ length ps * nvp
  links_long = length_packed (padded nvp) nvp ShortLinks [] links_sized ls short_links ∙ ap (λ (n : ℕ). n * nvp) x.shaped.polygons

  vertices_counted : vertex_count written ≡ length vs
  unfolding vertex_count written
  vertices_counted = ap (λ (n : ℕ). n / vertex_stride) vertices_long ∙ mul-div_cancel (length vs) (omega arith)

  polygons_counted : polygon_count written ≡ length ps
  unfolding polygon_count written
  polygons_counted = ap (λ (n : ℕ). n / nvp) polygons_long ∙ mul-div_cancel (length ps) (omega (arith, x.nvp_low))

  -- a block of words
  vertex_view : (i : ℕ) → i < length vs → view (packed vertex_words vs) (i * vertex_stride) vertex_stride ≡ vertex_words (get_or vs i no_vertex)
  vertex_view i k = packed_view vertex_words vertex_stride AnyVertex no_vertex vertex_sized vs i any_vertex k

  polygon_view : (i : ℕ) → i < length ps → view (packed (corner_words nvp) ps) (i * nvp) nvp ≡ padded nvp (polygon_at ps i).corners
  unfolding corner_words
  polygon_view i k = packed_view (corner_words nvp) nvp Short no_polygon polygon_sized ps i short k

  links_view : (i : ℕ) → i < length ps → view (packed (padded nvp) ls) (i * nvp) nvp ≡ padded nvp (get_or ls i [])
  links_view i k = packed_view (padded nvp) nvp ShortLinks [] links_sized ls i short_links (rw x.shaped.polygons k)

  -- the three parts as they are read
  corners_below : (i : ℕ) → i < length ps → All (Below none) (polygon_at ps i).corners
  corners_below i k = all_imp (λ c (q : c < length vs). omega (arith, x.few_vertices)) (all_at x.good i no_polygon k).inside

  polygon_read : (i : ℕ) → i < length ps → stored_polygon nvp (buffers_of written) i ≡ bare (polygon_at ps i)
  unfolding stored_polygon written bare
  polygon_read i k = rw (polygon_view i k, up_to_padded nvp (corners_below i k)) refl

  links_read : (i : ℕ) → i < length ps → stored_links nvp (buffers_of written) i ≡ get_or ls i []
  unfolding stored_links written bare
  links_read i k =
      let n = length (polygon_at ps i).corners in
      rw (polygon_read i k)
      (sym (take-take n nvp (drop (i * nvp) (packed (padded nvp) ls)) (all_at x.good i no_polygon k).short)
      ∙ ap (take n) (links_view i k) ∙ take_padded nvp n (get_or ls i []) (x.shaped.sides i))

  pub polygons_are : (mesh_in written).polygons ≡ map bare ps
  unfolding mesh_in decoded written bare
  polygons_are = ap (tab (stored_polygon nvp (buffers_of written))) (polygons_counted ∙ sym (length-map ps bare))
      ∙ tab_list (stored_polygon nvp (buffers_of written)) (map bare ps) no_polygon
      (λ i k. polygon_read i (rw (length-map ps bare) at k) ∙ sym (get_or-map bare ps i no_polygon))

  links_are : (mesh_in written).links ≡ ls
  unfolding mesh_in decoded written
  links_are = ap (tab (stored_links nvp (buffers_of written))) (polygons_counted ∙ sym x.shaped.polygons)
      ∙ tab_list (stored_links nvp (buffers_of written)) ls [] (λ i k. links_read i (rw x.shaped.polygons at k))

  pub vertices_are : (mesh_in written).vertices ≡ vs
  unfolding mesh_in decoded written vertex_of vertex_words
  vertices_are = ap (tab (λ i. vertex_of (view (packed vertex_words vs) (i * vertex_stride) vertex_stride))) vertices_counted
      ∙ tab_list (λ i. vertex_of (view (packed vertex_words vs) (i * vertex_stride) vertex_stride)) vs no_vertex (λ i k. ap vertex_of (vertex_view i k))

  corners_are : (i : ℕ) → corners_at (mesh_in written) i ≡ (polygon_at ps i).corners
  corners_are i = ap (λ (qs : List Polygon). (polygon_at qs i).corners) polygons_are ∙ bare_corners ps i

  -- the single words
  corner_word_lem : (i k : ℕ) → i < length ps → k < nvp → corner_word written i k ≡ get_or (padded nvp (polygon_at ps i).corners) k 0
  unfolding corner_word written
  corner_word_lem i k a b = sym (get_or_view (packed (corner_words nvp) ps) (i * nvp) nvp k 0 b) ∙ ap (λ (l : List ℕ). get_or l k 0) (polygon_view i a)

  link_word_lem : (i k : ℕ) → i < length ps → k < nvp → link_word written i k ≡ get_or (padded nvp (get_or ls i [])) k 0
  unfolding link_word written
  link_word_lem i k a b = sym (get_or_view (packed (padded nvp) ls) (i * nvp) nvp k 0 b) ∙ ap (λ (l : List ℕ). get_or l k 0) (links_view i a)

  area_is : stored_area (mesh_in written) ≡ sum_of (polygon_area vs) ps
  unfolding stored_area polygon_area points_of bare
  area_is = rw (polygons_are, vertices_are) (sum_map (polygon_area vs) bare ps)

  -- ---- the sentences, one by one

  buffers_meet : GoodBuffers written
  unfolding written
  buffers_meet = record {
    vertices = vertices_long ∙ ap (λ (n : ℕ). n * vertex_stride) (sym vertices_counted);
    polygons = polygons_long ∙ ap (λ (n : ℕ). n * nvp) (sym polygons_counted);
    links = links_long ∙ sym polygons_long;
    few_vertices = rw vertices_counted x.few_vertices;
    few_polygons = rw polygons_counted x.few_polygons;
    nvp_low = x.nvp_low;
    nvp_high = x.nvp_high;
    grid = λ k a. rw vertices_are (all_at x.grid k no_vertex (rw vertices_counted at a));
  }

  corners_meet : (i : ℕ) → i < length ps → GoodCorners written i
  unfolding written
  corners_meet i a =
      let g = all_at x.good i no_polygon a in
      let cs = (polygon_at ps i).corners in
      record {
        long = rw (corners_are i) g.long;
        inside = λ k b.
            let c : k < length (polygon_at ps i).corners = rw (corners_are i) at b in
            rw (corner_word_lem i k a (omega (arith, g.short)), padded_in nvp cs k c, vertices_counted) (all_at g.inside k 0 c);
        after = λ k b c. corner_word_lem i k a c ∙ padded_after nvp cs k (rw (corners_are i) at b) c;
      }

  links_meet : (i : ℕ) → i < length ps → GoodLinks written i
  unfolding written
  links_meet i a = record {
    named = λ j b l.
        let c : j < length (polygon_at ps i).corners = rw (corners_are i) at b in
        rw links_are (same_corners ps (mesh_in written).polygons ls i j (ap length polygons_are ∙ length-map ps bare) corners_are
        (x.named i j a c (rw links_are at l)));
    most = λ j b. rw links_are (x.most i j);
    after = λ k b c. link_word_lem i k a c ∙ padded_after nvp (get_or ls i []) k (rw (x.shaped.sides i) (rw (corners_are i) at b)) c;
  }

  portals_meet : (i : ℕ) → i < length ps → GoodPortals claimed i
  unfolding claimed
  portals_meet i a j b l =
      let c : j < length (polygon_at ps i).corners = rw (corners_are i) at b in
      rw (links_are, vertices_are, corners_are i) (x.opened i j a c (rw links_are at l))

  pub meets_acceptable : Acceptable claimed
  unfolding claimed
  meets_acceptable = record {
    consistent = record {
      buffers = buffers_meet;
      corners = λ i a. corners_meet i (rw polygons_counted at a);
      links = λ i a. links_meet i (rw polygons_counted at a);
    };
    portals = λ i a. portals_meet i (rw polygons_counted at a);
    area = area_is;
  }
