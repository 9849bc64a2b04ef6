-- What a build wrote reads back as its mesh: what `rules` states in its file `Exits`. Each polygon's words are a block of nvp, and its corners, none of which
-- is 65,535, end where the first 65,535 stands. Assumes nothing.
-- Key: `reads_back`.
use Rattle.std.specs.Prelude.{ℕ, ◌+◌, ◌-◌, ◌*◌, ◌≤◌, ◌<◌, take, drop, replicate}
use Rattle.std.proofs.Common.{zero-add, mul-le-mul_right, arith, sym, ◌∙◌, length-append, take-take, take_all, take_at}
use Rattle.std.proofs.Math.Nat.{le_trans}
use Rattle.std.proofs.Math.Path.{◌≡◌, refl, ap}
use mathlib.Core.List.{List, [], map}
use Rattle.std.proofs.Math.ListN.{length, get_or, length-map}
use Rattle.std.proofs.lemmas.List.{length-replicate}
use Rattle.mem.specs.Slice.{view, splice, get_or_splice_in}
use Rattle.mem.specs.Tab.{tab, tab_cong, tab_take}
use Rattle.mem.specs.Packed.{Every, every_at, every_of, packed, packed_at}
use Rattle.rules.specs.declared.Vertex.{Vertex}
use Rattle.rules.specs.Weld.{no_vertex}
use Rattle.rules.specs.Mesh.{Polygon, no_polygon, polygon_at, Mesh}
use Rattle.rules.specs.Removal.{Removal}
use Rattle.rules.specs.Links.{none, links_of}
use Rattle.rules.specs.Job.{Job}
use Rattle.rules.specs.Checks.{Lent, vertex_stride, least_lengths, lengths_of}
use Rattle.rules.specs.Build.{built, outcome}
use Rattle.rules.specs.Exits.{vertex_words, padded, corner_words, filled, exit_of, exits, Stored, vertex_of, up_to_none, stored_polygon, stored_links, decoded, ReadsBack}
use Rattle.laws.specs.Lists.{All}
use Rattle.laws.proofs.Lists.{all_at, all_imp, every_of_all, get_or_map_in}
use Rattle.laws.specs.Merge.{Good, Below}
use Rattle.laws.specs.Checks.{Passed}
use Rattle.laws.specs.Build.{Bounded}
use Rattle.laws.proofs.Build.{bounded}
use Rattle.laws.specs.Links.{Shaped}
use Rattle.laws.proofs.Links.{links_shaped, portals_shaped}
use Rattle.laws.proofs.Reached.{built_links, built_passed}
use Rattle.laws.proofs.UpToNone.{up_to_none_lem}

-- ---- lists

-- a list that is what it holds at each place
pub tab_list : {A : Type 0} (f : ℕ → A) (l : List A) (d : A) → ((i : ℕ) → i < length l → f i ≡ get_or l i d) → tab f (length l) ≡ l
tab_list f l d h = tab_cong f (λ k. get_or l k d) (length l) h ∙ tab_take l (length l) d (omega arith) ∙ take_all (length l) l (omega arith)

get_written : (w xs : List ℕ) (i : ℕ) → i < length xs → length xs ≤ length w → get_or (splice w 0 xs) i 0 ≡ get_or xs i 0
get_written w xs i h k = rw (zero-add i) at (get_or_splice_in w 0 i xs 0 h (omega arith))

-- block i of things that are written one after the other
block_written : {B : Type 0} (enc : B → List ℕ) (k : ℕ) (Fit : B → Type 0) (d : B) (sized : (b : B) → Fit b → length (enc b) ≡ k) (w : List ℕ) (bs : List B)
    → Every Fit d bs → length bs * k ≤ length w → (i : ℕ) → i < length bs → view (splice w 0 (packed enc bs)) (i * k) k ≡ enc (get_or bs i d)
block_written enc k Fit d sized w bs all room i h = rw (zero-add (i * k)) at (packed_at enc k Fit d sized w 0 bs all (rw (zero-add (length bs * k)) room) i h)

-- ---- a polygon's words

pub length_padded : (n : ℕ) (cs : List ℕ) → length cs ≤ n → length (padded n cs) ≡ n
unfolding padded
length_padded n cs h = length-append cs (replicate (n - length cs) none) ∙ ap (λ (k : ℕ). length cs + k) (length-replicate (n - length cs) none) ∙ omega arith

pub up_to_padded : (n : ℕ) {cs : List ℕ} → All (Below none) cs → up_to_none (padded n cs) ≡ cs
unfolding padded
up_to_padded n {cs} a = up_to_none_lem (n - length cs) a

pub take_padded : (n m : ℕ) (cs : List ℕ) → length cs ≡ m → take m (padded n cs) ≡ cs
unfolding padded
take_padded n m cs e = take_at cs (replicate (n - length cs) none) m e

-- ---- the three parts of a mesh

module _ (j : Job) (b : Lent) (m : Mesh) (ls : List (List ℕ)) (passed : Passed j (lengths_of b)) (bounded : Bounded j m) (shaped : Shaped m.polygons ls) where
  ps : List Polygon
  ps = m.polygons

  nvp : ℕ
  nvp = j.nvp

  -- room in the buffers
  vertex_room : length m.vertices * vertex_stride ≤ length b.vertices
  unfolding least_lengths lengths_of
  vertex_room = omega (arith, passed.room 0 (omega arith), bounded.vertices)

  polygon_room : length ps * nvp ≤ length b.polygons
  unfolding ps nvp least_lengths lengths_of
  polygon_room = le_trans (mul-le-mul_right j.nvp bounded.polygons) (passed.room 1 (omega arith))

  link_room : length ls * nvp ≤ length b.neighbours
  unfolding ps nvp least_lengths lengths_of
  link_room = rw shaped.polygons (le_trans (mul-le-mul_right j.nvp bounded.polygons) (passed.room 2 (omega arith)))

  region_room : length ps ≤ length b.regions
  unfolding ps least_lengths lengths_of
  region_room = le_trans bounded.polygons (passed.room 3 (omega arith))

  code_room : length ps ≤ length b.codes
  unfolding ps least_lengths lengths_of
  code_room = le_trans bounded.polygons (passed.room 4 (omega arith))

  -- every polygon has at most nvp corners, and every corner is below 65,535
  short : Every (λ (p : Polygon). length p.corners ≤ nvp) no_polygon ps
  unfolding ps nvp
  short = every_of_all (λ (p : Polygon). length p.corners ≤ j.nvp) no_polygon (omega arith)
      (all_imp (λ p (g : Good (Below (length m.vertices)) j.nvp p). g.short) bounded.sound.good)

  corners_below : (i : ℕ) → i < length ps → All (Below none) (polygon_at ps i).corners
  unfolding ps
  corners_below i h = all_imp (λ c (k : c < length m.vertices). omega (arith, bounded.vertices, passed.few)) (all_at bounded.sound.good i no_polygon h).inside

  exit : Lent
  exit = filled j b m ls

  corners_back : (i : ℕ) → i < length ps → up_to_none (view exit.polygons (i * nvp) nvp) ≡ (polygon_at ps i).corners
  unfolding exit filled corner_words ps nvp
  corners_back i h =
      ap up_to_none (block_written (corner_words nvp) nvp (λ (p : Polygon). length p.corners ≤ nvp) no_polygon (λ p k. length_padded nvp p.corners k)
      b.polygons ps short polygon_room i h)
      ∙ up_to_padded nvp (corners_below i h)

  polygon_back : (i : ℕ) → i < length ps → stored_polygon nvp exit i ≡ polygon_at ps i
  unfolding exit filled stored_polygon ps nvp
  polygon_back i h =
      let r = length-map ps (λ (p : Polygon). p.region) in
      let c = length-map ps (λ (p : Polygon). p.code) in
      let e : get_or exit.regions i 0 ≡ (polygon_at ps i).region =
      get_written b.regions (map (λ (p : Polygon). p.region) ps) i (omega arith) (omega (arith, region_room)) ∙ get_or_map_in (λ (p : Polygon). p.region) ps i no_polygon 0 h in
      let f : get_or exit.codes i 0 ≡ (polygon_at ps i).code =
      get_written b.codes (map (λ (p : Polygon). p.code) ps) i (omega arith) (omega (arith, code_room)) ∙ get_or_map_in (λ (p : Polygon). p.code) ps i no_polygon 0 h in
      rw (corners_back i h, e, f) refl

  links_back : (i : ℕ) → i < length ls → stored_links nvp exit i ≡ get_or ls i []
  unfolding stored_links exit filled ps nvp
  links_back i h =
      let k : i < length ps = rw shaped.polygons at h in
      let n = length (polygon_at ps i).corners in
      let few : (l : ℕ) → length (get_or ls l []) ≤ nvp = λ l. rw (shaped.sides l) (every_at (λ (p : Polygon). length p.corners ≤ nvp) no_polygon ps short l) in
      rw (polygon_back i k)
      (sym (take-take n nvp (drop (i * nvp) exit.neighbours) (every_at (λ (p : Polygon). length p.corners ≤ nvp) no_polygon ps short i))
      ∙ ap (take n) (block_written (padded nvp) nvp (λ (l : List ℕ). length l ≤ nvp) [] (λ l q. length_padded nvp l q) b.neighbours ls
      (every_of (λ (l : List ℕ). length l ≤ nvp) [] ls few) link_room i h)
      ∙ take_padded nvp n (get_or ls i []) (shaped.sides i))

  vertex_back : (i : ℕ) → i < length m.vertices → vertex_of (view exit.vertices (i * vertex_stride) vertex_stride) ≡ get_or m.vertices i no_vertex
  unfolding exit filled vertex_of vertex_words
  vertex_back i h = ap vertex_of (block_written vertex_words vertex_stride (λ (v : Vertex). Unit) no_vertex (λ v u. refl) b.vertices m.vertices
      (every_of (λ (v : Vertex). Unit) no_vertex m.vertices (λ i. tt)) vertex_room i h)

  pub stored_back : decoded j.nvp (length m.polygons) (length m.vertices) (filled j b m ls) ≡ record { vertices = m.vertices; polygons = m.polygons; links = ls }
  unfolding decoded ps nvp exit
  stored_back = same
      (tab_list (λ i. vertex_of (view exit.vertices (i * vertex_stride) vertex_stride)) m.vertices no_vertex vertex_back)
      (tab_list (stored_polygon nvp exit) ps no_polygon polygon_back)
      (ap (tab (stored_links nvp exit)) (sym shaped.polygons) ∙ tab_list (stored_links nvp exit) ls [] links_back)
    where
      same : {vs us : List Vertex} {qs rs : List Polygon} {ks hs : List (List ℕ)} → vs ≡ us → qs ≡ rs → ks ≡ hs
          → ◌≡◌ {A = Stored} (record { vertices = vs; polygons = qs; links = ks }) (record { vertices = us; polygons = rs; links = hs })
      same a b c = rw (a, b, c) refl

-- ---- the whole

pub exits_built : (j : Job) (b : Lent) (m : Mesh) (ls : List (List ℕ)) (log : List Removal) → outcome j b ≡ built m ls log → exits j b ≡ filled j b m ls
unfolding exits exit_of
exits_built j b m ls log e = ap (exit_of j b) e

pub reads_back : ReadsBack
reads_back j b m ls log e =
    let s = portals_shaped m.vertices j.w j.h j.border m.polygons (links_of m.polygons) (links_shaped m.polygons) in
    let t : Shaped m.polygons ls = rw (built_links j m ls log b e) s in
    rw (exits_built j b m ls log e) (stored_back j b m ls (built_passed j m ls log b e) (bounded j b m ls log e) t)
