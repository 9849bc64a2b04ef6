-- The words that the code reads are what the lists of vertices, polygons and links hold, and they fit the words that they go to. Assumes nothing.
-- Key: `row_first`: the first words of a longer row are those of the row.
use mathlib.Core.Path.{◌≡◌, refl, sym, ap, ◌∙◌}
use mathlib.Core.List.{List, [], ◌∷◌, ◌++◌, map}
use Prim.Native.Nat.{ℕ, zero, suc, ◌+◌, ◌-◌, ◌*◌, ◌^◌, ◌≤◌, ◌<◌}
use native.Mathlib.Omega.{arith}
use lib.ListN.{length, take, drop, get_or, replicate, length-map}
use lib.Seq.{ext_get_or, take-append-add, take-take}
use Rattle.mem.specs.Slice.{view, get_or_view}
use Rattle.mem.specs.Tab.{tab, length_tab, get_or_tab}
use Rattle.mem.specs.Packed.{Every, every_of, every_at, every_append, every_same, every_imp, packed_at}
use Rattle.rules.specs.Mesh.{Polygon, no_polygon, polygon_at}
use Rattle.rules.specs.Links.{none}
use Rattle.rules.specs.Exits.{padded, corner_words}
use Rattle.laws.specs.Lists.{All}
use Rattle.laws.proofs.Lists.{all_imp, every_of_all, get_or_map_in}
use Rattle.laws.specs.Links.{Shaped}
use Rattle.laws.specs.Widths.{Narrow}
use Rattle.records.specs.Layout.{vertex_size, polygon_size, most_corners, polygon_in, polygons_at, link_size}
use Rattle.records.specs.declared.polygon.Poly.{Poly}
use Rattle.records.specs.Values.{to_poly, corners_of, polygon_of, Loaded}
use Rattle.records.specs.Vertices.{vertex_is}
use Rattle.records.specs.Polygons.{length_padded, length_corners, loaded_of, length_polygons, polygon_at_lem}
use Rattle.links.specs.Ready.{link_records, links_at}
use Rattle.links.specs.Linked.{links_at_shaped}
use Rattle.outputs.specs.Ready.{UpTo, VerticesReady, RowReady, CornersReady, LinksReady, RegionsReady, CodesReady}

-- ---- the numbers of vertex k

pub vertex_narrow : {w : List ℕ} {vo nv : ℕ} {out : List ℕ} → VerticesReady w vo nv out → (k : ℕ) → k < nv
    → Narrow (record { x = get_or w (vo + k * vertex_size) 0; y = get_or w (vo + k * vertex_size + 1) 0; z = get_or w (vo + k * vertex_size + 2) 0 })
vertex_narrow {w} {vo} {nv} r k h =
    let e = vertex_is w vo nv k h in
    record { x = rw e at (r.x k); y = rw e at (r.y k); z = rw e at (r.z k) }

-- ---- the region and the area code of polygon i

module _ (w : List ℕ) (o np i : ℕ) (h : i < np) where
  pub region_is : get_or w (o + i * polygon_size + 1) 0 ≡ (polygon_at (polygons_at w o np) i).region
  unfolding polygon_in
  region_is = sym (ap (λ (p : Polygon). p.region) (polygon_at_lem w o np i h) ∙ get_or_view w (o + i * polygon_size) polygon_size 1 0 (omega arith))

  pub code_is : get_or w (o + i * polygon_size + 2) 0 ≡ (polygon_at (polygons_at w o np) i).code
  unfolding polygon_in
  code_is = sym (ap (λ (p : Polygon). p.code) (polygon_at_lem w o np i h) ∙ get_or_view w (o + i * polygon_size) polygon_size 2 0 (omega arith))

pub region_narrow : {w : List ℕ} {o np : ℕ} {out : List ℕ} → RegionsReady w o np out → (i : ℕ) → i < np → get_or w (o + i * polygon_size + 1) 0 < 2 ^ 16
region_narrow {w} {o} {np} r i h = rw (region_is w o np i h) (r.regions i)

pub code_narrow : {w : List ℕ} {o np : ℕ} {out : List ℕ} → CodesReady w o np out → (i : ℕ) → i < np → get_or w (o + i * polygon_size + 2) 0 < 2 ^ 8
code_narrow {w} {o} {np} r i h = rw (code_is w o np i h) (r.codes i)

-- a word for each polygon
tab_map : {A B : Type 0} (f : A → B) (l : List A) (d : A) → tab (λ k. f (get_or l k d)) (length l) ≡ map f l
tab_map f l d =
    ext_get_or (f d) (tab (λ k. f (get_or l k d)) (length l)) (map f l) (length_tab _ (length l) ∙ sym (length-map l f))
    (λ i a. let h : i < length l = rw length_tab at a in get_or_tab _ (length l) i (f d) h ∙ sym (get_or_map_in f l i d (f d) h))

pub each_polygon : (f : Polygon → ℕ) (w : List ℕ) (o np : ℕ) → tab (λ k. f (polygon_at (polygons_at w o np) k)) np ≡ map f (polygons_at w o np)
each_polygon f w o np = ap (tab (λ k. f (polygon_at (polygons_at w o np) k))) (sym (length_polygons w o np)) ∙ tab_map f (polygons_at w o np) no_polygon

-- ---- a row: the words cs, and 65,535 behind them

take_none : (n m : ℕ) → n ≤ m → take n (replicate m none) ≡ replicate n none
take_none zero m h = refl
take_none (suc n) zero h = absurd (omega arith)
take_none (suc n) (suc m) h = ap (λ (l : List ℕ). none ∷ l) (take_none n m (omega arith))

-- the first n words of a row of m
row_first : (n m : ℕ) (cs : List ℕ) → length cs ≤ n → n ≤ m → take n (padded m cs) ≡ padded n cs
unfolding padded
row_first n m cs h k =
    let e : n ≡ length cs + (n - length cs) = omega arith in
    ap (λ (j : ℕ). take j (cs ++ replicate (m - length cs) none)) e
    ∙ take-append-add cs (replicate (m - length cs) none) (n - length cs)
    ∙ ap (λ (l : List ℕ). cs ++ l) (take_none (n - length cs) (m - length cs) (omega arith))

row_narrow : (n : ℕ) (cs : List ℕ) → ((k : ℕ) → get_or cs k 0 < none) → (k : ℕ) → get_or (padded n cs) k 0 < 2 ^ 16
unfolding padded
row_narrow n cs h k =
    every_at (λ (c : ℕ). c < 2 ^ 16) 0 (padded n cs)
    (every_append _ 0 cs (replicate (n - length cs) none) (every_of _ 0 cs (λ j. omega (arith, h j))) (every_same _ 0 (n - length cs) none (omega arith) (omega arith))) k

pub every_short : {nvp : ℕ} {ps : List Polygon} → All (UpTo nvp) ps → Every (UpTo nvp) no_polygon ps
every_short {nvp} a = every_of_all (UpTo nvp) no_polygon (omega arith) a

-- the corners of a polygon by value
pub corners_row : {out : List ℕ} {to : ℕ} {p : Poly} {n : ℕ} → RowReady out to p n → length p.corners ≡ most_corners
    → take n p.corners ≡ corner_words n (polygon_of p)
unfolding corner_words to_poly polygon_of
corners_row {out} {to} {p} {n} r l =
    ap (λ (q : Poly). take n q.corners) r.tidy
    ∙ row_first n most_corners (corners_of p) (omega (arith, length_corners p l (omega (arith, r.short, r.most)), r.short)) r.most

-- polygon i, and its value p
module _ {w : List ℕ} {o np nvp : ℕ} {out : List ℕ} (r : CornersReady w o np nvp out) (i : ℕ) where
  pub corners_short : length (polygon_at (polygons_at w o np) i).corners ≤ nvp
  corners_short = every_at (UpTo nvp) no_polygon (polygons_at w o np) (every_short r.short) i

  pub row_ready : {p : Poly} {u : List ℕ} {to : ℕ} → Loaded (polygon_at (polygons_at w o np) i) p → to + nvp ≤ length u → RowReady u to p nvp
  unfolding to_poly
  row_ready {p} l f = record {
    room = f;
    short = omega (arith, l.count, corners_short);
    most = r.most;
    tidy = l.is ∙ ap to_poly (sym (loaded_of l));
    narrow = λ k. rw (ap (λ (q : Poly). q.corners) l.is) (row_narrow most_corners (polygon_at (polygons_at w o np) i).corners (r.corners i) k);
  }

-- the links of polygon i
module _ {w : List ℕ} {o np lo nvp : ℕ} {out : List ℕ} (r : LinksReady w o np lo nvp out) where
  ls : List (List ℕ)
  ls = links_at w lo (polygons_at w o np)

  shaped : Shaped (polygons_at w o np) ls
  unfolding ls
  shaped = links_at_shaped w lo (polygons_at w o np) (all_imp (λ p (h : UpTo nvp p). omega (arith, r.most)) r.short) (rw (length_polygons w o np) r.stand)

  pub many_links : length (links_at w lo (polygons_at w o np)) ≡ np
  unfolding ls
  many_links = shaped.polygons ∙ length_polygons w o np

  pub links_short : Every (λ (l : List ℕ). length l ≤ nvp) [] (links_at w lo (polygons_at w o np))
  unfolding ls
  links_short = every_of _ [] ls (λ i. rw (shaped.sides i) (every_at (UpTo nvp) no_polygon (polygons_at w o np) (every_short r.short) i))

  Short : List ℕ → Type 0
  Short l = length l ≤ link_size

  sized : (l : List ℕ) → Short l → length (padded link_size l) ≡ link_size
  unfolding Short
  sized l h = length_padded link_size l h

  short : Every Short [] ls
  unfolding Short ls
  short = every_imp (λ l. length l ≤ nvp) Short [] ls (λ l (h : length l ≤ nvp). omega (arith, r.most)) links_short

  all_words : (i : ℕ) → i < np → view w (lo + i * link_size) link_size ≡ padded link_size (get_or ls i [])
  unfolding ls link_records
  all_words i h =
      ap (λ (u : List ℕ). view u (lo + i * link_size) link_size) r.is
      ∙ packed_at (padded link_size) link_size Short [] sized w lo ls short (rw many_links r.stand) i (rw many_links h)

  pub links_row : (i : ℕ) → i < np → view w (lo + i * link_size) nvp ≡ padded nvp (get_or (links_at w lo (polygons_at w o np)) i [])
  unfolding ls
  links_row i h =
      sym (take-take nvp link_size (drop (lo + i * link_size) w) r.most)
      ∙ ap (take nvp) (all_words i h)
      ∙ row_first nvp link_size (get_or ls i []) (every_at (λ l. length l ≤ nvp) [] ls links_short i) r.most
