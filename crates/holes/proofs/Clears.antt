-- A vertex and the polygons that hold it go: polygons are looked at from 0 up, one that holds the vertex is taken out, and what is left of R5's taking out
-- stays the same; then numbers drop by one, polygon by polygon; and the vertices behind it move down. Assumes nothing.
use mathlib.Core.Path.{◌≡◌, refl, sym, ap, ◌∙◌}
use mathlib.Core.Bool.{Bool, true, false}
use mathlib.Core.List.{List, [], ◌∷◌, ◌++◌, map, append_assoc}
use Prim.Native.Nat.{ℕ, ◌+◌, ◌-◌, ◌*◌, ◌≤◌, ◌<◌}
use native.Mathlib.Omega.{arith}
use lib.Dec.{ltb}
use lib.ListN.{length, take, drop, length-drop, length-append, length-replicate, get_or, set, replicate, length-map}
use lib.Seq.{ext_get_or, take_all, take-take, drop-drop, length-take-le}
use Rattle.mem.specs.Slice.{view, splice, view_after, view_view, splice_view, splice_append, splice_whole, splice_behind}
use Rattle.mem.specs.Tab.{tab, length_tab, get_or_tab, Filled, filled_more, filled_all, filled_above}
use Rattle.mem.specs.Packed.{Every, every_at, every_map, every_take, packed, packed_at, splice_first, Laid, laid_more, laid_all}
use Rattle.rules.specs.Lists.{swap_remove, without}
use Rattle.rules.specs.Links.{none}
use Rattle.rules.specs.Exits.{padded}
use Rattle.rules.specs.Mesh.{Polygon, no_polygon, polygon_at}
use Rattle.rules.specs.Removal.{holds, untouched, TakingOut, take_one, taken_out, dropped, dropped_in, polygons_left}
use Rattle.rules.specs.Fuel.{taking}
use Rattle.rules.specs.declared.Side.{Side}
use Rattle.laws.proofs.Lists.{get_or_map_in, swap_length, every_swap}
use Rattle.laws.proofs.Fuel.{taking_turns, taken_out_lem}
use Rattle.records.specs.Layout.{vertex_size, vertices_at, marks_at, vertex_records, polygon_size, most_corners, spare_words, polygon_in, polygons_at, polygon_words, polygon_records, Small, Tidy}
use Rattle.records.specs.Corners.{from_is, from_fits, stands_at, corners_at_lem}
use Rattle.records.specs.Values.{corners_from, Stands, CornerOf, SwapReady}
use Rattle.records.specs.Polygons.{polygon_at_lem, length_polygons, length_records, length_words}
use Rattle.records.specs.Blanks.{Blanked, blanked_none, blanked_are, blanked_tidy, blanked_fits, blanked_same, blanked_less}
use Rattle.records.specs.Vertices.{length_vertices, length_marks, length_vertex_records, records_without}
use Rattle.holes.specs.Verdict.{Standing}
use Rattle.holes.specs.Clear.{TidyVertices, ClearReady, TakenTo, ClearedTo}

-- ---- the polygons that hold the vertex are taken out: m of the np at o are left, ps, and those before i don't hold it

pub record Taking (w₀ : List ℕ) (o np rem : ℕ) (w : List ℕ) (m i : ℕ) : Type 0 where
  pub ps : List Polygon
  pub ss : List Side
  pub left : Blanked w₀ o np w ps m
  pub within : i ≤ m
  pub size : length w ≡ length w₀
  pub same : (taken_out rem (polygons_at w₀ o np)).polygons ≡ (taking rem (record { polygons = ps; sides = ss; at = i })).polygons

-- one polygon looked at: it is taken out, or passed
took : (rem : ℕ) (s : TakingOut) → ltb 0 (holds rem (polygon_at s.polygons s.at)) ≡ true
    → take_one rem s ≡ record { polygons = swap_remove no_polygon s.polygons s.at; sides = s.sides ++ untouched rem (polygon_at s.polygons s.at); at = s.at }
unfolding take_one
took rem s e = rw (e, take_one)

passed : (rem : ℕ) (s : TakingOut) → ltb 0 (holds rem (polygon_at s.polygons s.at)) ≡ false
    → take_one rem s ≡ record { polygons = s.polygons; sides = s.sides; at = s.at + 1 }
unfolding take_one
passed rem s e = rw (e, take_one)

module _ {w₀ : List ℕ} {o np : ℕ} (r : Standing w₀ o np) (rem : ℕ) where
  fits : o + np * polygon_size ≤ length w₀
  fits = r.fits

  pub taking_begin : Tidy w₀ o np → Taking w₀ o np rem w₀ np 0
  taking_begin t = record {
    ps = polygons_at w₀ o np;
    ss = [];
    left = blanked_none w₀ o np fits t r.small;
    within = omega arith;
    size = refl;
    same = ap (λ (x : TakingOut). x.polygons) (taken_out_lem rem (polygons_at w₀ o np));
  }

  module _ {w : List ℕ} {m i : ℕ} (g : Taking w₀ o np rem w m i) where
    now : TakingOut
    now = record { polygons = g.ps; sides = g.ss; at = i }

    are : polygons_at w o m ≡ g.ps
    are = blanked_are w₀ o np fits g.left

    pub taking_fits : o + m * polygon_size ≤ length w
    taking_fits = blanked_fits w₀ o np fits g.left

    pub taking_small : Small (polygon_at (polygons_at w o m) i)
    taking_small = rw are (every_at Small no_polygon g.ps g.left.small i)

    pub taking_ready : i < m → SwapReady w o m i
    taking_ready h = record {
      fits = taking_fits;
      tidy = blanked_tidy w₀ o np fits g.left;
      all = rw are g.left.small;
      below = h;
    }

    module _ (h : i < m) where
      turn : (taken_out rem (polygons_at w₀ o np)).polygons ≡ (taking rem (take_one rem now)).polygons
      unfolding now
      turn = g.same ∙ ap (λ (x : TakingOut). x.polygons) ((taking_turns rem now).look (rw g.left.long h))

      module _ {t : Bool} (e : t ≡ ltb 0 (holds rem (polygon_at (polygons_at w o m) i))) where
        test : ltb 0 (holds rem (polygon_at g.ps i)) ≡ t
        test = rw (← are) (sym e)

        pub taking_pass : t ≡ false → Taking w₀ o np rem w m (i + 1)
        unfolding now
        taking_pass f = record {
          ps = g.ps;
          ss = g.ss;
          left = g.left;
          within = omega arith;
          size = g.size;
          same = turn ∙ ap (λ (x : TakingOut). (taking rem x).polygons) (passed rem now (test ∙ f));
        }

        pub taking_out : {v : List ℕ} → t ≡ true → length v ≡ length w
            → v ≡ splice w o (polygon_records (swap_remove no_polygon (polygons_at w o m) i ++ (no_polygon ∷ []))) → Taking w₀ o np rem v (m - 1) i
        unfolding now
        taking_out {v} f n q = record {
          ps = swap_remove no_polygon g.ps i;
          ss = g.ss ++ untouched rem (polygon_at g.ps i);
          left = blanked_less w₀ o np fits g.left (swap_remove no_polygon g.ps i) (omega arith) (every_swap Small no_polygon g.ps i g.left.small)
              (swap_length no_polygon g.ps i ∙ ap (λ (k : ℕ). k - 1) g.left.long) (rw are at q);
          within = omega arith;
          size = n ∙ g.size;
          same = turn ∙ ap (λ (x : TakingOut). (taking rem x).polygons) (took rem now (test ∙ f));
        }

    -- all are looked at: what is left is R5's
    pub taking_end : m ≤ i → Blanked w₀ o np w (taken_out rem (polygons_at w₀ o np)).polygons m
    unfolding now
    taking_end h =
        let e : (taken_out rem (polygons_at w₀ o np)).polygons ≡ g.ps =
        g.same ∙ ap (λ (x : TakingOut). x.polygons) ((taking_turns rem now).end (rw g.left.long h)) in
        rw e g.left

-- ---- numbers drop by one

map_tab : (f : ℕ → ℕ) (l : List ℕ) → tab (λ k. f (get_or l k 0)) (length l) ≡ map f l
map_tab f l = ext_get_or 0 (tab (λ k. f (get_or l k 0)) (length l)) (map f l) (length_tab _ (length l) ∙ sym (length-map l f))
    (λ k a. let h : k < length l = rw length_tab at a in get_or_tab _ (length l) k 0 h ∙ sym (get_or_map_in f l k 0 0 h))

-- in one polygon, corner after corner
module _ {w : List ℕ} {at : ℕ} (rem : ℕ) (s : Stands w at) where
  abbrev pub CornersDropping : ℕ → List ℕ → ℕ → Type 0
  CornersDropping n u j = Filled w (at + 3) (λ k. dropped rem (get_or (corners_from w at) k 0)) n u j

  module _ {n : ℕ} {u : List ℕ} {j : ℕ} (e : n ≡ length (corners_from w at)) (f : CornersDropping n u j) where
    of_polygon : j < n → CornerOf w at j
    of_polygon h = record { stands = s; below = rw (← e) h }

    pub corner_fits : j < n → at + 3 + j < length u
    corner_fits h = omega (arith, from_fits (of_polygon h), f.long)

    pub corner_more : {x : ℕ} → j < n → x ≡ dropped rem (get_or u (at + 3 + j) 0) → CornersDropping n (set u (at + 3 + j) x) (j + 1)
    corner_more {x} h q = filled_more f _ x refl (q ∙ ap (dropped rem) (filled_above f (at + 3 + j) 0 (omega arith) ∙ from_is (of_polygon h))) h

    pub corners_all : n ≤ j → u ≡ splice w (at + 3) (map (dropped rem) (corners_from w at))
    corners_all h = filled_all f h ∙ ap (splice w (at + 3)) (ap (tab (λ k. dropped rem (get_or (corners_from w at) k 0))) e ∙ map_tab (dropped rem) (corners_from w at))

-- the record is that of the polygon with those numbers, where it was that of the polygon
record_dropped : (w : List ℕ) (at rem : ℕ) (p : Polygon) → view w at polygon_size ≡ polygon_words p
    → splice w (at + 3) (map (dropped rem) p.corners) ≡ splice w at (polygon_words (dropped_in rem p))
unfolding polygon_words dropped_in padded
record_dropped w at rem p e =
    let cs = p.corners in
    let ds = map (dropped rem) cs in
    let l : length ds ≡ length cs = length-map cs (dropped rem) in
    let hd : List ℕ = length cs ∷ p.region ∷ p.code ∷ [] in
    let tl : List ℕ = replicate (most_corners - length cs) none ++ replicate spare_words 0 in
    let w₁ : List ℕ = splice w at hd in
    let is : w ≡ splice w₁ (at + 3) (cs ++ tl) =
    sym (splice_view w at polygon_size) ∙ ap (splice w at) (e ∙ ap (λ (r : List ℕ). hd ++ r) (append_assoc cs (replicate (most_corners - length cs) none) (replicate spare_words 0)))
    ∙ sym (splice_append w at hd (cs ++ tl)) in
    ap (λ (x : List ℕ). splice x (at + 3) ds) is ∙ splice_first w₁ (at + 3) cs tl ds l ∙ splice_append w at hd (ds ++ tl)
    ∙ rw l (ap (λ (r : List ℕ). splice w at (hd ++ r)) (sym (append_assoc ds (replicate (most_corners - length cs) none) (replicate spare_words 0))))

-- in the n polygons at o, one after the other
abbrev pub Dropping : (v : List ℕ) (o n rem : ℕ) → List ℕ → ℕ → Type 0
Dropping v o n rem w k = Laid polygon_words v o (map (dropped_in rem) (polygons_at v o n)) w k

dropped_small : (rem : ℕ) (ps : List Polygon) → Every Small no_polygon ps → Every Small no_polygon (map (dropped_in rem) ps)
unfolding dropped_in
dropped_small rem ps h = every_map Small no_polygon Small no_polygon (dropped_in rem) ps (omega arith) (λ p s. rw (length-map p.corners (dropped rem)) s) h

module _ {v : List ℕ} {o n : ℕ} (r : ClearReady v o n) (rem : ℕ) where
  many : length (map (dropped_in rem) (polygons_at v o n)) ≡ n
  many = length-map (polygons_at v o n) (dropped_in rem) ∙ length_polygons v o n

  module _ {w : List ℕ} {k : ℕ} (s : Dropping v o n rem w k) where
    wrote : length (packed polygon_words (take k (map (dropped_in rem) (polygons_at v o n)))) ≡ k * polygon_size
    unfolding polygon_records
    wrote =
        let l = map (dropped_in rem) (polygons_at v o n) in
        length_records (take k l) (every_take Small no_polygon l k (dropped_small rem (polygons_at v o n) r.standing.small)) ∙ ap (λ (j : ℕ). j * polygon_size) (length-take-le k l s.within)

    -- record k is as it was
    untouched_yet : k < n → view w (o + k * polygon_size) polygon_size ≡ view v (o + k * polygon_size) polygon_size
    untouched_yet h =
        ap (λ (x : List ℕ). view x (o + k * polygon_size) polygon_size) s.put ∙ view_after v o (o + k * polygon_size) polygon_size _ (omega (arith, wrote))

    still : k < n → polygon_at (polygons_at w o n) k ≡ polygon_at (polygons_at v o n) k
    still h = polygon_at_lem w o n k h ∙ ap polygon_in (untouched_yet h) ∙ sym (polygon_at_lem v o n k h)

    its_words : k < n → view w (o + k * polygon_size) polygon_size ≡ polygon_words (polygon_at (polygons_at v o n) k)
    unfolding polygon_records
    its_words h =
        untouched_yet h
        ∙ ap (λ (x : List ℕ). view x (o + k * polygon_size) polygon_size) r.tidy.is
        ∙ packed_at polygon_words polygon_size Small no_polygon length_words v o (polygons_at v o n) r.standing.small (rw (length_polygons v o n) r.standing.fits) k (rw (length_polygons v o n) h)

    pub dropping_stands : k < n → Stands w (o + k * polygon_size)
    dropping_stands h =
        stands_at w o n k (omega (arith, s.long, r.standing.fits)) h (rw (still h) (every_at Small no_polygon (polygons_at v o n) r.standing.small k))

    pub dropping_more : {u : List ℕ} → k < n → u ≡ splice w (o + k * polygon_size + 3) (map (dropped rem) (corners_from w (o + k * polygon_size))) → Dropping v o n rem u (k + 1)
    dropping_more {u} h e =
        let p = polygon_at (polygons_at v o n) k in
        let cs : corners_from w (o + k * polygon_size) ≡ p.corners =
        corners_at_lem w o n k (omega (arith, s.long, r.standing.fits)) h ∙ ap (λ (x : Polygon). x.corners) (still h) in
        let g : dropped_in rem p ≡ get_or (map (dropped_in rem) (polygons_at v o n)) k no_polygon =
        sym (get_or_map_in (dropped_in rem) (polygons_at v o n) k no_polygon no_polygon (rw (length_polygons v o n) h)) in
        laid_more polygon_words v o _ s polygon_size Small no_polygon length_words (dropped_small rem (polygons_at v o n) r.standing.small) (rw many h)
        ((rw cs at e) ∙ record_dropped w (o + k * polygon_size) rem p (its_words h) ∙ ap (λ (x : Polygon). splice w (o + k * polygon_size) (polygon_words x)) g)

    pub dropping_all : n ≤ k → w ≡ splice v o (polygon_records (map (dropped_in rem) (polygons_at v o n)))
    unfolding polygon_records
    dropping_all h = laid_all polygon_words v o _ s (omega (arith, many))

-- ---- a vertex's record goes

-- the words behind the first move down, and zeros come in at the end
pub first_dropped : (p : List ℕ) {x y : List ℕ} {n : ℕ} → n ≡ length p - vertex_size → vertex_size ≤ length p → x ≡ splice p 0 (view p vertex_size n)
    → y ≡ splice x n (replicate vertex_size 0) → y ≡ drop vertex_size p ++ replicate vertex_size 0
first_dropped p {x} {y} {n} e h a b =
    let d : view p vertex_size n ≡ drop vertex_size p = take_all n (drop vertex_size p) (rw length-drop (omega arith)) in
    let l : length (drop vertex_size p) ≡ n = length-drop vertex_size p ∙ sym e in
    let j : n ≡ 0 + length (drop vertex_size p) = omega arith in
    b ∙ rw (a, d) (ap (λ (k : ℕ). splice (splice p 0 (drop vertex_size p)) k (replicate vertex_size 0)) j
    ∙ splice_append p 0 (drop vertex_size p) (replicate vertex_size 0)
    ∙ splice_whole p (drop vertex_size p ++ replicate vertex_size 0) (simp (length-append, length-replicate) (omega arith)))

pub record_gone : {v : List ℕ} {vo nv : ℕ} (i : ℕ) {w : List ℕ} → TidyVertices v vo nv → i < nv
    → w ≡ splice v (vo + i * vertex_size) (drop vertex_size (view v (vo + i * vertex_size) ((nv - i) * vertex_size)) ++ replicate vertex_size 0)
    → w ≡ splice v vo (vertex_records (without (vertices_at v vo nv) i) (without (marks_at v vo nv) i) ++ replicate vertex_size 0)
record_gone {v} {vo} {nv} i {w} t h e =
    let vs = vertices_at v vo nv in
    let ms = marks_at v vo nv in
    let R = vertex_records vs ms in
    let Z : List ℕ = replicate vertex_size 0 in
    let lr : length R ≡ nv * vertex_size = length_vertex_records vs ms ∙ ap (λ (k : ℕ). k * vertex_size) (length_vertices v vo nv) in
    let front : view v vo (i * vertex_size) ≡ take (i * vertex_size) R =
    sym (take-take (i * vertex_size) (nv * vertex_size) (drop vo v) (omega arith)) ∙ ap (take (i * vertex_size)) t.is in
    let part : view v (vo + i * vertex_size) ((nv - i) * vertex_size) ≡ drop (i * vertex_size) R =
    sym (view_view v vo (nv * vertex_size) (i * vertex_size) ((nv - i) * vertex_size) (omega arith))
    ∙ ap (λ (l : List ℕ). view l (i * vertex_size) ((nv - i) * vertex_size)) t.is
    ∙ take_all ((nv - i) * vertex_size) (drop (i * vertex_size) R) (rw length-drop (omega arith)) in
    let k : i * vertex_size + vertex_size ≡ (i + 1) * vertex_size = omega arith in
    let back : drop vertex_size (view v (vo + i * vertex_size) ((nv - i) * vertex_size)) ≡ drop ((i + 1) * vertex_size) R =
    ap (drop vertex_size) part ∙ drop-drop vertex_size (i * vertex_size) R ∙ ap (λ (j : ℕ). drop j R) k in
    e ∙ ap (λ (l : List ℕ). splice v (vo + i * vertex_size) (l ++ Z)) back
    ∙ splice_behind v vo (i * vertex_size) (drop ((i + 1) * vertex_size) R ++ Z) (omega (arith, t.fits))
    ∙ ap (splice v vo) (ap (λ (l : List ℕ). l ++ (drop ((i + 1) * vertex_size) R ++ Z)) front ∙ sym (append_assoc (take (i * vertex_size) R) (drop ((i + 1) * vertex_size) R) Z)
    ∙ ap (λ (l : List ℕ). l ++ Z) (records_without vs ms i (length_marks v vo nv ∙ sym (length_vertices v vo nv)) (rw (length_vertices v vo nv) h)))

-- ---- both
module _ {v w : List ℕ} {o np rem m : ℕ} (r : ClearReady v o np) (t : TakenTo v w o np rem m) where
  pub left_ready : ClearReady w o m
  left_ready = record {
    standing = record {
      fits = blanked_fits v o np r.standing.fits t.left;
      small = rw (blanked_are v o np r.standing.fits t.left) t.left.small;
    };
    tidy = blanked_tidy v o np r.standing.fits t.left;
  }

  pub cleared : {u : List ℕ} → u ≡ splice w o (polygon_records (map (dropped_in rem) (polygons_at w o m))) → ClearedTo v u o np rem m
  unfolding polygons_left
  cleared e = record {
    left = blanked_same v o np r.standing.fits t.left (map (dropped_in rem) (taken_out rem (polygons_at v o np)).polygons)
        (dropped_small rem (taken_out rem (polygons_at v o np)).polygons t.left.small)
        (length-map (taken_out rem (polygons_at v o np)).polygons (dropped_in rem) ∙ t.left.long)
        (rw (blanked_are v o np r.standing.fits t.left) at e);
  }
