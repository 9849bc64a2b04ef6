-- R4: a join cancels a side and its opposite, so merging keeps the area and the corners over two; the pair that is joined is in range. Assumes nothing.
-- Key: `merged`: the polygons at the end have the area and the corners beyond two of those at the start, and are stored polygons; `best_in`: the pair is in range.
use Rattle.std.specs.Prelude.{ℕ, zero, suc, ◌+◌, ◌-◌, ◌≤◌, ◌<◌, ◌≡◌, Bool, cond, ◌&&◌, eqb, ltb, get_or, set, ℤ, ◌+ℤ◌, Option, Some, None}
use Rattle.std.proofs.Common.{arith, ◌∙◌, ap₂, length-append, length-set, get_or-set_other}
use Rattle.std.proofs.Math.Path.{refl}
use Rattle.std.proofs.Math.Bool.{true, false}
use mathlib.Core.List.{List, [], ◌∷◌, Permᴰ}
use borrow.Author.Tests.{eqb-true, leb-true, ltb-true}
use Rattle.std.proofs.Math.ListN.{length}
use Rattle.ints.specs.Ring.{at, ◌⊕◌}
use Rattle.ints.specs.Order.{ints, told}
use Rattle.ints.specs.Bools.{and_left, and_right, cond_ind}
use Rattle.mem.specs.Loops.{each_ind}
use Rattle.rules.specs.declared.Vertex.{Vertex}
use Rattle.rules.specs.declared.Pair.{Pair}
use Rattle.rules.specs.Plane.{squared}
use Rattle.rules.specs.Mesh.{Polygon, no_polygon, polygon_at, side_start, side_end, place_of}
use Rattle.rules.specs.Merge.{is_opposite, shared_side, turns_left, may_join, fits, no_pair, pair_at, merge_value, greater, best_of_row, best_pair, past_side, joined, join_pair, merge_loop, merge_all}
use Rattle.rules.specs.Areas.{sum_of, points_of, polygon_area}
use Rattle.rules.specs.Outlines.{turned}
use Rattle.laws.specs.Measures.{spare_of, spares_in}
use Rattle.laws.specs.Lists.{All, none, more}
use Rattle.laws.proofs.Lists.{all_imp, all_append, all_at, all_perm, all_take, all_drop, all_tail, all_left}
use Rattle.laws.specs.Lists.{total}
use Rattle.laws.proofs.Lists.{set_perm, swap_perm, sum_perm, total_perm}
use Rattle.laws.proofs.Joins.{past_ring, length_past, area_joined}
use Rattle.laws.specs.Shared.{SidesIn}
use Rattle.laws.proofs.Shared.{shared_in}
use Rattle.laws.specs.Merge.{Joinable, Good, Long, Merged, Corners}

-- ---- the pair that is joined
-- a pair of length 0 is none
JoinableIf : ℕ → List Polygon → Pair → Type 0
JoinableIf nvp ps m = 0 < m.length → Joinable nvp ps m

no_pair_lem : (nvp : ℕ) (ps : List Polygon) → JoinableIf nvp ps no_pair
unfolding JoinableIf
no_pair_lem nvp ps = λ h. absurd (omega arith)

module _ (vs : List Vertex) (nvp : ℕ) (ps : List Polygon) (p q : ℕ) (h : p < q) (k : q < length ps) where
  a : List ℕ
  a = (polygon_at ps p).corners

  b : List ℕ
  b = (polygon_at ps q).corners

  pair_in : (s : Option (ℕ × ℕ)) → fits nvp a b ≡ true → SidesIn (length a) (length b) s → JoinableIf nvp ps (pair_at vs ps p q s)
  unfolding a b SidesIn pair_at JoinableIf may_join is_opposite fits
  pair_in None f w = λ z. absurd (omega arith)
  pair_in (Some (i, j)) f w = go (may_join vs a b i j) refl
    where
      go : (t : Bool) → may_join vs a b i j ≡ t
          → JoinableIf nvp ps (cond t (record { length = squared (place_of vs (side_start a i)) (place_of vs (side_end a i)); a = p; b = q; ea = i; eb = j }) no_pair)
      go false e = λ z. absurd (omega arith)
      go true e = λ z.
          let o = and_left (is_opposite a b i j) (turns_left vs a b i j && turns_left vs b a j i) e in
          record {
            order = h;
            below = k;
            side_a = w.0;
            side_b = w.1;
            starts = eqb-true (side_start a i) (side_end b j) (and_left (eqb (side_start a i) (side_end b j)) (eqb (side_end a i) (side_start b j)) o);
            ends = eqb-true (side_end a i) (side_start b j) (and_right (eqb (side_start a i) (side_end b j)) (eqb (side_end a i) (side_start b j)) o);
            fits = leb-true (length a + length b - 2) nvp f;
          }

  value_in : JoinableIf nvp ps (merge_value vs nvp ps p q)
  unfolding a b merge_value JoinableIf
  value_in = go (fits nvp a b) refl
    where
      go : (t : Bool) → fits nvp a b ≡ t → JoinableIf nvp ps (elim t [ true ↦ pair_at vs ps p q (shared_side a b) | false ↦ no_pair ])
      go true e = pair_in (shared_side a b) e (shared_in a b)
      go false e = no_pair_lem nvp ps

row_in : (vs : List Vertex) (nvp : ℕ) (ps : List Polygon) (p : ℕ) (best : Pair) → p < length ps → JoinableIf nvp ps best → JoinableIf nvp ps (best_of_row vs nvp ps p best)
unfolding best_of_row greater
row_in vs nvp ps p best h b = each_ind (λ q s. greater s (merge_value vs nvp ps p q)) (JoinableIf nvp ps) (p + 1) (length ps)
    (λ q s l k w. cond_ind (JoinableIf nvp ps) (ltb s.length (merge_value vs nvp ps p q).length) {x = merge_value vs nvp ps p q} {y = s}
    (value_in vs nvp ps p q (omega arith) k) w)
    best b

pub row_joinable : (vs : List Vertex) (nvp : ℕ) (ps : List Polygon) (p : ℕ) → p < length ps → 0 < (best_of_row vs nvp ps p no_pair).length
    → Joinable nvp ps (best_of_row vs nvp ps p no_pair)
unfolding JoinableIf
row_joinable vs nvp ps p h = row_in vs nvp ps p no_pair h (no_pair_lem nvp ps)

pub best_in : (vs : List Vertex) (nvp : ℕ) (ps : List Polygon) → 0 < (best_pair vs nvp ps).length → Joinable nvp ps (best_pair vs nvp ps)
unfolding best_pair JoinableIf
best_in vs nvp ps = each_ind (best_of_row vs nvp ps) (JoinableIf nvp ps) 0 (length ps) (λ p s l h w. row_in vs nvp ps p s h w) no_pair (no_pair_lem nvp ps)

-- ---- one join
pub join_perm : (nvp : ℕ) (ps : List Polygon) (m : Pair) → Joinable nvp ps m
    → Permᴰ (joined (polygon_at ps m.a) (polygon_at ps m.b) m.ea m.eb ∷ ps) (polygon_at ps m.a ∷ (polygon_at ps m.b ∷ join_pair ps m))
unfolding join_pair
join_perm nvp ps m j =
    let J = joined (polygon_at ps m.a) (polygon_at ps m.b) m.ea m.eb in
    Permᴰ.trans (set_perm ps m.a J no_polygon (omega (arith, j.order, j.below)))
    (Permᴰ.cons refl (rw (get_or-set_other ps m.a m.b J no_polygon (λ (e : m.b ≡ m.a). omega (arith, j.order))) at
    (swap_perm no_polygon (set ps m.a J) m.b (rw (length-set ps m.a J) j.below))))

pub past_inside : {P : ℕ → Type 0} (cs : List ℕ) (e : ℕ) → e < length cs → All P cs → All P (past_side cs e)
unfolding turned
past_inside cs e h a = all_left (past_side cs e) (get_or cs e 0 ∷ []) (rw (past_ring cs e h) (all_append (all_drop (e + 1) a) (all_take (e + 1) a)))

pub length_joined : (p q : Polygon) (i j : ℕ) → length (joined p q i j).corners ≡ (length p.corners - 1) + (length q.corners - 1)
unfolding joined
length_joined p q i j = length-append (past_side p.corners i) (past_side q.corners j) ∙ ap₂ ◌+◌ (length_past p.corners i) (length_past q.corners j)

pub joined_good : (P : ℕ → Type 0) (nvp : ℕ) (p q : Polygon) (i j : ℕ) → i < length p.corners → j < length q.corners → length p.corners + length q.corners - 2 ≤ nvp
    → Good P nvp p → Good P nvp q → Good P nvp (joined p q i j)
unfolding joined
joined_good P nvp p q i j h k f a b = record {
  long = omega (arith, length_joined p q i j, a.long, b.long);
  short = omega (arith, length_joined p q i j, a.long, b.long);
  inside = all_append (past_inside p.corners i h a.inside) (past_inside q.corners j k b.inside);
}

-- ---- all joins: from the polygons ps to the polygons qs
cancel : (j a b s q : ℤ) → j +ℤ s ≡ a +ℤ (b +ℤ q) → j ≡ a +ℤ b → q ≡ s
cancel j a b s q h k = omega (ints, told (at j ⊕ at s), told (at a ⊕ (at b ⊕ at q)), told (at a ⊕ at b))

pub joined_area : (vs : List Vertex) (p q : Polygon) (i j : ℕ) → i < length p.corners → j < length q.corners → 2 ≤ length p.corners → 2 ≤ length q.corners
    → side_start p.corners i ≡ side_end q.corners j → side_end p.corners i ≡ side_start q.corners j
    → polygon_area vs (joined p q i j) ≡ polygon_area vs p +ℤ polygon_area vs q
unfolding joined polygon_area points_of
joined_area vs p q i j h k la lb s e = area_joined p.corners q.corners i j h k la lb s e (place_of vs)

pub join_once : (vs : List Vertex) (P : ℕ → Type 0) (nvp : ℕ) (ps : List Polygon) (m : Pair) → Joinable nvp ps m → All (Good P nvp) ps → Merged vs P nvp ps (join_pair ps m)
unfolding sum_of total
join_once vs P nvp ps m j g =
    let p = polygon_at ps m.a in
    let q = polygon_at ps m.b in
    let a = all_at g m.a no_polygon (omega (arith, j.order, j.below)) in
    let b = all_at g m.b no_polygon j.below in
    let f = polygon_area vs in
    let e = join_perm nvp ps m j in
    record {
      areas = cancel (f (joined p q m.ea m.eb)) (f p) (f q) (sum_of f ps) (sum_of f (join_pair ps m)) (sum_perm f e)
          (joined_area vs p q m.ea m.eb j.side_a j.side_b (omega (arith, a.long)) (omega (arith, b.long)) j.starts j.ends);
      spares = omega (arith, total_perm spare_of e, length_joined p q m.ea m.eb, a.long, b.long);
      good = all_tail (all_tail (all_perm e (more (joined_good P nvp p q m.ea m.eb j.side_a j.side_b j.fits a b) g)));
    }

pub merged_none : (vs : List Vertex) (P : ℕ → Type 0) (nvp : ℕ) (ps : List Polygon) → All (Good P nvp) ps → Merged vs P nvp ps ps
merged_none vs P nvp ps g = record { areas = refl; spares = refl; good = g }

pub merged_then : {vs : List Vertex} {P : ℕ → Type 0} {nvp : ℕ} {ps qs rs : List Polygon} → Merged vs P nvp ps qs → Merged vs P nvp qs rs → Merged vs P nvp ps rs
merged_then a b = record { areas = b.areas ∙ a.areas; spares = b.spares ∙ a.spares; good = b.good }

pub loop_merged : (f : ℕ) (vs : List Vertex) (P : ℕ → Type 0) (nvp : ℕ) (ps : List Polygon) → All (Good P nvp) ps → Merged vs P nvp ps (merge_loop f vs nvp ps)
unfolding merge_loop
loop_merged zero vs P nvp ps g = merged_none vs P nvp ps g
loop_merged (suc f) vs P nvp ps g =
    (elim (ltb 0 (best_pair vs nvp ps).length) as (λ (t : Bool). ltb 0 (best_pair vs nvp ps).length ≡ t → Merged vs P nvp ps (elim t [ true ↦ merge_loop f vs nvp (join_pair ps (best_pair vs nvp ps)) | false ↦ ps ])) [
      | true ↦ λ e.
          let m = join_once vs P nvp ps (best_pair vs nvp ps) (best_in vs nvp ps (ltb-true 0 (best_pair vs nvp ps).length e)) g in
          merged_then m (loop_merged f vs P nvp (join_pair ps (best_pair vs nvp ps)) m.good)
      | false ↦ λ e. merged_none vs P nvp ps g
    ]) refl

-- R4: the area, the spare corners, and what a stored polygon is are kept
pub merged : (vs : List Vertex) (P : ℕ → Type 0) (nvp : ℕ) (ps : List Polygon) → All (Good P nvp) ps → Merged vs P nvp ps (merge_all vs nvp ps)
unfolding merge_all
merged vs P nvp ps g = go (ltb 3 nvp)
  where
    go : (t : Bool) → Merged vs P nvp ps (elim t [ true ↦ merge_loop (length ps) vs nvp ps | false ↦ ps ])
    go true = loop_merged (length ps) vs P nvp ps g
    go false = merged_none vs P nvp ps g

-- as many spare corners as polygons, at least: so there are at most T polygons
pub polygons_few : {ps : List Polygon} → All Long ps → length ps ≤ spares_in ps
unfolding total
polygons_few none = omega arith
polygons_few (more h a) = omega (arith, h, polygons_few a)

rough : (nvp : ℕ) (p : Polygon) → 3 ≤ nvp → length p.corners ≡ 3 → Good (λ c. Unit) nvp p
rough nvp p z e = record { long = omega arith; short = omega arith; inside = anything p.corners }
  where
    anything : (l : List ℕ) → All (λ c. Unit) l
    anything [] = none
    anything (c ∷ l) = more tt (anything l)

spare_triangles : {ps : List Polygon} → All (λ p. length p.corners ≡ 3) ps → spares_in ps ≡ length ps
unfolding total
spare_triangles none = refl
spare_triangles (more {a = p} e a) = omega (arith, spare_triangles a)

pub triangles_merged : (vs : List Vertex) (nvp : ℕ) (ps : List Polygon) → 3 ≤ nvp → All (λ p. length p.corners ≡ 3) ps → Corners (length ps) (merge_all vs nvp ps)
triangles_merged vs nvp ps z a =
    let m = merged vs (λ c. Unit) nvp ps (all_imp (λ p (e : length p.corners ≡ 3). rough nvp p z e) a) in
    record { spares = m.spares ∙ spare_triangles a; long = all_imp (λ p (g : Good (λ c. Unit) nvp p). g.long) m.good }
