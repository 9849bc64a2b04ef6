-- The join of a pair in the buffer, and one join after the other: the records stay those of a list of polygons with blank ones behind it, and R4 on the
-- list that is left gives what R4 on the first one gives. Assumes nothing.
use mathlib.Core.Path.{◌≡◌, refl, sym, ap, ◌∙◌}
use mathlib.Core.List.{List, [], ◌∷◌, ◌++◌}
use Prim.Native.Nat.{ℕ, ◌+◌, ◌-◌, ◌*◌, ◌≤◌, ◌<◌}
use native.Mathlib.Omega.{arith}
use borrow.Author.Tests.{lt-ltb, le-ltb}
use lib.ListN.{length, set, length-append, length-set}
use Rattle.mem.specs.Slice.{splice, length_splice, splice_over}
use Rattle.mem.specs.Tab.{blocks_after}
use Rattle.mem.specs.Packed.{Every, every_set, every_append}
use Rattle.rules.specs.Lists.{swap_remove}
use Rattle.rules.specs.Mesh.{Polygon, no_polygon, polygon_at}
use Rattle.rules.specs.Merge.{best_pair, joined, join_pair, merge_all}
use Rattle.rules.specs.Fuel.{merging}
use Rattle.rules.specs.declared.Vertex.{Vertex}
use Rattle.rules.specs.declared.Pair.{Pair}
use Rattle.laws.specs.Lists.{All}
use Rattle.laws.proofs.Lists.{all_imp, every_of_all, every_swap}
use Rattle.laws.specs.Merge.{Good, Below, Joinable}
use Rattle.laws.proofs.Merge.{best_in, length_joined, join_once}
use Rattle.laws.proofs.Fuel.{length_join, merging_turns}
use Rattle.records.specs.Layout.{vertex_size, polygon_size, most_corners, vertex_in, vertices_at, polygons_at, polygon_records, Small}
use Rattle.records.specs.Values.{to_poly, polygon_of, poly_words, Loaded, SwapReady}
use Rattle.records.specs.Polygons.{length_polygons, length_records, polygons_are, put_are, tidy_of, loaded_of, stored_words}
use Rattle.records.specs.Blanks.{Blanked, blanks_small, blanked_none, blanked_are, blanked_tidy, blanked_fits, blanked_less}
use Rattle.records.specs.declared.polygon.Poly.{Poly}
use Rattle.polys.specs.Ready.{Ready, MergeReady, JoinReady, MergedTo}

-- ---- polygons that a record can hold

pub smalls : (nv nvp : ℕ) (ps : List Polygon) → nvp ≤ most_corners → All (Good (Below nv) nvp) ps → Every Small no_polygon ps
smalls nv nvp ps h g = every_of_all Small no_polygon (omega arith) (all_imp (λ p (a : Good (Below nv) nvp p). omega (arith, a.short)) g)

-- ---- the steps of `join_pair`

unfoldable joined_at : List Polygon → Pair → Polygon
joined_at ps m = joined (polygon_at ps m.a) (polygon_at ps m.b) m.ea m.eb

-- the join is in the place of the pair's first
unfoldable first : List Polygon → Pair → List Polygon
first ps m = set ps m.a (joined_at ps m)

join_first : (ps : List Polygon) (m : Pair) → swap_remove no_polygon (first ps m) m.b ≡ join_pair ps m
unfolding join_pair first joined_at
join_first ps m = refl

module _ {w : List ℕ} {o np nvp : ℕ} {m : Pair} (ready : JoinReady w o np nvp m) where
  small_joined : Small (joined_at (polygons_at w o np) m)
  unfolding joined_at
  small_joined =
      let j = ready.joinable in
      omega (
        arith,
        length_joined (polygon_at (polygons_at w o np) m.a) (polygon_at (polygons_at w o np) m.b) m.ea m.eb,
        j.fits,
        ready.most,
        j.side_a,
        j.side_b,
      )

  small_first : Every Small no_polygon (first (polygons_at w o np) m)
  unfolding first
  small_first = every_set Small no_polygon (polygons_at w o np) m.a (joined_at (polygons_at w o np) m) ready.small small_joined

  long_first : length (first (polygons_at w o np) m) ≡ np
  unfolding first
  long_first = length-set (polygons_at w o np) m.a (joined_at (polygons_at w o np) m) ∙ length_polygons w o np

  pub both_in : (m.a < np) × (m.b < np)
  both_in =
      let j = ready.joinable in
      (omega (arith, j.order, j.below, length_polygons w o np), omega (arith, j.below, length_polygons w o np))

  module _ {w₁ : List ℕ} {p q r : Poly} (lp : Loaded (polygon_at (polygons_at w o np) m.a) p) (lq : Loaded (polygon_at (polygons_at w o np) m.b) q)
      (lr : Loaded (joined (polygon_of p) (polygon_of q) m.ea m.eb) r) (e₁ : w₁ ≡ splice w (o + m.a * polygon_size) (poly_words r)) where
    stored_first : w₁ ≡ splice w o (polygon_records (first (polygons_at w o np) m))
    unfolding first joined_at
    stored_first =
        let j : r ≡ to_poly (joined_at (polygons_at w o np) m) = rw (loaded_of lp, loaded_of lq) at lr.is in
        e₁ ∙ ap (splice w (o + m.a * polygon_size)) (stored_words (joined_at (polygons_at w o np) m) j)
        ∙ put_are w o np (polygons_at w o np) ready.tidy.is (length_polygons w o np) ready.small ready.fits m.a
        (joined_at (polygons_at w o np) m) small_joined both_in.0

    are_first : polygons_at w₁ o np ≡ first (polygons_at w o np) m
    are_first = polygons_are w o np (first (polygons_at w o np) m) stored_first long_first small_first ready.fits

    pub swap_ready : {i : ℕ} → i < np → SwapReady w₁ o np i
    swap_ready h = record {
      fits = omega (arith, ready.fits, ap length stored_first, length_splice w o (polygon_records (first (polygons_at w o np) m)));
      tidy = tidy_of w o np (first (polygons_at w o np) m) stored_first long_first small_first ready.fits;
      all = rw are_first small_first;
      below = h;
    }

    pub join_steps : {w₂ : List ℕ} → w₂ ≡ splice w₁ o (polygon_records (swap_remove no_polygon (polygons_at w₁ o np) m.b ++ (no_polygon ∷ [])))
        → w₂ ≡ splice w o (polygon_records (join_pair (polygons_at w o np) m ++ (no_polygon ∷ [])))
    join_steps {w₂} e₂ =
        let qs = join_pair (polygons_at w o np) m in
        let small : Every Small no_polygon (qs ++ (no_polygon ∷ [])) =
        every_append Small no_polygon qs (no_polygon ∷ []) (rw join_first at (every_swap Small no_polygon (first (polygons_at w o np) m) m.b small_first)) (blanks_small 1) in
        let long : length (qs ++ (no_polygon ∷ [])) ≡ np =
        simp length-append (omega (arith, length_join (polygons_at w o np) m, length_polygons w o np, both_in.1)) in
        e₂ ∙ rw (are_first, join_first (polygons_at w o np) m, stored_first)
        (splice_over w o (polygon_records (first (polygons_at w o np) m)) (polygon_records (qs ++ (no_polygon ∷ [])))
        (omega (arith, length_records (first (polygons_at w o np) m) small_first, long_first, length_records (qs ++ (no_polygon ∷ [])) small, long)))

-- ---- the loop of `merge_polys`: the n polygons ps are left, with blank ones behind them

pub record Joining (w₀ : List ℕ) (vo nv o np nvp : ℕ) (w : List ℕ) (n : ℕ) : Type 0 where
  pub ps : List Polygon
  pub left : Blanked w₀ o np w ps n
  pub good : All (Good (Below nv) nvp) ps
  pub same : merging (vertices_at w₀ vo nv) nvp (polygons_at w₀ o np) ≡ merging (vertices_at w₀ vo nv) nvp ps
  pub size : length w ≡ length w₀

merge_on : (vs : List Vertex) (nvp : ℕ) (ps : List Polygon) → 3 < nvp → merge_all vs nvp ps ≡ merging vs nvp ps
unfolding merge_all
merge_on vs nvp ps h = rw (merge_all, lt-ltb 3 nvp h)

merge_off : (vs : List Vertex) (nvp : ℕ) (ps : List Polygon) → nvp ≤ 3 → merge_all vs nvp ps ≡ ps
unfolding merge_all
merge_off vs nvp ps h = rw (merge_all, le-ltb 3 nvp h)

module _ {w₀ : List ℕ} {vo nv o np nvp : ℕ} (ready : MergeReady w₀ vo nv o np nvp) where
  pub joining_begin : Joining w₀ vo nv o np nvp w₀ np
  joining_begin = record {
    ps = polygons_at w₀ o np;
    left = blanked_none w₀ o np ready.ready.fits ready.tidy (smalls nv nvp (polygons_at w₀ o np) ready.ready.most ready.ready.good);
    good = ready.ready.good;
    same = refl;
    size = refl;
  }

  module _ {w : List ℕ} {n : ℕ} (g : Joining w₀ vo nv o np nvp w n) where
    pub are : polygons_at w o n ≡ g.ps
    are = blanked_are w₀ o np ready.ready.fits g.left

    -- the vertices stand before the polygons
    seen : vertices_at w vo nv ≡ vertices_at w₀ vo nv
    unfolding vertices_at
    seen = rw g.left.is (blocks_after vertex_in w₀ o vo vertex_size nv _ ready.ready.behind)

    pub ready_now : Ready w vo nv o n nvp
    ready_now = record {
      placed = record { fits = omega (arith, g.size, ready.ready.placed.fits); grid = rw seen ready.ready.placed.grid };
      behind = ready.ready.behind;
      fits = blanked_fits w₀ o np ready.ready.fits g.left;
      most = ready.ready.most;
      good = rw are g.good;
    }

    -- all is done
    merged_of : merge_all (vertices_at w₀ vo nv) nvp (polygons_at w₀ o np) ≡ g.ps → MergedTo w₀ w vo nv o np nvp n
    merged_of e = record {
      count = sym (ap length e ∙ g.left.long);
      is = rw e g.left.is;
      fewer = g.left.within;
      polygons = are ∙ sym e;
      good = rw e g.good;
      tidy = blanked_tidy w₀ o np ready.ready.fits g.left;
    }

    module _ (m : Pair) (e : m ≡ best_pair (vertices_at w vo nv) nvp (polygons_at w o n)) where
      pub best : m ≡ best_pair (vertices_at w₀ vo nv) nvp g.ps
      best = e ∙ rw (seen, are)

      pub joinable : 0 < m.length → Joinable nvp g.ps m
      joinable h = rw best (best_in (vertices_at w₀ vo nv) nvp g.ps (rw best at h))

      pub some_left : 0 < m.length → 0 < n
      some_left h = omega (arith, (joinable h).below, g.left.long)

      pub join_ready : 0 < m.length → JoinReady w o n nvp m
      join_ready h = record {
        fits = ready_now.fits;
        tidy = blanked_tidy w₀ o np ready.ready.fits g.left;
        small = rw are g.left.small;
        joinable = rw are (joinable h);
        most = ready.ready.most;
      }

      unfoldable pub joining_more : {v : List ℕ} → 0 < m.length → length v ≡ length w
          → v ≡ splice w o (polygon_records (join_pair (polygons_at w o n) m ++ (no_polygon ∷ [])))
          → Joining w₀ vo nv o np nvp v (n - 1)
      joining_more {v} h l q =
          let qs = join_pair g.ps m in
          let good : All (Good (Below nv) nvp) qs = (join_once (vertices_at w₀ vo nv) (Below nv) nvp g.ps m (joinable h) g.good).good in
          record {
            ps = qs;
            left = blanked_less w₀ o np ready.ready.fits g.left qs (some_left h) (smalls nv nvp qs ready.ready.most good)
                (length_join g.ps m ∙ ap (λ (k : ℕ). k - 1) g.left.long) (rw are at q);
            good = good;
            size = l ∙ g.size;
            same =
                g.same ∙ (merging_turns (vertices_at w₀ vo nv) nvp g.ps).join (rw best at h)
                ∙ ap (λ (x : Pair). merging (vertices_at w₀ vo nv) nvp (join_pair g.ps x)) (sym best);
          }

      pub joining_end : 3 < nvp → m.length ≡ 0 → MergedTo w₀ w vo nv o np nvp n
      joining_end k h =
          merged_of (merge_on (vertices_at w₀ vo nv) nvp (polygons_at w₀ o np) k ∙ g.same
          ∙ (merging_turns (vertices_at w₀ vo nv) nvp g.ps).stop (rw best at h))

  pub joining_none : nvp ≤ 3 → MergedTo w₀ w₀ vo nv o np nvp np
  unfolding joining_begin
  joining_none k = merged_of joining_begin (merge_off (vertices_at w₀ vo nv) nvp (polygons_at w₀ o np) k)
