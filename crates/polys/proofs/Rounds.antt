-- One join after the other, with the rows kept: with zeros in the place of the rows the buffer is what it would be without them, and the rows are those of
-- the polygons that are left. Assumes nothing.
use mathlib.Core.Path.{◌≡◌, refl, sym, ap, ◌∙◌}
use mathlib.Core.Bool.{Bool}
use mathlib.Core.List.{List, [], ◌∷◌, ◌++◌}
use Prim.Native.Nat.{ℕ, ◌+◌, ◌-◌, ◌*◌, ◌≤◌, ◌<◌}
use native.Mathlib.Omega.{arith}
use lib.ListN.{length, replicate, length-append, length-replicate}
use Rattle.mem.specs.Slice.{view, splice, length_splice, splice_over, splice_comm, splice_view, length_view, view_after}
use Rattle.mem.specs.Tab.{blocks_after}
use Rattle.mem.specs.Packed.{Every, every_append}
use Rattle.rules.specs.Mesh.{Polygon, no_polygon}
use Rattle.rules.specs.Merge.{best_pair, join_pair, merge_all}
use Rattle.rules.specs.declared.Pair.{Pair}
use Rattle.laws.specs.Lists.{All}
use Rattle.laws.specs.Merge.{Good, Below, Joinable}
use Rattle.laws.proofs.Merge.{join_once}
use Rattle.laws.proofs.Fuel.{length_join}
use Rattle.records.specs.Layout.{vertex_size, polygon_size, vertex_in, vertices_at, polygons_at, polygon_records, Small, Tidy}
use Rattle.records.specs.Polygons.{length_polygons, length_records}
use Rattle.records.specs.Blanks.{Blanked, blanks_small, blanked_are, blanked_tidy}
use Rattle.polys.specs.Ready.{MergeReady, JoinReady, MergedTo}
use Rattle.laws.proofs.Rows.{after_join}
use Rattle.polys.specs.declared.field.Field.{Field}
use Rattle.polys.specs.Fields.{first}
use Rattle.polys.specs.Rows.{row_size, wiped, RowsReady, RowsReadyIn, RowsIf, RenewIf, KeptIf, MergedOver}
use Rattle.polys.proofs.Merges.{smalls, are, Joining, joining_begin, joining_none, joining_more, joining_end, ready_now, join_ready, some_left}
use Rattle.polys.proofs.Keeps.{vertices_under, polygons_under, ready_under}

-- ---- zeros in the place of the rows

module _ {w : List ℕ} {vo nv o np nvp ro : ℕ} (ready : RowsReady w vo nv o np nvp ro) where
  small_now : Every Small no_polygon (polygons_at w o np)
  small_now = smalls nv nvp (polygons_at w o np) ready.ready.most ready.ready.good

  pub records_long : length (polygon_records (polygons_at w o np)) ≡ np * polygon_size
  records_long = length_records (polygons_at w o np) small_now ∙ ap (λ (n : ℕ). n * polygon_size) (length_polygons w o np)

  pub tidy_under : {v : List ℕ} (xs : List ℕ) → v ≡ splice w ro xs → Tidy w o np → Tidy v o np
  tidy_under {v} xs e t = record {
    is =
        e ∙ ap (λ (l : List ℕ). splice l ro xs) t.is
        ∙ splice_comm w o ro (polygon_records (polygons_at w o np)) xs (omega (arith, records_long, ready.behind))
        ∙ rw (← e, polygons_under ready ro xs (omega arith) e) refl;
  }

wiped_is : (w : List ℕ) (ro np : ℕ) → wiped w ro np ≡ splice w ro (replicate (np * row_size) 0)
unfolding wiped
wiped_is w ro np = refl

wiped_back : (w : List ℕ) (ro np : ℕ) → ro + np * row_size ≤ length w → w ≡ splice (wiped w ro np) ro (view w ro (np * row_size))
unfolding wiped
wiped_back w ro np h =
    sym (splice_over w ro (replicate (np * row_size) 0) (view w ro (np * row_size))
    (omega (arith, length-replicate {A = ℕ} (np * row_size) 0, length_view w ro (np * row_size) h)) ∙ splice_view w ro (np * row_size))

-- zeros over more rows
wiped_more : (w : List ℕ) (ro n np : ℕ) → n ≤ np → splice (wiped w ro n) ro (replicate (np * row_size) 0) ≡ wiped w ro np
unfolding wiped
wiped_more w ro n np h =
    splice_over w ro (replicate (n * row_size) 0) (replicate (np * row_size) 0)
    (omega (arith, length-replicate {A = ℕ} (n * row_size) 0, length-replicate {A = ℕ} (np * row_size) 0))

wiped_alike : (w v : List ℕ) (ro n np : ℕ) → n ≤ np → wiped v ro n ≡ wiped w ro n → wiped v ro np ≡ wiped w ro np
wiped_alike w v ro n np h e =
    sym (wiped_more v ro n np h) ∙ ap (λ (x : List ℕ). splice x ro (replicate (np * row_size) 0)) e ∙ wiped_more w ro n np h

wiped_size : (w : List ℕ) (ro np : ℕ) → length (wiped w ro np) ≡ length w
unfolding wiped
wiped_size w ro np = length_splice w ro (replicate (np * row_size) 0)

-- ---- the loop of `merge_pairs`

pub record Going (w₀ : List ℕ) (F : Field) (t : Bool) (w : List ℕ) (n : ℕ) : Type 0 where
  pub joining : Joining (wiped w₀ F.rows F.polygons.n) F.vertices.at F.vertices.n F.polygons.at F.polygons.n F.nvp (wiped w F.rows F.polygons.n) n
  pub kept : RowsIf w (first F n) t
  pub size : length w ≡ length w₀

module _ {w₀ : List ℕ} (F : Field) (rows₀ : RowsReadyIn w₀ F) (tidy₀ : Tidy w₀ F.polygons.at F.polygons.n) where
  pub wiped_ready : MergeReady (wiped w₀ F.rows F.polygons.n) F.vertices.at F.vertices.n F.polygons.at F.polygons.n F.nvp
  unfolding wiped
  wiped_ready = record {
    ready = (ready_under rows₀ F.rows (replicate (F.polygons.n * row_size) 0) (omega arith) refl).ready;
    tidy = tidy_under rows₀ (replicate (F.polygons.n * row_size) 0) refl tidy₀;
  }

  module _ {t : Bool} {w : List ℕ} {n : ℕ} (g : Going w₀ F t w n) where
    seen : vertices_at (wiped w F.rows F.polygons.n) F.vertices.at F.vertices.n ≡ vertices_at w F.vertices.at F.vertices.n
    unfolding wiped
    seen = vertices_under g.kept.rows F.rows (replicate (F.polygons.n * row_size) 0) (omega arith) refl

    there : polygons_at (wiped w F.rows F.polygons.n) F.polygons.at n ≡ polygons_at w F.polygons.at n
    unfolding wiped
    there = polygons_under g.kept.rows F.rows (replicate (F.polygons.n * row_size) 0) (omega arith) refl

    room : F.rows + F.polygons.n * row_size ≤ length w
    room = omega (arith, g.size, rows₀.room)

    module _ (m : Pair) (e : m ≡ best_pair (vertices_at w F.vertices.at F.vertices.n) F.nvp (polygons_at w F.polygons.at n)) where
      best : m ≡ best_pair (vertices_at (wiped w F.rows F.polygons.n) F.vertices.at F.vertices.n) F.nvp (polygons_at (wiped w F.rows F.polygons.n) F.polygons.at n)
      best = e ∙ rw (seen, there) refl

      pub going_some : 0 < m.length → 0 < n
      going_some h = some_left wiped_ready g.joining m best h

      pub going_join : 0 < m.length → JoinReady w F.polygons.at n F.nvp m
      going_join h =
          let j = join_ready wiped_ready g.joining m best h in
          record {
            fits = omega (arith, j.fits, wiped_size w F.rows F.polygons.n);
            tidy =
                tidy_under (ready_under g.kept.rows F.rows (replicate (F.polygons.n * row_size) 0) (omega arith) (wiped_is w F.rows F.polygons.n)) (view w F.rows (F.polygons.n * row_size))
                (wiped_back w F.rows F.polygons.n room) j.tidy;
            small = rw there at j.small;
            joinable = rw there at j.joinable;
            most = j.most;
          }

      pub going_end : 3 < F.nvp → m.length ≡ 0 → MergedTo (wiped w₀ F.rows F.polygons.n) (wiped w F.rows F.polygons.n) F.vertices.at F.vertices.n F.polygons.at F.polygons.n F.nvp n
      going_end k h = joining_end wiped_ready g.joining m best k h

      module _ {v : List ℕ} (h : 0 < m.length) (l : length v ≡ length w)
          (q : v ≡ splice w F.polygons.at (polygon_records (join_pair (polygons_at w F.polygons.at n) m ++ (no_polygon ∷ [])))) where
        left : List ℕ
        left = polygon_records (join_pair (polygons_at w F.polygons.at n) m ++ (no_polygon ∷ []))

        joinable : Joinable F.nvp (polygons_at w F.polygons.at n) m
        joinable = (going_join h).joinable

        good : All (Good (Below F.vertices.n) F.nvp) (join_pair (polygons_at w F.polygons.at n) m)
        good = (join_once (vertices_at w F.vertices.at F.vertices.n) (Below F.vertices.n) F.nvp (polygons_at w F.polygons.at n) m joinable g.kept.rows.ready.good).good

        left_long : length left ≡ n * polygon_size
        unfolding left
        left_long =
            let qs = join_pair (polygons_at w F.polygons.at n) m in
            let s : Every Small no_polygon (qs ++ (no_polygon ∷ [])) =
            every_append Small no_polygon qs (no_polygon ∷ []) (smalls F.vertices.n F.nvp qs rows₀.ready.most good) (blanks_small 1) in
            length_records (qs ++ (no_polygon ∷ [])) s
            ∙ ap (λ (k : ℕ). k * polygon_size)
            (simp length-append (omega (arith, length_join (polygons_at w F.polygons.at n) m, length_polygons w F.polygons.at n, going_some h)))

        wiped_left : wiped v F.rows F.polygons.n ≡ splice (wiped w F.rows F.polygons.n) F.polygons.at left
        unfolding wiped left
        wiped_left = rw q (splice_comm w F.polygons.at F.rows left (replicate (F.polygons.n * row_size) 0) (omega (arith, left_long, g.kept.rows.behind)))

        joining_on : Joining (wiped w₀ F.rows F.polygons.n) F.vertices.at F.vertices.n F.polygons.at F.polygons.n F.nvp (wiped v F.rows F.polygons.n) (n - 1)
        unfolding left
        joining_on =
            joining_more wiped_ready g.joining m best h (wiped_size v F.rows F.polygons.n ∙ l ∙ sym (wiped_size w F.rows F.polygons.n)) (wiped_left ∙ rw there refl)

        ready_on : RowsReadyIn v (first F (n - 1))
        ready_on =
            let r : RowsReadyIn (wiped v F.rows F.polygons.n) (first F (n - 1)) = record {
              ready = ready_now wiped_ready joining_on;
              behind = omega (arith, g.kept.rows.behind);
              room = omega (arith, g.kept.rows.room, wiped_size v F.rows F.polygons.n, l);
              few = omega (arith, g.kept.rows.few);
            } in
            ready_under r F.rows (view v F.rows (F.polygons.n * row_size)) (omega arith) (wiped_back v F.rows F.polygons.n (omega (arith, l, room)))

        are_on : polygons_at v F.polygons.at (n - 1) ≡ join_pair (polygons_at w F.polygons.at n) m
        unfolding joining_on joining_more
        are_on =
            sym (polygons_under ready_on F.rows (replicate (F.polygons.n * row_size) 0) (omega arith) (wiped_is v F.rows F.polygons.n)) ∙ are wiped_ready joining_on
            ∙ ap (λ (x : List Polygon). join_pair x m) (sym (are wiped_ready g.joining) ∙ there)

        vertices_on : vertices_at v F.vertices.at F.vertices.n ≡ vertices_at w F.vertices.at F.vertices.n
        unfolding vertices_at left
        vertices_on = rw q (blocks_after vertex_in w F.polygons.at F.vertices.at vertex_size F.vertices.n left rows₀.ready.behind)

        pub going_renew : RenewIf v (first F (n - 1)) m.a m.b t
        unfolding left
        going_renew = record {
          rows = ready_on;
          kept = λ z. record {
            rows = ready_on;
            ps = polygons_at w F.polygons.at n;
            after = rw are_on (after_join F.nvp (polygons_at w F.polygons.at n) m joinable);
            at = λ r k.
                rw vertices_on (record {
                  is =
                      rw q (view_after w F.polygons.at (F.rows + r * row_size) row_size left (omega (arith, left_long, g.kept.rows.behind)))
                      ∙ ((g.kept.kept z).at r (omega arith) (omega arith)).is;
                });
          };
        }

        pub going_more : {u : List ℕ} → length u ≡ length v → KeptIf v u (first F (n - 1)) t → Going w₀ F t u (n - 1)
        going_more {u} k f = record {
          joining = rw (wiped_alike v u F.rows (n - 1) F.polygons.n joining_on.left.within f.same) joining_on;
          kept = f.rows;
          size = k ∙ l ∙ g.size;
        }

  pub going_begin : {t : Bool} → RowsIf w₀ F t → Going w₀ F t w₀ F.polygons.n
  going_begin k = record { joining = joining_begin wiped_ready; kept = k; size = refl }

  -- ---- all joins are done, and the rows are wiped

  pub merged_over : {v : List ℕ} {r : ℕ} → MergedTo (wiped w₀ F.rows F.polygons.n) v F.vertices.at F.vertices.n F.polygons.at F.polygons.n F.nvp r → MergedOver w₀ v F.vertices.at F.vertices.n F.polygons.at F.polygons.n F.nvp F.rows r
  merged_over {v} {r} t =
      let z : List ℕ = replicate (F.polygons.n * row_size) 0 in
      let vs : vertices_at (wiped w₀ F.rows F.polygons.n) F.vertices.at F.vertices.n ≡ vertices_at w₀ F.vertices.at F.vertices.n =
      vertices_under rows₀ F.rows (replicate (F.polygons.n * row_size) 0) (omega arith) (wiped_is w₀ F.rows F.polygons.n) in
      let ps : polygons_at (wiped w₀ F.rows F.polygons.n) F.polygons.at F.polygons.n ≡ polygons_at w₀ F.polygons.at F.polygons.n = polygons_under rows₀ F.rows (replicate (F.polygons.n * row_size) 0) (omega arith) (wiped_is w₀ F.rows F.polygons.n) in
      let qs = merge_all (vertices_at w₀ F.vertices.at F.vertices.n) F.nvp (polygons_at w₀ F.polygons.at F.polygons.n) in
      let xs = polygon_records (qs ++ replicate (F.polygons.n - r) no_polygon) in
      let count : r ≡ length qs = rw (vs, ps) at t.count in
      let good : All (Good (Below F.vertices.n) F.nvp) qs = rw (vs, ps) at t.good in
      let small : Every Small no_polygon qs = smalls F.vertices.n F.nvp qs rows₀.ready.most good in
      let b : Blanked w₀ F.polygons.at F.polygons.n (splice w₀ F.polygons.at xs) qs r = record { long = sym count; within = t.fewer; small = small; is = refl } in
      let long : length xs ≡ F.polygons.n * polygon_size =
      length_records (qs ++ replicate (F.polygons.n - r) no_polygon) (every_append Small no_polygon qs (replicate (F.polygons.n - r) no_polygon) small (blanks_small (F.polygons.n - r)))
      ∙ ap (λ (k : ℕ). k * polygon_size) (simp (length-append, length-replicate) (omega (arith, count, t.fewer))) in
      record {
        mid = splice w₀ F.polygons.at xs;
        merged = record {
          count = count;
          is = refl;
          fewer = t.fewer;
          polygons = blanked_are w₀ F.polygons.at F.polygons.n rows₀.ready.fits b;
          good = good;
          tidy = blanked_tidy w₀ F.polygons.at F.polygons.n rows₀.ready.fits b;
        };
        is =
            (rw (vs, ps) at t.is)
            ∙ rw (wiped_is w₀ F.rows F.polygons.n, wiped_is (splice w₀ F.polygons.at xs) F.rows F.polygons.n) (sym (splice_comm w₀ F.polygons.at F.rows xs z (omega (arith, long, rows₀.behind))));
      }

  pub merged_none : {v : List ℕ} → F.nvp ≤ 3 → v ≡ splice w₀ F.rows (replicate (F.polygons.n * row_size) 0) → MergedOver w₀ v F.vertices.at F.vertices.n F.polygons.at F.polygons.n F.nvp F.rows F.polygons.n
  merged_none h e = rw (e ∙ sym (wiped_is w₀ F.rows F.polygons.n)) (merged_over (joining_none wiped_ready h))

  -- the rows are kept in w, if they are, and the merge leaves v
  module _ {t : Bool} {w : List ℕ} (l : length w ≡ length w₀) (k : KeptIf w₀ w F t) where
    pub kept_tidy : Tidy w F.polygons.at F.polygons.n
    kept_tidy =
        tidy_under (ready_under rows₀ F.rows (replicate (F.polygons.n * row_size) 0) (omega arith) (k.same ∙ wiped_is w₀ F.rows F.polygons.n)) (view w F.rows (F.polygons.n * row_size))
        (wiped_back w F.rows F.polygons.n (omega (arith, l, rows₀.room))) (rw k.same wiped_ready.tidy)

    pub merged_rows : {u : List ℕ} (v : List ℕ) {r : ℕ} → MergedTo (wiped w F.rows F.polygons.n) (wiped v F.rows F.polygons.n) F.vertices.at F.vertices.n F.polygons.at F.polygons.n F.nvp r
        → u ≡ splice v F.rows (replicate (F.polygons.n * row_size) 0) → MergedOver w₀ u F.vertices.at F.vertices.n F.polygons.at F.polygons.n F.nvp F.rows r
    merged_rows v x f = rw (f ∙ sym (wiped_is v F.rows F.polygons.n)) (merged_over (rw k.same at x))
