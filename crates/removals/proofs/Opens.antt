-- The vertex goes step by step: what each step asks for, and what stands in the parts of the mesh's place after it. Assumes nothing.
-- Key: `opened` is what all steps come to.
use mathlib.Core.Path.{◌≡◌, sym, ap, ◌∙◌}
use mathlib.Core.List.{List, [], ◌++◌}
use Prim.Native.Nat.{ℕ, suc, ◌+◌, ◌-◌, ◌*◌, ◌≤◌, ◌<◌}
use native.Mathlib.Omega.{arith}
use lib.ListN.{length, replicate, length-append, length-replicate}
use Rattle.mem.specs.Slice.{splice}
use Rattle.mem.specs.Packed.{Every, every_append}
use Rattle.rules.specs.Lists.{without}
use Rattle.rules.specs.Mesh.{Polygon, no_polygon}
use Rattle.rules.specs.Removal.{polygons_left, sides_left, walk, hole_of}
use Rattle.rules.specs.declared.Vertex.{Vertex}
use Rattle.rules.specs.declared.Side.{Side}
use Rattle.rules.specs.declared.ChainPoint.{ChainPoint}
use Rattle.laws.specs.Lists.{All}
use Rattle.laws.proofs.Lists.{all_imp, length_without}
use Rattle.laws.specs.Merge.{Good, Below, Long}
use Rattle.laws.proofs.Merge.{polygons_few}
use Rattle.laws.proofs.Removal.{sides_few, walk_counts}
use Rattle.records.specs.Layout.{vertex_size, vertices_at, marks_at, vertex_records, polygon_size, polygons_at, polygon_records, Small, sides_at, side_records, point_size, points_at, point_records}
use Rattle.records.specs.Vertices.{length_vertices, length_marks, length_vertex_records}
use Rattle.records.specs.Polygons.{length_polygons, length_records}
use Rattle.records.specs.Blanks.{blanks_small}
use Rattle.records.specs.Fixed.{side_fixed, point_fixed, fixed_length}
use Rattle.trails.specs.Sides.{CollectReady, Collected}
use Rattle.trails.specs.Trails.{walk_size, WalkReady, WalkedTo}
use Rattle.trails.specs.declared.walk.Walked.{Walked}
use Rattle.holes.specs.Clear.{TidyVertices, ClearReady, ClearedTo}
use Rattle.removals.specs.declared.site.Site.{Site}
use Rattle.records.specs.declared.counts.Counts.{Counts}
use Rattle.removals.specs.Site.{mesh_at, mesh_in, Fits, Stands}
use Rattle.removals.specs.Removing.{ClosedTo, RemoveReady, hole_around, opened_in, OpenedTo}
use Rattle.holes.specs.Small.{small_good}
use Rattle.removals.specs.Stages.{Stage, stage_size, anew_vertices, anew_polygons, anew_scratch, plain, vertices_tidy, vertices_read, marks_read, polygons_within, polygons_read, polygons_tidy, scratch_read}

-- ---- a mesh that stands

module _ {w : List ℕ} {s : Site} {n : Counts} {nvp : ℕ} (r : Stands w s n nvp) where
  pub stands_small : Every Small no_polygon (mesh_at w s n).polygons
  stands_small = small_good r.most r.sound.good

  pub stands_long : All Long (mesh_at w s n).polygons
  stands_long = all_imp (λ p (g : Good (Below (length (mesh_at w s n).vertices)) nvp p). g.long) r.sound.good

  pub stands_few : n.polygons ≤ s.t
  stands_few = omega (arith, polygons_few stands_long, r.spares, length_polygons w s.polygons n.polygons)

  pub stands_stage : Stage w s w (vertex_records (mesh_at w s n).vertices (mesh_at w s n).marks) (polygon_records (mesh_at w s n).polygons) []
  unfolding mesh_in
  stands_stage = record {
    is = r.is;
    vertices = omega (arith, length_vertex_records (mesh_at w s n).vertices (mesh_at w s n).marks, length_vertices w s.vertices n.vertices, r.vertices);
    polygons = omega (arith, length_records (mesh_at w s n).polygons stands_small, length_polygons w s.polygons n.polygons, stands_few);
    scratch = omega arith;
  }

-- ---- the steps

module _ {w : List ℕ} {s : Site} {n : Counts} {nvp rem : ℕ} (r : RemoveReady w s n nvp rem) where
  vs : List Vertex
  vs = vertices_at w s.vertices n.vertices

  ms : List ℕ
  ms = marks_at w s.vertices n.vertices

  ps : List Polygon
  ps = polygons_at w s.polygons n.polygons

  ss : List Side
  unfolding ps
  ss = sides_left rem ps

  f : Fits w s
  f = r.stands.fits

  -- no more sides than polygons have room
  few : length ss ≤ s.t
  unfolding ss ps
  few = omega (arith, sides_few rem (polygons_at w s.polygons n.polygons) (stands_long r.stands) r.may.once, r.stands.spares)

  many : 2 < length ss
  unfolding ss ps
  many = r.may.many

  pub collect_ready : CollectReady w s.polygons n.polygons s.scratch rem
  unfolding ss ps
  collect_ready = record {
    behind = omega (arith, f.polygons, stands_few r.stands);
    small = stands_small r.stands;
    room = omega (arith, few, f.scratch);
  }

  module _ {u₁ : List ℕ} {k : ℕ} (c : Collected w u₁ s.polygons n.polygons s.scratch rem k) where
    -- the walk has room
    pub walk_fits : s.scratch + walk_size k ≤ length w
    unfolding ss ps
    walk_fits = omega (arith, few, many, c.count, f.scratch)

    stage₁ : Stage w s u₁ (vertex_records vs ms) (polygon_records ps) (side_records ss)
    unfolding vs ms ps ss
    stage₁ =
        let l = fixed_length side_fixed ss in
        anew_scratch f (stands_stage r.stands) (side_records ss) 0 (plain w s.scratch (side_records ss) c.is) (omega arith) (omega (arith, few))

    count₁ : length ps ≡ n.polygons
    unfolding ps
    count₁ = length_polygons w s.polygons n.polygons

    small₁ : Every Small no_polygon ps
    unfolding ps
    small₁ = stands_small r.stands

    read₁ : polygons_at u₁ s.polygons n.polygons ≡ ps
    read₁ = polygons_read f ps stage₁ n.polygons count₁ small₁

    pub clear_ready : ClearReady u₁ s.polygons n.polygons
    clear_ready = record {
      standing = record { fits = polygons_within f ps stage₁ n.polygons count₁ small₁; small = rw read₁ small₁ };
      tidy = polygons_tidy f ps stage₁ n.polygons count₁ small₁;
    }

    module _ {u₂ : List ℕ} {left : ℕ} (d : ClearedTo u₁ u₂ s.polygons n.polygons rem left) where
      pl : List Polygon
      unfolding ps
      pl = polygons_left rem ps

      bs : List Polygon
      bs = pl ++ replicate (n.polygons - left) no_polygon

      long₂ : length pl ≡ left
      unfolding pl
      long₂ = ap (λ (l : List Polygon). length (polygons_left rem l)) (sym read₁) ∙ d.left.long

      small₂ : Every Small no_polygon bs
      unfolding pl bs
      small₂ = every_append Small no_polygon (polygons_left rem ps) _ (rw read₁ at d.left.small) (blanks_small (n.polygons - left))

      size₂ : length (polygon_records bs) ≡ n.polygons * polygon_size
      unfolding bs
      size₂ = length_records bs small₂ ∙ ap (λ (k : ℕ). k * polygon_size) (simp (length-append, length-replicate) (omega (arith, long₂, d.left.within)))

      stage₂ : Stage w s u₂ (vertex_records vs ms) (polygon_records bs) (side_records ss)
      unfolding pl bs
      stage₂ =
          anew_polygons f stage₁ (polygon_records bs) 0 (plain u₁ s.polygons (polygon_records bs) (rw read₁ at d.left.is))
          (omega (arith, size₂, length_records ps small₁, count₁)) (omega (arith, size₂, stands_few r.stands))

      count₂ : length vs ≡ n.vertices
      unfolding vs
      count₂ = length_vertices w s.vertices n.vertices

      marks₂ : length ms ≡ n.vertices
      unfolding ms
      marks₂ = length_marks w s.vertices n.vertices

      pub record_ready : TidyVertices u₂ s.vertices n.vertices × (rem < n.vertices)
      record_ready = (vertices_tidy f vs ms stage₂ n.vertices count₂ marks₂, r.below)

      module _ {u₃ : List ℕ}
          (g : u₃ ≡ splice u₂ s.vertices (vertex_records (without (vertices_at u₂ s.vertices n.vertices) rem) (without (marks_at u₂ s.vertices n.vertices) rem) ++ replicate vertex_size 0)) where
        vs' : List Vertex
        unfolding vs
        vs' = without vs rem

        ms' : List ℕ
        unfolding ms
        ms' = without ms rem

        count₃ : length vs' ≡ n.vertices - 1
        unfolding vs'
        count₃ = length_without vs rem (rw count₂ r.below) ∙ rw count₂

        stage₃ : Stage w s u₃ (vertex_records vs' ms') (polygon_records bs) (side_records ss)
        unfolding vs' ms'
        stage₃ =
            let e = vertices_read f vs ms stage₂ n.vertices count₂ in
            let h = marks_read f vs ms stage₂ n.vertices count₂ marks₂ in
            let l = length_vertex_records vs ms in
            let k = length_vertex_records vs' ms' in
            anew_vertices f stage₂ (vertex_records vs' ms') vertex_size (rw (e, h) at g)
            (omega (arith, count₂, count₃, r.below)) (omega (arith, count₂, count₃, r.below, r.stands.vertices))

        read₃ : sides_at u₃ s.scratch k ≡ ss
        unfolding ss ps
        read₃ = scratch_read side_fixed f ss stage₃ k (sym c.count)

        pub walk_ready : {e : ℕ} → e ≡ s.scratch + walk_size k → WalkReady u₃ s.scratch e k
        unfolding ss ps
        walk_ready q = record {
          some = omega (arith, many, c.count);
          room = omega arith;
          fits = omega (arith, few, many, c.count, stage_size f stage₃, f.scratch);
        }

        module _ {u₄ : List ℕ} {e : ℕ} {t : Walked} (q : e ≡ s.scratch + walk_size k) (h : WalkedTo u₃ u₄ s.scratch e k t) where
          chain : List ChainPoint
          unfolding ss
          chain = (walk ss).chain

          counts : length chain + length (walk ss).rest ≡ suc (length ss)
          unfolding chain
          counts = walk_counts ss (omega (arith, many))

          used : length (walk ss).rest ≡ 0
          unfolding ss ps
          used = r.may.used

          total : k ≡ length ss
          unfolding ss ps
          total = c.count

          points : t.points ≡ length chain
          unfolding chain
          points = h.points ∙ rw read₃

          stage₄ : Stage w s u₄ (vertex_records vs' ms') (polygon_records bs) (point_records chain)
          unfolding chain
          stage₄ =
              let l = fixed_length point_fixed chain in
              let j = fixed_length side_fixed ss in
              anew_scratch f stage₃ (point_records chain) (e - s.scratch - length chain * point_size) (rw read₃ at h.is)
              (omega (arith, counts, total)) (omega (arith, counts, total, few, many))

          read₄ : points_at u₄ s.scratch t.points ≡ chain
          read₄ = scratch_read point_fixed f chain stage₄ t.points (sym points)

          pub close_ready : (0 < t.points) × (s.scratch + t.points * point_size ≤ length u₄)
          close_ready =
              let l = fixed_length point_fixed chain in
              (rw points (omega (arith, counts, many, used)), omega (arith, points, stage₄.scratch, stage_size f stage₄, f.scratch))

          module _ {u₅ : List ℕ} {m : ℕ} (x : ClosedTo u₄ u₅ s.scratch t.points m) where
            stage₅ : Stage w s u₅ (vertex_records vs' ms') (polygon_records bs) (point_records (hole_of chain))
            stage₅ =
                let l = fixed_length point_fixed chain in
                let j = fixed_length point_fixed (hole_of chain) in
                let y = rw read₄ at x.count in
                anew_scratch f stage₄ (point_records (hole_of chain)) ((t.points - m) * point_size) (rw read₄ at x.is)
                (omega (arith, points, x.fewer)) (omega (arith, points, x.fewer, stage₄.scratch))

            pub opened : OpenedTo w u₅ s n rem (record { left = left; points = m })
            unfolding opened_in hole_around vs ms ps ss pl bs vs' ms' chain
            opened = record {
              left = sym long₂;
              points = x.count ∙ rw read₄;
              is = stage₅.is ∙ rw (count₁, long₂);
              fewer = d.left.within;
            }
