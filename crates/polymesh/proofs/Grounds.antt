-- What the contours leave is what the removals ask for: a mesh that stands at its place, with zeros behind it. Assumes nothing.
-- Key: `ground_stands`, `ground_read`.
use mathlib.Core.Path.{◌≡◌, sym, ap, ◌∙◌}
use mathlib.Core.List.{List, [], append-nil}
use Prim.Native.Nat.{ℕ, ◌+◌, ◌*◌, ◌≤◌}
use native.Mathlib.Nat.{add-zero}
use native.Mathlib.Omega.{arith}
use lib.ListN.{length, replicate, length-replicate}
use Rattle.mem.specs.Slice.{view, splice, length_splice, view_before, view_after, view_around, view_replicate}
use Rattle.mem.specs.Chain.{firsts, nexts, length_firsts, length_nexts}
use Rattle.mem.specs.Shelves.{shelved, shelved_same}
use Rattle.mem.specs.Zeros.{with_zeros, zeros_put, no_words}
use Rattle.rules.specs.Mesh.{Mesh}
use Rattle.records.specs.Layout.{vertex_size, vertex_records, polygon_size, polygon_records}
use Rattle.weld.specs.Tables.{bucket_count, key_of, tabled}
use Rattle.contours.specs.Ground.{ground_in}
use Rattle.removals.specs.Site.{mesh_at, scratch_room, standing, mesh_in, Fits, Stands}
use Rattle.removals.specs.Removing.{counts_of}
use Rattle.removals.specs.Standing.{Suits, size_vertices, size_polygons, mesh_read, stands_of}
use Rattle.polymesh.specs.Layout.{Sized, used_of, polygons_of, scratch_of, ground_of, site_of}

-- words written over zeros
over_zeros : (n : ℕ) (xs : List ℕ) → length xs ≤ n → splice (replicate n 0) 0 xs ≡ with_zeros n xs
over_zeros n xs h =
    ap (λ (l : List ℕ). splice l 0 xs) (sym (no_words n)) ∙ ap (splice (with_zeros n []) 0) (sym (append-nil xs)) ∙ zeros_put n [] [] xs 0 (omega arith) (omega arith)

-- the same in a part of a buffer
part_over : (w : List ℕ) (a n : ℕ) (xs : List ℕ) → view w a n ≡ replicate n 0 → length xs ≤ n → view (splice w a xs) a n ≡ with_zeros n xs
part_over w a n xs z h =
    ap (λ (j : ℕ). view (splice w j xs) a n) (sym (add-zero a)) ∙ view_around w a 0 n xs (omega arith) ∙ ap (λ (l : List ℕ). splice l 0 xs) z ∙ over_zeros n xs h

module _ {v t nvp : ℕ} (z : Sized v t) {m : Mesh} (k : Suits (site_of v t) nvp m) {u : List ℕ} (e : u ≡ ground_in (used_of v t) (ground_of v t) m) where
  blank : List ℕ
  blank = replicate (used_of v t) 0

  F : List ℕ
  F = firsts (key_of m.vertices) bucket_count (length m.vertices)

  R : List ℕ
  R = vertex_records m.vertices m.marks

  N : List ℕ
  N = nexts (key_of m.vertices) (length m.vertices)

  P : List ℕ
  P = polygon_records m.polygons

  long_F : length F ≡ bucket_count
  unfolding F
  long_F = length_firsts (key_of m.vertices) bucket_count (length m.vertices)

  long_R : length R ≤ v * vertex_size
  unfolding R
  long_R = size_vertices k

  long_N : length N ≡ length m.vertices
  unfolding N
  long_N = length_nexts (key_of m.vertices) bucket_count (length m.vertices)

  long_P : length P ≤ t * polygon_size
  unfolding P
  long_P = size_polygons k

  -- the buffer, part by part
  is : u ≡ splice (splice (splice (splice blank 0 F) 4096 R) (4096 + 5 * v) N) (polygons_of v) P
  unfolding ground_in tabled shelved blank F R N P
  is = e

  zero_at : (a n : ℕ) → a + n ≤ used_of v t → view blank a n ≡ replicate n 0
  unfolding blank
  zero_at a n h = view_replicate (used_of v t) a n 0 h

  in_vertices : view u 4096 (v * vertex_size) ≡ with_zeros (v * vertex_size) R
  in_vertices =
      ap (λ (l : List ℕ). view l 4096 (v * vertex_size)) is
      ∙ view_before _ (polygons_of v) 4096 (v * vertex_size) P (omega arith)
      ∙ view_before _ (4096 + 5 * v) 4096 (v * vertex_size) N (omega arith)
      ∙ part_over (splice blank 0 F) 4096 (v * vertex_size) R (view_after blank 0 4096 (v * vertex_size) F (omega (arith, long_F)) ∙ zero_at 4096 (v * vertex_size) (omega arith)) long_R

  tables : List ℕ
  tables = splice (splice (splice blank 0 F) 4096 R) (4096 + 5 * v) N

  -- behind the tables there are zeros
  behind : (a n : ℕ) → polygons_of v ≤ a → a + n ≤ used_of v t → view tables a n ≡ replicate n 0
  unfolding tables
  behind a n h f =
      view_after _ (4096 + 5 * v) a n N (omega (arith, long_N, k.vertices))
      ∙ view_after _ 4096 a n R (omega (arith, long_R))
      ∙ view_after blank 0 a n F (omega (arith, long_F))
      ∙ zero_at a n f

  in_polygons : view u (polygons_of v) (t * polygon_size) ≡ with_zeros (t * polygon_size) P
  unfolding tables
  in_polygons =
      ap (λ (l : List ℕ). view l (polygons_of v) (t * polygon_size)) is
      ∙ part_over tables (polygons_of v) (t * polygon_size) P (behind (polygons_of v) (t * polygon_size) (omega arith) (omega (arith, z.t_most))) long_P

  in_scratch : view u (scratch_of v t) (t * scratch_room) ≡ with_zeros (t * scratch_room) []
  unfolding tables
  in_scratch =
      ap (λ (l : List ℕ). view l (scratch_of v t) (t * scratch_room)) is
      ∙ view_after tables (polygons_of v) (scratch_of v t) (t * scratch_room) P (omega (arith, long_P))
      ∙ behind (scratch_of v t) (t * scratch_room) (omega arith) (omega (arith, z.t_most)) ∙ sym (no_words (t * scratch_room))

  pub ground_size : length u ≡ used_of v t
  unfolding blank
  ground_size = ap length is ∙ simp (length_splice, length-replicate)

  fits : Fits u (site_of v t)
  fits = record { vertices = omega arith; polygons = omega arith; scratch = omega (arith, ground_size, z.t_most) }

  mesh_in_lem : u ≡ mesh_in u (site_of v t) m
  unfolding mesh_in standing R P
  mesh_in_lem = shelved_same u 4096 (v * vertex_size) (polygons_of v) (t * polygon_size) (scratch_of v t) (t * scratch_room) in_vertices in_polygons in_scratch

  pub ground_stands : Stands u (site_of v t) (counts_of m) nvp
  ground_stands = stands_of k fits mesh_in_lem

  pub ground_read : mesh_at u (site_of v t) (counts_of m) ≡ m
  ground_read = mesh_read k fits mesh_in_lem
