-- A mesh becomes a file: each way out with its reply and the bytes that it leaves, and what a sound mesh gives those who write it. Assumes nothing.
use Rattle.std.specs.Prelude.{Result, Ok, Err, ⊤}
use mathlib.Core.Path.{◌≡◌, refl, sym, ap, ◌∙◌}
use mathlib.Core.Bool.{Bool, true, false, ◌&&◌, cond}
use mathlib.Core.List.{List, ◌++◌}
use Prim.Native.Nat.{ℕ, ◌+◌, ◌*◌, ◌/◌, ◌≤◌, ◌<◌}
use native.Mathlib.Omega.{arith}
use borrow.Author.Tests.{le-leb, lt-leb}
use lib.Dec.{T}
use lib.Ieee.{Float}
use lib.ListN.{length, get_or, replicate}
use Rattle.ints.specs.Bools.{and_left, and_right}
use Rattle.mem.specs.Slice.{splice}
use Rattle.rules.specs.Checks.{vertex_stride}
use Rattle.rules.specs.Exits.{stored_polygon, decoded}
use Rattle.rules.specs.Units.{size_in, millimetres}
use Rattle.rules.specs.Handed.{Handed, vertex_count, polygon_count, mesh_in, corners_at, soundness, Consistent}
use Rattle.rules.specs.Stl.{Scale, size_of, height_of, is_length, is_scale, facets_of, facet_count, little, file_of, file_length}
use Rattle.rules.specs.StlCall.{mesh_facets, mesh_count, mesh_file, room_reply, stl_reply, stl_left, stl_exit}
use Rattle.rules.specs.declared.Fault.{Fault}
use Rattle.rules.specs.declared.StlRefusal.{StlRefusal}
use Rattle.rules.specs.declared.StlRefusal.TheVariants.{BadMesh, BadScale, ShortFile}
use Rattle.laws.proofs.Handed.{sound_exactly}
use Rattle.laws.proofs.HandedWords.{corners_read, corner_read}
use Rattle.laws.proofs.Stl.{file_is_long}
use Rattle.laws.proofs.StlWords.{file_written}
use Rattle.laws.proofs.StlCall.{sound_reply, broken_reply}
use Rattle.lines.specs.Print.{Printed}
use Rattle.checker.specs.Asked.{handed_in}
use Rattle.stored.specs.Stored.{lent_of, stored_vertices}
use Rattle.stl.specs.Steps.{scale_in, vertices_in, polygons_in, facets_bytes, count_of, file_in, FacetsReady, MeshSound, FileReady}
use Rattle.stl.proofs.Fanning.{row_at}

-- ---- the file of a sound mesh: n facets were counted

module _ {size height : Float} {nvp : ℕ} {vs ps : List ℕ} (file : List ℕ) (g : FileReady size height nvp vs ps) {n : ℕ}
    (e : n ≡ facet_count (polygons_in nvp (length ps / nvp) ps)) where
  abbrev reply : Result ℕ StlRefusal
  reply = room_reply (count_of nvp ps) (length file)

  pub file_short : length file < 84 + n * 50 → (Err ShortFile ≡ reply) × (file ≡ stl_left (file_in size height nvp vs ps) file (Err ShortFile))
  unfolding room_reply file_length count_of stl_left
  file_short h = (rw (← e, lt-leb (84 + n * 50) (length file) h) refl, refl)

  bytes_long : length (facets_bytes size height nvp (length ps / nvp) vs ps) ≡ n * 50
  unfolding facets_bytes file_of file_length little
  bytes_long = omega (arith, e, (file_is_long size height (vertices_in vs) (polygons_in nvp (length ps / nvp) ps)).1)

  pub facets_ready : {w : List ℕ} → 84 + n * 50 ≤ length file → length w ≡ length file → FacetsReady size height nvp (length ps / nvp) vs ps w 84
  facets_ready h q = record {
    size_length = g.size_length;
    height_length = g.height_length;
    count = g.sound.count;
    inside = g.sound.inside;
    room = omega (arith, bytes_long);
  }

  pub file_put : {w x : List ℕ} {r : ℕ} → 84 + n * 50 ≤ length file → w ≡ splice file 0 (replicate 80 0 ++ little n)
      → Printed (facets_bytes size height nvp (length ps / nvp) vs ps) w x 84 r
      → (Ok n ≡ reply) × (x ≡ stl_left (file_in size height nvp vs ps) file (Ok n))
  unfolding room_reply file_length count_of stl_left file_in facets_bytes
  file_put {w} {x} {r} h q p =
      let fs = facets_of size height (vertices_in vs) (polygons_in nvp (length ps / nvp) ps) in
      let m : n ≡ length fs = e ∙ sym (file_is_long size height (vertices_in vs) (polygons_in nvp (length ps / nvp) ps)).0 in
      (rw (← e, le-leb (84 + n * 50) (length file) h) refl, file_written file n fs m q p.text)

-- ---- 70

truth : {b : Bool} → b ≡ true → T b
truth e = rw e tt

-- size and height in millimetres, and whether each is a length
pub record Measured (inches : Bool) (size height across up : Float) (a b : Bool) : Type 0 where
  pub across_is : across ≡ millimetres (size_in inches size)
  pub up_is : up ≡ millimetres (size_in inches height)
  pub a_is : a ≡ is_length across
  pub b_is : b ≡ is_length up

module _ {inches : Bool} {size height across up : Float} {a b : Bool} (m : Measured inches size height across up a b) where
  scale_is : (a && b) ≡ is_scale (scale_in inches size height)
  unfolding is_scale size_of height_of
  scale_is = rw (m.a_is, m.b_is, m.across_is, m.up_is) refl

  pub file_ready : {nvp : ℕ} {vs ps : List ℕ} → (a && b) ≡ true → MeshSound nvp vs ps → FileReady across up nvp vs ps
  file_ready t g = record {
    size_length = truth (sym m.a_is ∙ and_left a b t);
    height_length = truth (sym m.b_is ∙ and_right a b t);
    sound = g;
  }

  module _ (nvp : ℕ) (vs ps file : List ℕ) where
    abbrev sound_answer : Result ℕ StlRefusal
    sound_answer = cond (is_scale (scale_in inches size height)) (room_reply (count_of nvp ps) (length file)) (Err BadScale)

    abbrev sound_left : Result ℕ StlRefusal → List ℕ
    sound_left r = let s = scale_in inches size height in stl_left (file_in (size_of s) (height_of s) nvp vs ps) file r

    pub scale_passes : {r : Result ℕ StlRefusal} {x : List ℕ} → (a && b) ≡ true
        → (r ≡ room_reply (count_of nvp ps) (length file)) × (x ≡ stl_left (file_in across up nvp vs ps) file r) → (r ≡ sound_answer) × (x ≡ sound_left r)
    unfolding size_of height_of
    scale_passes t p = (rw (sym scale_is ∙ t) p.0, rw (← m.across_is, ← m.up_is) p.1)

    pub scale_fails : (a && b) ≡ false → (Err BadScale ≡ sound_answer) × (file ≡ sound_left (Err BadScale))
    unfolding stl_left
    scale_fails t = (rw (sym scale_is ∙ t) refl, refl)

-- ---- a mesh that is handed in

module _ (nvp : ℕ) (vs ps ls : List ℕ) where
  abbrev mesh : Handed
  mesh = handed_in nvp vs ps ls

  count_is : mesh_count mesh ≡ count_of nvp ps
  unfolding mesh_count count_of mesh_in decoded polygon_count polygons_in stored_polygon lent_of
  count_is = refl

  file_is : (s : Scale) → mesh_file mesh s ≡ file_in (size_of s) (height_of s) nvp vs ps
  unfolding mesh_file mesh_facets file_in mesh_in decoded polygon_count vertex_count polygons_in stored_polygon lent_of stored_vertices
  file_is s = refl

  -- t is what 40 to 42 say of it
  module _ {t : Result ⊤ Fault} (t_is : t ≡ soundness mesh) where
    pub mesh_sound : t ≡ (Ok tt) → MeshSound nvp vs ps
    unfolding polygon_count vertex_count
    mesh_sound e =
        let c : Consistent mesh = (sound_exactly mesh).0 (sym t_is ∙ e) in
        let b = c.buffers in
        record {
          count = record {
            most = b.nvp_high;
            few = b.few_polygons;
            words = omega (arith, b.polygons);
            long = λ i h. rw (corners_read mesh i h) at (c.corners i h).long;
          };
          low = b.nvp_low;
          inside = λ i k h l.
              let q : k < length (corners_at (mesh_in mesh) i) = rw (corners_read mesh i h) l in
              let w : get_or (row_at nvp ps i) k 0 < length vs / vertex_stride =
              rw (← corners_read mesh i h, corner_read mesh i k h q) ((c.corners i h).inside k q) in w;
        }

    module _ (s : Scale) (file : List ℕ) where
      left_so : {r : Result ℕ StlRefusal} {x : List ℕ} → r ≡ stl_reply mesh s (length file) → x ≡ stl_left (mesh_file mesh s) file r
          → (r ≡ stl_reply mesh s (length file)) × (x ≡ stl_exit mesh s file)
      unfolding stl_exit
      left_so e f = (e, f ∙ ap (stl_left (mesh_file mesh s) file) e)

      pub sound_written : {r : Result ℕ StlRefusal} {x : List ℕ} → t ≡ (Ok tt)
          → (r ≡ cond (is_scale s) (room_reply (count_of nvp ps) (length file)) (Err BadScale))
          × (x ≡ stl_left (file_in (size_of s) (height_of s) nvp vs ps) file r)
          → (r ≡ stl_reply mesh s (length file)) × (x ≡ stl_exit mesh s file)
      sound_written {r} {x} e p =
          left_so
          (p.0 ∙ ap (λ (n : ℕ). cond (is_scale s) (room_reply n (length file)) (Err BadScale)) (sym count_is)
          ∙ sym (sound_reply mesh s (length file) (sym t_is ∙ e)))
          (p.1 ∙ ap (λ (l : List ℕ). stl_left l file r) (sym (file_is s)))

      pub broken_refused : {f : Fault} → t ≡ Err f → (Err (BadMesh f) ≡ stl_reply mesh s (length file)) × (file ≡ stl_exit mesh s file)
      unfolding stl_left
      broken_refused {f} e = left_so (sym (broken_reply mesh s (length file) f (sym t_is ∙ e))) refl
