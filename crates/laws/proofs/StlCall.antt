-- Request 11, what `rules` states in its file `StlCall`: 71 is given exactly when the file needs more bytes than are lent, and what was written reads back.
-- Assumes nothing.
-- Key: `short_exactly`, `written_reads_back`; `sound_reply`, `broken_reply`: the reply by what 40 to 42 say, for code that goes on behind them.
use Rattle.std.specs.Prelude.{◌≡◌, cond, ℕ, ◌≤◌, ◌<◌, Result, Ok, Err, ⊤}
use Rattle.std.proofs.Math.Path.{refl}
use Rattle.std.proofs.Common.{sym, ap, ◌∙◌, arith, le-leb}
use Rattle.std.proofs.Math.Logic.{⊎_elim}
use Rattle.std.proofs.lemmas.Bool.{lt-leb}
use Rattle.std.proofs.Math.ListN.{length, get_or-eq_default}
use Rattle.mem.specs.Cases.{lt_or_le}
use Rattle.mem.specs.Tab.{length_tab}
use Rattle.rules.specs.Mesh.{Polygon, no_polygon, polygon_at}
use Rattle.rules.specs.Exits.{stored_polygon, decoded}
use Rattle.rules.specs.Handed.{Handed, polygon_count, buffers_of, mesh_in, soundness, Consistent}
use Rattle.rules.specs.Stl.{Scale, is_scale, size_of, height_of, file_length}
use Rattle.rules.specs.StlCall.{mesh_facets, mesh_count, mesh_file, room_reply, stl_reply, ShortExactly, WrittenReadsBack}
use Rattle.rules.specs.declared.Fault.{Fault}
use Rattle.rules.specs.declared.StlRefusal.TheVariants.{BadMesh, BadScale, ShortFile}
use Rattle.laws.proofs.Handed.{sound_exactly}
use Rattle.laws.proofs.HandedWords.{corners_few}
use Rattle.laws.proofs.Stl.{file_is_long, mesh_reads_back, count_fits}

-- ---- the reply, by what 40 to 42 say

module _ (m : Handed) (s : Scale) (room : ℕ) where
  pub sound_reply : soundness m ≡ (Ok tt) → stl_reply m s room ≡ cond (is_scale s) (room_reply (mesh_count m) room) (Err BadScale)
  unfolding stl_reply
  sound_reply e = rw (e, stl_reply) refl

  pub broken_reply : (f : Fault) → soundness m ≡ Err f → stl_reply m s room ≡ Err (BadMesh f)
  unfolding stl_reply
  broken_reply f e = rw (e, stl_reply) refl

-- ---- 71

module _ (n room : ℕ) where
  pub fits_written : file_length n ≤ room → room_reply n room ≡ Ok n
  unfolding room_reply
  fits_written h = rw (le-leb (file_length n) room h) refl

  short_refused : room < file_length n → room_reply n room ≡ Err ShortFile
  unfolding room_reply
  short_refused h = rw (lt-leb (file_length n) room h) refl

  refused_short : room_reply n room ≡ Err ShortFile → room < file_length n
  refused_short e = ⊎_elim
      (λ (h : room < file_length n). h)
      (λ (h : file_length n ≤ room). let w = sym (fits_written h) ∙ e in let z : ◌≡◌ {A = ℕ} 0 1 = cc in absurd (omega arith))
      (lt_or_le room (file_length n))

pub mesh_file_long : (m : Handed) (s : Scale) → length (mesh_file m s) ≡ file_length (mesh_count m)
unfolding mesh_file mesh_facets mesh_count
mesh_file_long m s = (file_is_long (size_of s) (height_of s) (mesh_in m).vertices (mesh_in m).polygons).1

pub short_exactly : ShortExactly
short_exactly m s room sound scale =
    let r : stl_reply m s room ≡ room_reply (mesh_count m) room = sound_reply m s room sound ∙ rw scale refl in (
      λ e. rw (mesh_file_long m s) (refused_short (mesh_count m) room (sym r ∙ e)),
      λ h. r ∙ short_refused (mesh_count m) room (rw (mesh_file_long m s) at h),
    )

-- ---- what was written reads back

pub written_sound : (m : Handed) (s : Scale) (room n : ℕ) → stl_reply m s room ≡ Ok n → soundness m ≡ (Ok tt)
written_sound m s room n e = go (soundness m) refl
  where
    go : (t : Result ⊤ Fault) → soundness m ≡ t → soundness m ≡ (Ok tt)
    go (Ok _) q = q
    go (Err f) q = let w = sym (broken_reply m s room f q) ∙ e in let z : ◌≡◌ {A = ℕ} 0 1 = cc in absurd (omega arith)

module _ (m : Handed) (c : Consistent m) where
  polygons_few : length (mesh_in m).polygons ≤ 65535
  unfolding mesh_in decoded
  polygons_few = rw (length_tab (stored_polygon m.nvp (buffers_of m)) (polygon_count m)) c.buffers.few_polygons

  twelve : (i : ℕ) → length (polygon_at (mesh_in m).polygons i).corners ≤ 12
  unfolding mesh_in decoded
  twelve i = ⊎_elim
      (λ (h : i < polygon_count m). omega (arith, corners_few m i h, c.buffers.nvp_high))
      (λ (h : polygon_count m ≤ i).
      let past : length (mesh_in m).polygons ≤ i = rw (length_tab (stored_polygon m.nvp (buffers_of m)) (polygon_count m)) h in
      rw (ap (λ (p : Polygon). length p.corners) (get_or-eq_default (mesh_in m).polygons no_polygon past)) (omega arith))
      (lt_or_le i (polygon_count m))

  pub mesh_count_fits : mesh_count m ≤ 655350
  unfolding mesh_count
  mesh_count_fits = count_fits (mesh_in m).polygons polygons_few twelve

pub written_reads_back : WrittenReadsBack
unfolding mesh_file mesh_facets mesh_count
written_reads_back m s room n e =
    let c : Consistent m = (sound_exactly m).0 (written_sound m s room n e) in
    mesh_reads_back (size_of s) (height_of s) (mesh_in m).vertices (mesh_in m).polygons (omega (arith, mesh_count_fits m c))
