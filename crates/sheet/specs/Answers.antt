-- What the build's answer and its buffers at exit say of the mesh: the stored mesh is the rules' mesh, and it is ready to be printed. Assumes nothing.
-- Key: `refused_text_lem`, `built_text_lem`: what is printed, by the build's reply; `text_room`: there is room for it.
use Rattle.std.specs.Prelude.{◌≡◌, refl, List, [], ◌∷◌, ◌++◌, ℕ, ◌+◌, ◌*◌, ◌≤◌, ◌<◌, length, Ok, Err}
use Rattle.std.proofs.Math.Path.{sym, ap}
use Rattle.std.proofs.Common.{◌∙◌, append_assoc, mul-le-mul_right, mul-le-mul_left}
use Rattle.std.proofs.Math.Nat.{le_trans}
use native.Mathlib.Omega.{arith}
use Rattle.std.proofs.Math.ListN.{get_or}
use Rattle.mem.specs.Slice.{view, get_or_view}
use Rattle.mem.specs.Tab.{get_or_tab}
use Rattle.rules.specs.Plane.{InGrid, on_plane}
use Rattle.rules.specs.Weld.{no_vertex}
use Rattle.rules.specs.Mesh.{Polygon, polygon_at, no_polygon, Mesh}
use Rattle.rules.specs.Lines.{number_line}
use Rattle.rules.specs.Job.{count_all}
use Rattle.rules.specs.Checks.{Lent, vertex_stride, lengths_of}
use Rattle.rules.specs.Replies.{as_built, refusal_number, refusal_second}
use Rattle.rules.specs.Build.{outcome, reply_of, answer}
use Rattle.rules.specs.Exits.{exits, Stored, vertex_of, up_to_none, stored_polygon, stored_links, decoded}
use Rattle.rules.specs.Sheet.{declared_most, Sheet, cell_name, outcome_of, refused_text, unit_line, mesh_text, built_text}
use Rattle.rules.specs.declared.Header.{Header}
use Rattle.rules.specs.declared.Answer.{Answer}
use Rattle.rules.specs.declared.Refusal.{Refusal}
use Rattle.laws.proofs.Lists.{all_at}
use Rattle.laws.specs.Removal.{Sound}
use Rattle.laws.proofs.Exits.{reads_back}
use Rattle.laws.proofs.Checks.{T-below-V, V-below-all}
use Rattle.laws.proofs.Build.{bounded}
use Rattle.laws.proofs.Reached.{built_passed}
use Rattle.laws.specs.Replies.{WasBuilt}
use Rattle.laws.proofs.Replies.{was_refused, was_built}
use Rattle.stored.specs.Stored.{lent_of, MeshReady}
use Rattle.sheet.specs.Rows.{top_text}
use Rattle.sheet.specs.Enough.{sheet_lengths, sheet_enough}
use Rattle.sheet.specs.Room.{out_most, built_room}

-- ---- the stored mesh

-- a mesh as it is stored
abbrev pub stored_of : Mesh → List (List ℕ) → Stored
stored_of m ls = record { vertices = m.vertices; polygons = m.polygons; links = ls }

-- five of the seven buffers hold it
pub decoded_five : (nvp n k : ℕ) (b : Lent) → decoded nvp n k b ≡ decoded nvp n k (lent_of b.vertices b.polygons b.neighbours b.regions b.codes)
unfolding decoded lent_of stored_polygon stored_links
decoded_five nvp n k b = refl

-- vertices on the grid, and polygons of at most 12 corners over them
module _ (nvp n k : ℕ) (vs ps ks rs cs : List ℕ) (m : Mesh) (ls : List (List ℕ))
    (is : decoded nvp n k (lent_of vs ps ks rs cs) ≡ stored_of m ls) (polygons : n ≡ length m.polygons) (vertices : k ≡ length m.vertices) (sound : Sound nvp m) where
  vertex_is : (v : ℕ) → v < k → vertex_of (view vs (v * vertex_stride) vertex_stride) ≡ get_or m.vertices v no_vertex
  unfolding decoded lent_of
  vertex_is v h =
      sym (get_or_tab (λ i. vertex_of (view vs (i * vertex_stride) vertex_stride)) k v no_vertex h) ∙ ap (λ (s : Stored). get_or s.vertices v no_vertex) is

  on_grid : (v : ℕ) → v < k → InGrid (on_plane (vertex_of (view vs (v * vertex_stride) vertex_stride)))
  on_grid v h = rw (vertex_is v h) (all_at sound.grid v no_vertex (rw (← vertices) h))

  x_small : (v : ℕ) → v < k → get_or vs (v * vertex_stride) 0 ≤ 32767
  unfolding vertex_of
  x_small v h =
      let e : v * vertex_stride + 0 ≡ v * vertex_stride = omega arith in
      rw (← e, ← get_or_view vs (v * vertex_stride) vertex_stride 0 0 (omega arith)) (on_grid v h).x_small

  z_small : (v : ℕ) → v < k → get_or vs (v * vertex_stride + 2) 0 ≤ 32767
  unfolding vertex_of
  z_small v h = rw (← get_or_view vs (v * vertex_stride) vertex_stride 2 0 (omega arith)) (on_grid v h).z_small

  polygon_is : (i : ℕ) → i < n → up_to_none (view ps (i * nvp) nvp) ≡ (polygon_at m.polygons i).corners
  unfolding decoded lent_of stored_polygon
  polygon_is i h =
      ap (λ (p : Polygon). p.corners)
      (sym (get_or_tab (stored_polygon nvp (lent_of vs ps ks rs cs)) n i no_polygon h) ∙ ap (λ (s : Stored). get_or s.polygons i no_polygon) is)

  corner_below : (i c : ℕ) → i < n → c < length (up_to_none (view ps (i * nvp) nvp)) → get_or (up_to_none (view ps (i * nvp) nvp)) c 0 < k
  corner_below i c h a =
      rw (polygon_is i h, vertices) (all_at (all_at sound.good i no_polygon (rw (← polygons) h)).inside c 0 (rw (polygon_is i h) at a))

  pub mesh_ready : nvp ≤ 12 → n ≤ 96 → k ≤ 96 → length ps ≡ 1152 → length vs ≡ 288 → MeshReady nvp n k vs ps
  mesh_ready few a b p v = record {
    most = few;
    few = omega arith;
    polygons = rw p (le_trans (mul-le-mul_right nvp a) (mul-le-mul_left 96 few));
    vertices = rw v (omega arith);
    corners = corner_below;
    x = x_small;
    z = z_small;
  }

-- ---- the text

-- what a call of the build says: q is its answer and u what its buffers hold at the end
pub record Called (s : Sheet) (x : Header) (b : Lent) (q : Answer) (u : Lent) : Type 0 where
  pub answered : q ≡ answer x s.job b
  pub left : u ≡ exits s.job b
  pub long : lengths_of b ≡ sheet_lengths
  pub few : count_all s.job ≤ declared_most

module _ {s : Sheet} {x : Header} {b : Lent} {q : Answer} {u : Lent} (c : Called s x b q u) where
  pub came_to : outcome_of s.job ≡ outcome s.job b
  came_to = sym (sheet_enough s.job b c.long c.few)

  pub replied : q.reply ≡ reply_of (outcome s.job b)
  unfolding answer
  replied = ap (λ (a : Answer). a.reply) c.answered

  -- there is room for all of it
  pub text_room : length (built_text s (outcome_of s.job)) ≤ out_most
  text_room = rw came_to (built_room s b (outcome s.job b) refl c.few)

  pub refused_text_lem : (r : Refusal) → q.reply ≡ Err r → built_text s (outcome_of s.job) ≡ refused_text (refusal_number r) (refusal_second r)
  unfolding built_text
  refused_text_lem r e = ap (built_text s) (came_to ∙ was_refused (outcome s.job b) r (sym e ∙ replied))

  -- the mesh that stands in the buffers
  pub record BuiltText (n k : ℕ) : Type 0 where
    pub text : built_text s (outcome_of s.job) ≡ top_text s.inches s.size s.height ++ mesh_text (decoded s.job.nvp n k (lent_of u.vertices u.polygons u.neighbours u.regions u.codes))
    pub polygons : n ≤ 96
    pub vertices : k ≤ 96
    pub most : s.job.nvp ≤ 12
    pub ready : length u.polygons ≡ 1152 → length u.vertices ≡ 288 → MeshReady s.job.nvp n k u.vertices u.polygons

  from_mesh : (n k : ℕ) → WasBuilt (outcome s.job b) n k → BuiltText n k
  unfolding built_text top_text
  from_mesh n k a =
      let j = s.job in
      let m = a.mesh in
      let d = bounded j b m a.links a.log a.is in
      let p = built_passed j m a.links a.log b a.is in
      let v = le_trans (V-below-all j) c.few in
      let nf : n ≤ 96 = rw a.polygons (le_trans d.polygons (le_trans (T-below-V j) v)) in
      let kf : k ≤ 96 = rw a.vertices (le_trans d.vertices v) in
      let is : decoded j.nvp n k (lent_of u.vertices u.polygons u.neighbours u.regions u.codes) ≡ stored_of m a.links =
      sym (decoded_five j.nvp n k u) ∙ rw (a.polygons, a.vertices, c.left) (reads_back j b m a.links a.log a.is) in
      record {
        text = rw (came_to, a.is, is) (sym (append_assoc (unit_line s.inches) (number_line cell_name (s.size ∷ s.height ∷ [])) (mesh_text (stored_of m a.links))));
        polygons = nf;
        vertices = kf;
        most = p.nvp_high;
        ready = λ lp lv. mesh_ready j.nvp n k u.vertices u.polygons u.neighbours u.regions u.codes m a.links is a.polygons a.vertices d.sound
            p.nvp_high nf kf lp lv;
      }

  pub built_text_lem : (n k : ℕ) → q.reply ≡ Ok (as_built n k) → BuiltText n k
  built_text_lem n k e = from_mesh n k (was_built (outcome s.job b) n k (sym e ∙ replied))
