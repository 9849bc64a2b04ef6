-- What the contours and the removals come to, case by case. Assumes nothing.
-- Key: `no_ear_in_contour`, `stuck_came`, `left_came`.
use Rattle.std.specs.Prelude.{Ok, Err}
use mathlib.Core.Path.{◌≡◌, refl, sym, ap, subst, ◌∙◌}
use mathlib.Core.List.{List, []}
use Prim.Native.Nat.{ℕ}
use native.Mathlib.Omega.{arith}
use lib.ListN.{length, replicate, length-replicate}
use Rattle.rules.specs.Mesh.{Mesh}
use Rattle.rules.specs.Removal.{Removal, remove_all, removed, stuck_at}
use Rattle.rules.specs.Removal as Rules
use Rattle.rules.specs.Job.{Job, count_v, count_t}
use Rattle.rules.specs.Areas.{job_area}
use Rattle.rules.specs.Build.{Contours, added, no_ear_in, built, linked, cleared, add_all, reply_of}
use Rattle.rules.specs.declared.Refusal.TheVariants.{NoEarInContour, NoEarInHole}
use Rattle.rules.specs.Replies.{as_built}
use Rattle.laws.proofs.Checks.{T-below-V}
use Rattle.laws.specs.Build.{Balanced}
use Rattle.laws.proofs.Build.{all_added, removals, no_refusal}
use Rattle.contours.specs.declared.gather.NoEarIn.{NoEarIn}
use Rattle.contours.specs.declared.ground.Ground.{Ground}
use Rattle.contours.specs.Ground.{ground_in}
use Rattle.contours.specs.Gathering.{GatherReady, no_ear_of, gathered_of, mesh_of}
use Rattle.records.specs.declared.counts.Counts.{Counts}
use Rattle.removals.specs.declared.all.NoEarAt.{NoEarAt}
use Rattle.removals.specs.Site.{mesh_at, mesh_in, Stands}
use Rattle.removals.specs.Removing.{counts_of, no_ear_at, tried_to, mesh_left}
use Rattle.removals.specs.Standing.{Suits, length_in, mesh_read, stands_of}
use Rattle.polymesh.specs.Layout.{Sized, used_of, ground_of, site_of}
use Rattle.polymesh.specs.Gather.{Admitted, Ready, Meshed, comes_to, MeshedTo}
use Rattle.polymesh.proofs.Grounds.{ground_size, ground_stands, ground_read}

-- ---- the contours' answer

-- the mesh m, of n vertices and polygons, came of the contours
record WasMesh (x : Contours) (n : Counts) : Type 0 where
  mesh : Mesh
  is : x ≡ added mesh
  counts : n ≡ counts_of mesh

was_mesh : (x : Contours) (n : Counts) → Ok n ≡ gathered_of x → WasMesh x n
unfolding gathered_of
was_mesh (added m) n e = record { mesh = m; is = refl; counts = cc }
was_mesh (no_ear_in c k) n e = cc

pub was_no_ear : (x : Contours) (i : NoEarIn) → Err i ≡ gathered_of x → x ≡ no_ear_in i.contour i.after
unfolding gathered_of
was_no_ear (added m) i e = cc
was_no_ear (no_ear_in c k) i e = let z : i ≡ no_ear_of c k = cc in sym (ap (λ (y : NoEarIn). no_ear_in y.contour y.after) z)

pub record Came (u : List ℕ) (v t : ℕ) (x : Contours) (n : Counts) : Type 0 where
  pub mesh : Mesh
  pub is : x ≡ added mesh
  pub words : u ≡ ground_in (used_of v t) (ground_of v t) mesh
  pub counts : n ≡ counts_of mesh

-- ---- the removals' answer

record WasLeft (x : Rules.Removals) (n : Counts) : Type 0 where
  mesh : Mesh
  log : List Removal
  is : x ≡ removed mesh log
  counts : n ≡ counts_of mesh

was_left : (x : Rules.Removals) (n : Counts) → Ok n ≡ tried_to x → WasLeft x n
unfolding tried_to
was_left (removed m log) n e = record { mesh = m; log = log; is = refl; counts = cc }
was_left (stuck_at i) n e = cc

was_stuck : (x : Rules.Removals) (i : NoEarAt) → Err i ≡ tried_to x → x ≡ stuck_at i.vertex
unfolding tried_to
was_stuck (removed m log) i e = cc
was_stuck (stuck_at k) i e = let z : i ≡ no_ear_at k = cc in sym (ap (λ (y : NoEarAt). stuck_at y.vertex) z)

-- ---- what a job comes to

pub admitted_sized : {v t : ℕ} {j : Job} → Admitted v t j → Sized v t
admitted_sized {j = j} a = record { v_most = omega (arith, a.vertices, a.passed.few); t_most = omega (arith, a.vertices, a.triangles, T-below-V j) }

module _ {u₀ : List ℕ} {v t : ℕ} {j : Job} (r : Ready u₀ v t j) where
  ready_sized : Sized v t
  ready_sized = admitted_sized r.job

  suits : {m : Mesh} {log : List Removal} → Balanced j.nvp (job_area j) (count_t j) (count_v j) m log → Suits (site_of v t) j.nvp m
  suits b = record {
    sound = b.sound;
    least = r.job.passed.nvp_low;
    most = r.job.passed.nvp_high;
    vertices = omega (arith, b.vertices, r.job.vertices);
    spares = omega (arith, b.spares, r.job.triangles);
    v_few = omega (arith, ready_sized.v_most);
    t_few = omega (arith, ready_sized.v_most, ready_sized.t_most);
  }

  -- the buffer is blank
  pub gather_ready : {u : List ℕ} → u ≡ replicate (length u₀) 0 → GatherReady u (ground_of v t) j
  gather_ready {u} b =
      let l : length u ≡ length u₀ = ap length b ∙ length-replicate {A = ℕ} (length u₀) 0 in
      record {
        blank = b ∙ ap (λ (k : ℕ). replicate k 0) (sym l);
        fits = record {
          buckets = omega arith;
          vertices = omega arith;
          nexts = omega arith;
          polygons = omega arith;
          scratch = omega (arith, l, r.size, ready_sized.t_most);
        };
        ls = r.job.ls;
        passed = r.job.passed;
        v = r.job.vertices;
        t = r.job.triangles;
      }

  -- the mesh m, of nv vertices and np polygons, came of the contours and stands in u₁
  module _ {size : ℕ} {u₁ : List ℕ} {g : Ground} (l : size ≡ length u₀) (p : g ≡ ground_of v t) (d : u₁ ≡ ground_in size g (mesh_of (add_all j))) where
    pub came : {n : Counts} → Ok n ≡ gathered_of (add_all j) → Came u₁ v t (add_all j) n
    unfolding mesh_of
    came {n} a =
        let x = was_mesh (add_all j) n a in
        record {
          mesh = x.mesh;
          is = x.is;
          words = d ∙ ap (λ (y : Contours). ground_in size g (mesh_of y)) x.is ∙ ap (λ (y : Ground). ground_in size y x.mesh) p
              ∙ ap (λ (k : ℕ). ground_in k (ground_of v t) x.mesh) (l ∙ r.size);
          counts = x.counts;
        }

  -- a contour has no ear
  pub no_ear_in_contour : {c k : ℕ} {u : List ℕ} → add_all j ≡ no_ear_in c k → length u ≡ used_of v t → MeshedTo u v t j (Err (NoEarInContour c))
  unfolding cleared reply_of
  no_ear_in_contour {c} e l = record {
    answer = rw e;
    size = l;
    mesh = λ m ls log d. absurd (no_refusal j m ls log (NoEarInContour c) (sym (ap (cleared j) e) ∙ d));
  }

  -- the contours became a mesh
  module _ {m : Mesh} (e : add_all j ≡ added m) {u₁ : List ℕ} (d : u₁ ≡ ground_in (used_of v t) (ground_of v t) m) where
    balanced : Balanced j.nvp (job_area j) (count_t j) (count_v j) m []
    balanced = all_added j r.job.ls m r.job.passed e

    try_ready : {n : Counts} → n ≡ counts_of m → Stands u₁ (site_of v t) n j.nvp
    try_ready q = rw q (ground_stands ready_sized (suits balanced) d)

    try_read : {n : Counts} → n ≡ counts_of m → mesh_at u₁ (site_of v t) n ≡ m
    try_read q = ap (mesh_at u₁ (site_of v t)) q ∙ ground_read ready_sized (suits balanced) d

    long : length u₁ ≡ used_of v t
    long = ground_size ready_sized (suits balanced) d

    module _ {n : Counts} (q : n ≡ counts_of m) {u₂ : List ℕ} (f : u₂ ≡ mesh_in u₁ (site_of v t) (mesh_left (remove_all j.nvp (mesh_at u₁ (site_of v t) n)))) where
      long_now : length u₂ ≡ used_of v t
      long_now = ap length f ∙ length_in u₁ (site_of v t) (mesh_left (remove_all j.nvp (mesh_at u₁ (site_of v t) n))) ∙ long

      -- what it comes to, where x is what the removals come to
      comes : (x : Rules.Removals) → remove_all j.nvp m ≡ x → comes_to j ≡ linked j x
      unfolding cleared
      comes x y = ap (cleared j) e ∙ ap (linked j) y

      -- a hole has no ear
      no_ear_in_hole : {i : NoEarAt} → Err i ≡ tried_to (remove_all j.nvp (mesh_at u₁ (site_of v t) n)) → MeshedTo u₂ v t j (Err (NoEarInHole i.vertex))
      unfolding linked reply_of
      no_ear_in_hole {i} a =
          let y = comes (stuck_at i.vertex) (was_stuck (remove_all j.nvp m) i (rw (try_read q) at a)) in
          record { answer = sym (ap reply_of y); size = long_now; mesh = λ o ls log d. absurd (no_refusal j o ls log (NoEarInHole i.vertex) (sym y ∙ d)) }

      -- all are tried
      module _ {p : Counts} (a : Ok p ≡ tried_to (remove_all j.nvp (mesh_at u₁ (site_of v t) n))) where
        left : WasLeft (remove_all j.nvp m) p
        left = was_left (remove_all j.nvp m) p (rw (try_read q) at a)

        o : Mesh
        o = left.mesh

        left_balanced : Balanced j.nvp (job_area j) (count_t j) (count_v j) o left.log
        unfolding remove_all o
        left_balanced =
            removals (length m.vertices) j.nvp 0 (job_area j) (count_t j) (count_v j) m [] left.mesh left.log r.job.passed.nvp_low
            (omega (arith, r.job.vertices, r.job.triangles, ready_sized.v_most, ready_sized.t_most)) (omega arith) balanced left.is

        left_in : u₂ ≡ mesh_in u₁ (site_of v t) o
        unfolding mesh_left o
        left_in = f ∙ ap (λ (x : Rules.Removals). mesh_in u₁ (site_of v t) (mesh_left x)) (ap (remove_all j.nvp) (try_read q) ∙ left.is)

        left_meshed : Meshed u₂ v t j.nvp o
        left_meshed = record {
          stands = stands_of (suits left_balanced) (try_ready q).fits left_in;
          read = mesh_read (suits left_balanced) (try_ready q).fits left_in;
        }

        same_mesh : (x : Mesh) (ls ks : List (List ℕ)) (log : List Removal) → built o ls left.log ≡ built x ks log → o ≡ x
        same_mesh x ls ks log d = cc

        all_tried : MeshedTo u₂ v t j (Ok (as_built p.polygons p.vertices))
        unfolding linked reply_of o
        all_tried =
            let y = comes (removed left.mesh left.log) left.is in
            record {
              answer = ap (λ (c : Counts). Ok (as_built c.polygons c.vertices)) left.counts ∙ sym (ap reply_of y);
              size = long_now;
              mesh = λ x ks log d. subst (Meshed u₂ v t j.nvp) (same_mesh x _ ks log (sym y ∙ d)) left_meshed;
            }

  -- the same, of a mesh that came of the contours: x says which
  module _ {z : Contours} (y : add_all j ≡ z) {u₁ : List ℕ} {n : Counts} (x : Came u₁ v t z n) where
    pub try_came : Stands u₁ (site_of v t) n j.nvp
    try_came = try_ready (y ∙ x.is) x.words x.counts

    module _ {u₂ : List ℕ} (f : u₂ ≡ mesh_in u₁ (site_of v t) (mesh_left (remove_all j.nvp (mesh_at u₁ (site_of v t) n)))) where
      pub stuck_came : {i : NoEarAt} → Err i ≡ tried_to (remove_all j.nvp (mesh_at u₁ (site_of v t) n)) → MeshedTo u₂ v t j (Err (NoEarInHole i.vertex))
      stuck_came a = no_ear_in_hole (y ∙ x.is) x.words x.counts f a

      pub left_came : {p : Counts} → Ok p ≡ tried_to (remove_all j.nvp (mesh_at u₁ (site_of v t) n)) → MeshedTo u₂ v t j (Ok (as_built p.polygons p.vertices))
      left_came a = all_tried (y ∙ x.is) x.words x.counts f a
