-- All marked vertices are tried: what a try asks for, and what it makes of the mesh that stands there. Assumes nothing.
-- Key: `Left` holds before each try; `left_stays`, `left_gone` and `left_stuck`: a vertex stays, goes, or its hole has no ear; `left_all`: all are tried.
use Rattle.std.specs.Prelude.{Some, None, Ok, Err}
use mathlib.Core.Path.{◌≡◌, refl, sym, ap, ap₂, subst, ◌∙◌}
use mathlib.Core.Bool.{Bool, true, false}
use mathlib.Core.List.{List, [], ◌∷◌, ◌++◌}
use Prim.Native.Nat.{ℕ, ◌+◌, ◌-◌, ◌*◌, ◌≤◌, ◌<◌}
use native.Mathlib.Omega.{arith}
use borrow.Author.Tests.{eq-eqb, ne_eqb}
use lib.ListN.{length, get_or, replicate}
use Rattle.mem.specs.Slice.{view, blank_first, get_or_view}
use Rattle.mem.specs.Tab.{get_or_blocks}
use Rattle.mem.specs.Zeros.{no_words}
use Rattle.rules.specs.Mesh.{Mesh, no_mesh}
use Rattle.rules.specs.Removal.{Removal, goes, remove_vertex, remove_from, remove_all, can_remove, gone, no_ears, removed, stuck_at}
use Rattle.rules.specs.Removal as Rules
use Rattle.laws.specs.Measures.{spares_in}
use Rattle.laws.specs.Lists.{none, total}
use Rattle.laws.specs.Removal.{Step, Shorter}
use Rattle.laws.proofs.Removal.{removed_ok, corners_removed}
use Rattle.laws.proofs.Build.{goes_may, long_enough}
use Rattle.laws.proofs.Fuel.{trying_turns, tried_from_the_start}
use Rattle.records.specs.Layout.{vertex_size, mark_place, mark_in, marks_at}
use Rattle.records.specs.Vertices.{length_vertices}
use Rattle.records.specs.Polygons.{length_polygons}
use Rattle.trails.specs.Trails.{walk_room}
use Rattle.holes.specs.Verdict.{TestReady, Tested}
use Rattle.removals.specs.declared.site.Site.{Site}
use Rattle.records.specs.declared.counts.Counts.{Counts}
use Rattle.removals.specs.Site.{mesh_at, scratch_room, mesh_in, Stands}
use Rattle.removals.specs.Removing.{RemoveReady, removed_to, mesh_after, counts_of, no_ear_at, tried_to, mesh_left}
use Rattle.removals.specs.Stages.{all_scratch}
use Rattle.removals.specs.Standing.{Suits, length_in, mesh_in_again, mesh_read, stands_of}
use Rattle.removals.proofs.Opens.{stands_small, stands_long, stands_few, stands_stage}

-- ---- one vertex

module _ {w : List ℕ} {s : Site} {n : Counts} {nvp : ℕ} (r : Stands w s n nvp) where
  -- the scratch is zeros
  blank : view w s.scratch (s.t * scratch_room) ≡ replicate (s.t * scratch_room) 0
  blank = all_scratch r.fits (stands_stage r) ∙ no_words (s.t * scratch_room)

  pub test_ready : TestReady w s.polygons n.polygons s.scratch
  test_ready = record {
    small = stands_small r;
    long = stands_long r;
    behind = omega (arith, stands_few r, r.fits.polygons);
    room = omega (arith, r.spares, r.fits.scratch);
    blank = blank_first w s.scratch (s.t * scratch_room) 0 blank (spares_in (mesh_at w s n).polygons * walk_room) (omega (arith, r.spares));
  }

  -- the mark of a vertex is a word
  pub mark_is : (i : ℕ) → i < n.vertices → get_or (mesh_at w s n).marks i 0 ≡ get_or w (s.vertices + i * vertex_size + mark_place) 0
  unfolding marks_at mark_in
  mark_is i h =
      get_or_blocks mark_in w s.vertices vertex_size n.vertices i 0 h
      ∙ get_or_view w (s.vertices + i * vertex_size) vertex_size mark_place 0 (omega arith)

  module _ {i : ℕ} (h : i < n.vertices) where
    pub unmarked : (get_or w (s.vertices + i * vertex_size + mark_place) 0 ≡ 1 → ⊥) → Tested (goes i (mesh_at w s n)) w false w
    unfolding goes
    unmarked k = record { answer = sym (rw (mark_is i h, ne_eqb _ 1 k)); is = refl }

    pub marked : get_or w (s.vertices + i * vertex_size + mark_place) 0 ≡ 1 → {b : Bool} {u : List ℕ} → Tested (can_remove i (mesh_at w s n).polygons) w b u
        → Tested (goes i (mesh_at w s n)) w b u
    unfolding goes
    marked k t = record { answer = t.answer ∙ sym (rw (mark_is i h, eq-eqb _ 1 k)); is = t.is }

-- ---- all of them

-- the vertex went, and k polygons are left
record WasGone (t : Rules.Removed) (k : ℕ) : Type 0 where
  mesh : Mesh
  log : Removal
  is : t ≡ gone mesh log
  count : k ≡ length mesh.polygons

was_gone : (t : Rules.Removed) (k : ℕ) → Some k ≡ removed_to t → WasGone t k
unfolding removed_to
was_gone (gone m r) k e = record { mesh = m; log = r; is = refl; count = cc }
was_gone no_ears k e = cc

was_stuck : (t : Rules.Removed) → None ≡ removed_to t → t ≡ no_ears
unfolding removed_to
was_stuck (gone m r) e = cc
was_stuck no_ears e = refl

-- of the mesh that stood in w₀ the vertices below i are tried: n are left in w, and the rest is still to be tried
pub record Left (w₀ : List ℕ) (s : Site) (n₀ : Counts) (nvp : ℕ) (w : List ℕ) (n : Counts) (i : ℕ) : Type 0 where
  pub stands : Stands w s n nvp
  pub size : length w ≡ length w₀
  pub is : w ≡ mesh_in w₀ s (mesh_at w s n)
  pub within : i ≤ n.vertices
  pub log : List Removal
  pub same : remove_all nvp (mesh_at w₀ s n₀) ≡ remove_from (length (mesh_at w s n).vertices - i) nvp i (mesh_at w s n) log

suits : {w : List ℕ} {s : Site} {n : Counts} {nvp : ℕ} → Stands w s n nvp → Suits s nvp (mesh_at w s n)
suits {w} {s} {n} r = record {
  sound = r.sound;
  least = r.least;
  most = r.most;
  vertices = omega (arith, length_vertices w s.vertices n.vertices, r.vertices);
  spares = r.spares;
  v_few = r.v_few;
  t_few = r.t_few;
}

suits_none : {w : List ℕ} {s : Site} {n : Counts} {nvp : ℕ} → Stands w s n nvp → Suits s nvp no_mesh
unfolding total
suits_none r = record {
  sound = record { good = none; marked = refl; grid = none };
  least = r.least;
  most = r.most;
  vertices = omega arith;
  spares = omega arith;
  v_few = r.v_few;
  t_few = r.t_few;
}

pub left_none : {w : List ℕ} {s : Site} {n : Counts} {nvp : ℕ} → Stands w s n nvp → Left w s n nvp w n 0
left_none {w} {s} {n} {nvp} r = record {
  stands = r;
  size = refl;
  is = r.is;
  within = omega arith;
  log = [];
  same = tried_from_the_start nvp (mesh_at w s n);
}

counts_are : (w : List ℕ) (s : Site) (n : Counts) → counts_of (mesh_at w s n) ≡ n
counts_are w s n = rw (length_vertices w s.vertices n.vertices, length_polygons w s.polygons n.polygons)

module _ {w₀ : List ℕ} {s : Site} {n₀ : Counts} {nvp : ℕ} (r : Stands w₀ s n₀ nvp) {w : List ℕ} {n : Counts} {i : ℕ} (g : Left w₀ s n₀ nvp w n i) where
  -- all that is left to try
  abbrev all : Rules.Removals
  all = remove_all nvp (mesh_at w₀ s n₀)

  pub left_all : n.vertices ≤ i → (Ok n ≡ tried_to (remove_all nvp (mesh_at w₀ s n₀))) × (w ≡ mesh_in w₀ s (mesh_left (remove_all nvp (mesh_at w₀ s n₀))))
  unfolding tried_to mesh_left
  left_all h =
      let e : all ≡ removed (mesh_at w s n) g.log =
      g.same ∙ (trying_turns nvp i (mesh_at w s n) g.log).end (rw (length_vertices w s.vertices n.vertices) h) in
      (ap Ok (sym (counts_are w s n)) ∙ sym (ap tried_to e), g.is ∙ sym (ap (λ (x : Rules.Removals). mesh_in w₀ s (mesh_left x)) e))

  module _ (h : i < n.vertices) where
    here : i < length (mesh_at w s n).vertices
    here = rw (length_vertices w s.vertices n.vertices) h

    stays : goes i (mesh_at w s n) ≡ false → Left w₀ s n₀ nvp w n (i + 1)
    stays e = record {
      stands = g.stands;
      size = g.size;
      is = g.is;
      within = omega arith;
      log = g.log;
      same = g.same ∙ (trying_turns nvp i (mesh_at w s n) g.log).stays here e;
    }

    module _ (e : goes i (mesh_at w s n) ≡ true) {x : List ℕ} (d : x ≡ mesh_in w s (mesh_after (remove_vertex nvp i (mesh_at w s n)))) where
      -- it goes
      module _ {k : ℕ} (q : WasGone (remove_vertex nvp i (mesh_at w s n)) k) where
        m : Mesh
        m = q.mesh

        step : Step nvp (mesh_at w s n) m q.log
        unfolding m
        step =
            removed_ok nvp i (mesh_at w s n) q.mesh q.log r.least here g.stands.sound (omega (arith, g.stands.spares, r.t_few))
            (goes_may i (mesh_at w s n) e) q.is

        shorter : Shorter (mesh_at w s n) m q.log
        unfolding m
        shorter =
            corners_removed nvp i (mesh_at w s n) q.mesh q.log r.least (long_enough nvp (mesh_at w s n) g.stands.sound)
            (goes_may i (mesh_at w s n) e) q.is

        suits_now : Suits s nvp m
        suits_now = record {
          sound = step.sound;
          least = r.least;
          most = r.most;
          vertices = omega (arith, step.vertices, length_vertices w s.vertices n.vertices, g.stands.vertices);
          spares = omega (arith, shorter.spares, g.stands.spares);
          v_few = r.v_few;
          t_few = r.t_few;
        }

        now_in : x ≡ mesh_in w₀ s m
        unfolding mesh_after m
        now_in =
            d ∙ ap (λ (y : Rules.Removed). mesh_in w s (mesh_after y)) q.is ∙ ap (λ (l : List ℕ). mesh_in l s q.mesh) g.is
            ∙ mesh_in_again suits_now r.fits (mesh_at w s n) (suits g.stands)

        counts_now : counts_of m ≡ record { vertices = n.vertices - 1; polygons = k }
        unfolding m
        counts_now =
            let a : length q.mesh.vertices ≡ n.vertices - 1 = step.vertices ∙ ap (λ (j : ℕ). j - 1) (length_vertices w s.vertices n.vertices) in
            ap₂ (λ (x y : ℕ). record { vertices = x; polygons = y }) a (sym q.count)

        read_now : mesh_at x s (counts_of m) ≡ m
        read_now = mesh_read suits_now r.fits now_in

        goes_now : Left w₀ s n₀ nvp x (counts_of m) i
        unfolding m
        goes_now = record {
          stands = stands_of suits_now r.fits now_in;
          size = ap length now_in ∙ length_in w₀ s m;
          is = now_in ∙ ap (mesh_in w₀ s) (sym read_now);
          within = omega (arith, step.vertices, length_vertices w s.vertices n.vertices);
          log = g.log ++ (q.log ∷ []);
          same = g.same ∙ (trying_turns nvp i (mesh_at w s n) g.log).leaves here e q.mesh q.log q.is
              ∙ ap (λ (y : Mesh). remove_from (length y.vertices - i) nvp i y (g.log ++ (q.log ∷ []))) (sym read_now);
        }

      -- its hole has no ear
      no_ear_lem : remove_vertex nvp i (mesh_at w s n) ≡ no_ears
          → (Err (no_ear_at i) ≡ tried_to (remove_all nvp (mesh_at w₀ s n₀))) × (x ≡ mesh_in w₀ s (mesh_left (remove_all nvp (mesh_at w₀ s n₀))))
      unfolding tried_to mesh_left mesh_after
      no_ear_lem q =
          let f : all ≡ stuck_at i = g.same ∙ (trying_turns nvp i (mesh_at w s n) g.log).stuck here e q in (
            sym (ap tried_to f),
            d ∙ ap (λ (y : Rules.Removed). mesh_in w s (mesh_after y)) q ∙ ap (λ (l : List ℕ). mesh_in l s no_mesh) g.is
                ∙ mesh_in_again (suits_none r) r.fits (mesh_at w s n) (suits g.stands) ∙ sym (ap (λ (y : Rules.Removals). mesh_in w₀ s (mesh_left y)) f),
          )

    module _ {b : Bool} {u : List ℕ} (t : Tested (goes i (mesh_at w s n)) w b u) where
      pub left_stays : b ≡ false → Left w₀ s n₀ nvp u n (i + 1)
      left_stays e = subst (λ (l : List ℕ). Left w₀ s n₀ nvp l n (i + 1)) (sym t.is) (stays (sym t.answer ∙ e))

      pub may_go : b ≡ true → RemoveReady u s n nvp i
      may_go e =
          subst (λ (l : List ℕ). RemoveReady l s n nvp i) (sym t.is)
          (record { stands = g.stands; below = h; may = goes_may i (mesh_at w s n) (sym t.answer ∙ e) })

      module _ (e : b ≡ true) {x : List ℕ} (d : x ≡ mesh_in u s (mesh_after (remove_vertex nvp i (mesh_at u s n)))) where
        pub left_gone : {k : ℕ} → Some k ≡ removed_to (remove_vertex nvp i (mesh_at u s n)) → Left w₀ s n₀ nvp x (record { vertices = n.vertices - 1; polygons = k }) i
        left_gone {k} a =
            let f = sym t.answer ∙ e in
            let c = rw t.is at d in
            let q = was_gone (remove_vertex nvp i (mesh_at w s n)) k (rw t.is at a) in
            subst (λ (y : Counts). Left w₀ s n₀ nvp x y i) (counts_now f c q) (goes_now f c q)

        pub left_stuck : None ≡ removed_to (remove_vertex nvp i (mesh_at u s n))
            → (Err (no_ear_at i) ≡ tried_to (remove_all nvp (mesh_at w₀ s n₀))) × (x ≡ mesh_in w₀ s (mesh_left (remove_all nvp (mesh_at w₀ s n₀))))
        left_stuck a = no_ear_lem (sym t.answer ∙ e) (rw t.is at d) (was_stuck (remove_vertex nvp i (mesh_at w s n)) (rw t.is at a))
