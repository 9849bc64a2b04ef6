-- A job that has passed the checks is built: what each step asks for, and what the buffers hold at the end. Assumes nothing.
-- Key: `refused_exit` and `built_exit`; `made_built`, once all is wiped.
use Rattle.std.specs.Prelude.{Ok, Err}
use mathlib.Core.Path.{◌≡◌, refl, sym, ap, ap₂, subst, ◌∙◌}
use mathlib.Core.Bool.{false, cond}
use mathlib.Core.List.{List, ◌++◌}
use Prim.Native.Nat.{ℕ, ◌+◌, ◌*◌, ◌≤◌}
use native.Mathlib.Nat.{mul-le-mul_right}
use native.Mathlib.Omega.{arith}
use lib.ListN.{length, drop, replicate, length-append, length-drop, length-replicate}
use Rattle.mem.specs.Slice.{splice_whole}
use Rattle.rules.specs.Mesh.{Mesh}
use Rattle.rules.specs.Removal.{Removal, Removals, removed, stuck_at, remove_all}
use Rattle.rules.specs.Job.{Job, count_v}
use Rattle.rules.specs.Checks.{Lent, work_words}
use Rattle.rules.specs.Replies.{writes_nothing}
use Rattle.rules.specs.Build.{Contours, added, no_ear_in, Outcome, refused, built, linked, cleared, add_all}
use Rattle.rules.specs.Exits.{wiped, only_wiped, exit_of}
use Rattle.rules.specs.Widths.{Fits}
use Rattle.rules.specs.declared.Refusal.{Refusal}
use Rattle.rules.specs.declared.Refusal.TheVariants.{NoEarInContour, NoEarInHole}
use Rattle.rules.specs.Replies.{Reply}
use Rattle.rules.specs.declared.Built.{Built}
use Rattle.laws.specs.Replies.{WasBuilt}
use Rattle.laws.proofs.Replies.{was_refused, was_built}
use Rattle.laws.specs.Lists.{All}
use Rattle.laws.proofs.Lists.{all_imp}
use Rattle.laws.specs.Measures.{spares_in}
use Rattle.laws.specs.Merge.{Good, Below}
use Rattle.laws.proofs.Merge.{polygons_few}
use Rattle.records.specs.Layout.{most_corners}
use Rattle.records.specs.declared.counts.Counts.{Counts}
use Rattle.removals.specs.Site.{mesh_at, Stands}
use Rattle.removals.specs.Removing.{counts_of}
use Rattle.removals.specs.Standing.{stands_wider}
use Rattle.outputs.specs.declared.store.Places.{Places}
use Rattle.outputs.specs.Ready.{StoreReady, StoredTo}
use Rattle.outputs.specs.Stored.{store_ready, stored_filled}
use Rattle.outputs.specs.Stored as Outputs
use Rattle.polymesh.specs.Layout.{words_of, used_of, site_of}
use Rattle.polymesh.specs.Gather.{Meshed, comes_to, MeshedTo}
use Rattle.polymesh.specs.Linking.{places_of, links_with, LinkableReady, LinkedTo}
use Rattle.polymesh.specs.Build.{BuildReady, lending, MadeTo, BuiltTo}
use Rattle.polymesh.proofs.Gathers.{admitted_sized}

-- ---- a build refuses for want of an ear alone, and its links are those of its mesh

is_built : Outcome → Type 0
is_built (refused x) = ⊥
is_built (built m ls log) = Unit

same_refusal : (x y : Refusal) → refused x ≡ refused y → x ≡ y
same_refusal x y e = cc

quiet_linked : (j : Job) (r : Removals) (x : Refusal) → linked j r ≡ refused x → writes_nothing x ≡ false
unfolding linked writes_nothing is_built
quiet_linked j (stuck_at i) x e = ap writes_nothing (sym (same_refusal (NoEarInHole i) x e))
quiet_linked j (removed m log) x e = absurd (subst is_built e tt)

pub quiet : (j : Job) (c : Contours) (x : Refusal) → cleared j c ≡ refused x → writes_nothing x ≡ false
unfolding cleared writes_nothing
quiet j (no_ear_in c k) x e = ap writes_nothing (sym (same_refusal (NoEarInContour c) x e))
quiet j (added m) x e = quiet_linked j (remove_all j.nvp m) x e

links_linked : (j : Job) (r : Removals) (m : Mesh) (ls : List (List ℕ)) (log : List Removal) → linked j r ≡ built m ls log
    → ls ≡ links_with j.w j.h j.border m
unfolding linked is_built
links_linked j (stuck_at i) m ls log e = absurd (subst is_built (sym e) tt)
links_linked j (removed o k) m ls log e =
    let a : o ≡ m = cc in
    let b : links_with j.w j.h j.border o ≡ ls = cc in
    sym b ∙ ap (links_with j.w j.h j.border) a

links_built : (j : Job) (c : Contours) (m : Mesh) (ls : List (List ℕ)) (log : List Removal) → cleared j c ≡ built m ls log
    → ls ≡ links_with j.w j.h j.border m
unfolding cleared is_built
links_built j (no_ear_in c k) m ls log e = absurd (subst is_built (sym e) tt)
links_built j (added o) m ls log e = links_linked j (remove_all j.nvp o) m ls log e

-- ---- the build

-- zeros in a buffer of just the words that are lent
all_wiped : {v t : ℕ} {j : Job} {b : Lent} → BuildReady (words_of v) v t j b → (k : ℕ) {z : List ℕ} → k ≡ length b.work → z ≡ replicate k 0 → z ≡ wiped j b.work
unfolding wiped work_words
all_wiped {v} {t} {j} {b} r k l e =
    let c : words_of v ≡ 4096 + 128 * count_v j = ap words_of r.job.vertices in
    let a = length-replicate {A = ℕ} (4096 + 128 * count_v j) 0 in
    e ∙ ap (λ (k : ℕ). replicate k 0) (l ∙ r.size ∙ c) ∙ sym (splice_whole b.work (replicate (4096 + 128 * count_v j) 0) (a ∙ sym c ∙ sym r.size))

-- the words that are used are among those that are lent
pub used_fits : {v t : ℕ} {j : Job} {b : Lent} → BuildReady (words_of v) v t j b → {n : ℕ} → n ≡ used_of v t → n ≤ length b.work
used_fits r e = omega (arith, e, r.size, (admitted_sized r.job).t_most)

-- and enough
pub make_ready : {v t : ℕ} {j : Job} {b : Lent} → BuildReady (words_of v) v t j b → (part : List ℕ) → length part ≡ used_of v t → BuildReady (used_of v t) v t j (lending b part)
make_ready r part l = record {
  size = l;
  job = r.job;
  room = record {
    vertices = r.room.vertices;
    polygons = r.room.polygons;
    neighbours = r.room.neighbours;
    regions = r.room.regions;
    codes = r.room.codes;
    flags = r.room.flags;
  };
  fits = r.fits;
}

-- once all is wiped: ys is what those words became
pub made_built : {v t : ℕ} {j : Job} {b u : Lent} {reply : Reply} → BuildReady (words_of v) v t j b → (part : List ℕ) → MadeTo j (lending b part) u reply → (ys : List ℕ) (n : ℕ)
    → length ys ≡ n → n ≤ length b.work → {z : List ℕ} → z ≡ replicate (length (ys ++ drop n b.work)) 0 → BuiltTo j b (lending u z) reply
made_built {b = b} {u = u} r part m ys n l h e =
    let k : length (ys ++ drop n b.work) ≡ length b.work = simp (length-append, length-drop) (omega arith) in
    record { answer = m.answer; exit = ap (lending u) (all_wiped r _ k e) ∙ m.exit b.work }

module _ {v t : ℕ} {j : Job} {b : Lent} (r : BuildReady (used_of v t) v t j b) where
  module _ {u : List ℕ} {reply : Reply} (g : MeshedTo u v t j reply) where
    pub refused_exit : {x : Refusal} → reply ≡ Err x → {z : List ℕ} → MadeTo j b (lending b z) (Err x)
    unfolding exit_of only_wiped
    refused_exit {x} e =
        let o = was_refused (comes_to j) x (sym e ∙ g.answer) in
        record {
          answer = sym e ∙ g.answer;
          exit = λ w. sym (ap (exit_of j (lending b w)) o ∙ ap (λ c. cond c (lending b w) (only_wiped j (lending b w))) (quiet j (add_all j) x o));
        }

    module _ {y : Built} (e : reply ≡ Ok y) where
      n : Counts
      n = record { vertices = y.vertices; polygons = y.polygons }

      w : WasBuilt (comes_to j) y.polygons y.vertices
      w = was_built (comes_to j) y.polygons y.vertices (sym e ∙ g.answer)

      m : Mesh
      m = w.mesh

      counts : n ≡ counts_of m
      unfolding n m
      counts = ap₂ (λ (a c : ℕ). record { vertices = a; polygons = c }) w.vertices w.polygons

      meshed : Meshed u v t j.nvp m
      unfolding m
      meshed = g.mesh w.mesh w.links w.log w.is

      fit : Fits m w.links
      unfolding m
      fit = r.fits w.mesh w.links w.log w.is

      pub linkable : LinkableReady u v t (record { vertices = y.vertices; polygons = y.polygons })
      unfolding n m
      linkable = record {
        sized = admitted_sized r.job;
        room = omega (arith, g.size);
        stands = subst (λ (c : Counts). Stands u (site_of v t) c most_corners) (sym counts) (stands_wider meshed.stands);
        few = rw w.polygons fit.polygons;
      }

      module _ {x : List ℕ} (l : LinkedTo u x v t (record { vertices = y.vertices; polygons = y.polygons }) j.w j.h j.border) where
        here : mesh_at u (site_of v t) n ≡ m
        here = ap (mesh_at u (site_of v t)) counts ∙ meshed.read

        stored : Outputs.Stands (places_of v t n) x m w.links
        unfolding n m
        stored =
            rw (links_built j (add_all j) w.mesh w.links w.log w.is)
            (subst (λ (z : Mesh). Outputs.Stands (places_of v t n) x z (links_with j.w j.h j.border z)) here l.stands)

        sound : All (Good (Below (length m.vertices)) j.nvp) m.polygons
        sound = subst (λ (z : Mesh). All (Good (Below (length z.vertices)) j.nvp) z.polygons) meshed.read meshed.stands.sound.good

        few : length m.polygons ≤ t
        few =
            let s = subst (λ (z : Mesh). spares_in z.polygons ≤ t) meshed.read meshed.stands.spares in
            omega (arith, polygons_few (all_imp (λ p (k : Good (Below (length m.vertices)) j.nvp p). k.long) sound), s)

        few_rows : y.polygons * j.nvp ≤ t * j.nvp
        unfolding m
        few_rows = mul-le-mul_right j.nvp (rw w.polygons few)

        room_now : Outputs.Room (places_of v t n) j.nvp (lending b x)
        unfolding n m
        room_now =
            let q : y.polygons ≤ t = rw w.polygons few in
            record {
              vertices = omega (arith, w.vertices, meshed.stands.vertices, r.room.vertices);
              polygons = omega (arith, few_rows, r.room.polygons);
              neighbours = omega (arith, few_rows, r.room.neighbours);
              regions = omega (arith, q, r.room.regions);
              codes = omega (arith, q, r.room.codes);
              flags = omega (arith, q, r.room.flags);
            }

        pub storable : {at : Places} → at ≡ places_of v t (record { vertices = y.vertices; polygons = y.polygons })
            → StoreReady at j.nvp (lending b x)
        unfolding n
        storable p = rw p (store_ready stored room_now r.job.passed.nvp_high (all_imp (λ p (k : Good (Below (length m.vertices)) j.nvp p). k.short) sound) fit)

        pub built_exit : {at : Places} → at ≡ places_of v t (record { vertices = y.vertices; polygons = y.polygons }) → {a : Lent} → StoredTo at j.nvp (lending b x) a → {z : List ℕ}
            → MadeTo j b (lending a z) (Ok y)
        unfolding exit_of n m
        built_exit p k =
            record {
              answer = sym e ∙ g.answer;
              exit = λ o. stored_filled stored j (rw p at k) o (wiped j o) refl ∙ sym (ap (exit_of j (lending b o)) w.is);
            }
