-- Every mesh that is built has mutual links and the portals of R7, and is accepted by the checker with its own total: what `rules` states in its file
-- `Checker`. Assumes nothing.
-- Key: `link_law`, `open_law`, `each_accepted`.
use Rattle.std.specs.Prelude.{ℕ, ◌*◌, ◌≤◌, ◌<◌, ◌≡◌, List, [], take, Ok}
use Rattle.std.proofs.Math.Nat.{le_trans}
use Rattle.std.proofs.Common.{mul-le-mul_right, arith}
use Rattle.std.proofs.Math.Path.{refl, ap}
use Rattle.std.proofs.Math.ListN.{length}
use Rattle.mem.specs.Slice.{splice, view_same}
use Rattle.mem.specs.Packed.{every_at, packed}
use Rattle.rules.specs.Mesh.{polygon_at, Mesh}
use Rattle.rules.specs.Removal.{Removal}
use Rattle.rules.specs.Links.{none, links_of}
use Rattle.rules.specs.Job.{Job}
use Rattle.rules.specs.Checks.{Lent, vertex_stride, lengths_of, least_lengths}
use Rattle.rules.specs.Build.{Outcome, refused, built, outcome, reply_of}
use Rattle.rules.specs.Exits.{vertex_words, padded, corner_words, filled, exits, decoded}
use Rattle.rules.specs.Areas.{mesh_area, stored_area}
use Rattle.rules.specs.Handed.{Handed, link_at, last_portal, NamedBack}
use Rattle.rules.specs.Checker.{open_link, verdict, LinkLaw, OpenLaw, handed_on, own_claim, OwnAccepted, EachAccepted}
use Rattle.laws.specs.Checks.{Passed}
use Rattle.laws.proofs.Replies.{built_polygons, built_vertices}
use Rattle.laws.specs.Build.{Bounded}
use Rattle.laws.proofs.Build.{bounded}
use Rattle.laws.specs.Links.{UpTo}
use Rattle.laws.proofs.Links.{links_shaped, portals_shaped, links_up_to, portals_up_to}
use Rattle.laws.proofs.Reached.{built_links, built_passed}
use Rattle.laws.proofs.Mutual.{portals_mutual, portals_open}
use Rattle.laws.proofs.Widths.{few_polygons}
use Rattle.laws.proofs.Exits.{exits_built, reads_back}
use Rattle.laws.proofs.Checker.{accepts_exactly}
use Rattle.laws.specs.Written.{Meets}
use Rattle.laws.proofs.Written.{written, claimed, vertices_long, polygons_long, links_long, meets_acceptable}

-- ---- the laws of R6 and R7, of every mesh that is built

module _ (j : Job) (b : Lent) (m : Mesh) (ls : List (List ℕ)) (log : List Removal) (e : outcome j b ≡ built m ls log) where
  few : length m.polygons < none
  few = few_polygons j m (built_passed j m ls log b e).few (bounded j b m ls log e)

  module _ (i k : ℕ) (h : i < length m.polygons) (l : k < length (polygon_at m.polygons i).corners) where
    mutual_law : link_at ls i k < none → NamedBack m.polygons ls i k
    mutual_law = rw (built_links j m ls log b e) (portals_mutual m.vertices j.w j.h j.border m.polygons few i k h l)

    opened_law : none ≤ link_at ls i k → link_at ls i k ≡ open_link m.vertices j.w j.h j.border (polygon_at m.polygons i).corners k
    opened_law = rw (built_links j m ls log b e) (portals_open m.vertices j.w j.h j.border m.polygons few i k h l)

pub link_law : LinkLaw
link_law j b m ls log e i k h l = mutual_law j b m ls log e i k h l

pub open_law : OpenLaw
open_law j b m ls log e i k h l = opened_law j b m ls log e i k h l

-- ---- the mesh in the lent buffers

-- the first n words of a buffer whose first words were written
first_words : (w xs : List ℕ) (n : ℕ) → length xs ≡ n → n ≤ length w → take n (splice w 0 xs) ≡ xs
first_words w xs n e h = view_same w 0 n xs e (omega arith)

-- the lent buffers have room for it
module _ (j : Job) (b : Lent) (m : Mesh) (passed : Passed j (lengths_of b)) (bounds : Bounded j m) where
  vertices_fit : length m.vertices * vertex_stride ≤ length b.vertices
  unfolding least_lengths lengths_of
  vertices_fit = omega (arith, passed.room 0 (omega arith), bounds.vertices)

  polygons_fit : length m.polygons * j.nvp ≤ length b.polygons
  unfolding least_lengths lengths_of
  polygons_fit = le_trans (mul-le-mul_right j.nvp bounds.polygons) (passed.room 1 (omega arith))

  links_fit : length m.polygons * j.nvp ≤ length b.neighbours
  unfolding least_lengths lengths_of
  links_fit = le_trans (mul-le-mul_right j.nvp bounds.polygons) (passed.room 2 (omega arith))

module _ (j : Job) (b : Lent) (m : Mesh) (ls : List (List ℕ)) (log : List Removal) (e : outcome j b ≡ built m ls log) where
  passed : Passed j (lengths_of b)
  passed = built_passed j m ls log b e

  bounds : Bounded j m
  bounds = bounded j b m ls log e

  pub meets : Meets j.nvp j.w j.h j.border m.vertices m.polygons ls
  meets = record {
    nvp_low = passed.nvp_low;
    nvp_high = passed.nvp_high;
    few_vertices = omega (arith, bounds.vertices, passed.few);
    few_polygons = omega (arith, few j b m ls log e);
    grid = bounds.sound.grid;
    good = bounds.sound.good;
    shaped = rw (built_links j m ls log b e)
        (portals_shaped m.vertices j.w j.h j.border m.polygons (links_of m.polygons) (links_shaped m.polygons));
    named = λ i k h l. mutual_law j b m ls log e i k h l;
    opened = λ i k h l. opened_law j b m ls log e i k h l;
    most = λ i k. rw (built_links j m ls log b e)
        (every_at (λ n. n ≤ last_portal) none _ (every_at (UpTo last_portal) [] _
        (portals_up_to m.vertices j.w j.h j.border m.polygons (links_of m.polygons) (links_up_to m.polygons (few j b m ls log e))) i) k);
  }

  -- the numbers handed on are those of the mesh, one thing after the other
  pub handed_is : handed_on j.nvp (filled j b m ls) (length m.polygons) (length m.vertices)
      ≡ written j.nvp j.w j.h j.border m.vertices m.polygons ls meets
  unfolding handed_on filled written
  handed_is = same
      (first_words b.vertices (packed vertex_words m.vertices) (length m.vertices * vertex_stride)
      (vertices_long j.nvp j.w j.h j.border m.vertices m.polygons ls meets) vertex_room)
      (first_words b.polygons (packed (corner_words j.nvp) m.polygons) (length m.polygons * j.nvp)
      (polygons_long j.nvp j.w j.h j.border m.vertices m.polygons ls meets) polygon_room)
      (first_words b.neighbours (packed (padded j.nvp) ls) (length m.polygons * j.nvp)
      (links_long j.nvp j.w j.h j.border m.vertices m.polygons ls meets) link_room)
    where
      vertex_room : length m.vertices * vertex_stride ≤ length b.vertices
      vertex_room = vertices_fit j b m passed bounds

      polygon_room : length m.polygons * j.nvp ≤ length b.polygons
      polygon_room = polygons_fit j b m passed bounds

      link_room : length m.polygons * j.nvp ≤ length b.neighbours
      link_room = links_fit j b m passed bounds

      same : {vs us ps qs ks hs : List ℕ} → vs ≡ us → ps ≡ qs → ks ≡ hs → ◌≡◌ {A = Handed}
          (record { nvp = j.nvp; vertices = vs; polygons = ps; links = ks }) (record { nvp = j.nvp; vertices = us; polygons = qs; links = hs })
      same a b c = rw (a, b, c) refl

  own_area : stored_area (decoded j.nvp (length m.polygons) (length m.vertices) (exits j b)) ≡ mesh_area m
  unfolding stored_area mesh_area
  own_area = ap stored_area (reads_back j b m ls log e)

  claim_is : own_claim j (exits j b) (length m.polygons) (length m.vertices)
      ≡ claimed j.nvp j.w j.h j.border m.vertices m.polygons ls meets
  unfolding own_claim claimed mesh_area
  claim_is = rw (own_area, exits_built j b m ls log e, handed_is) refl

  own : verdict (own_claim j (exits j b) (length m.polygons) (length m.vertices)) ≡ (Ok tt)
  own = rw claim_is
      ((accepts_exactly (claimed j.nvp j.w j.h j.border m.vertices m.polygons ls meets)).1
      (meets_acceptable j.nvp j.w j.h j.border m.vertices m.polygons ls meets))

-- what a build answers is a mesh only if it was built, and then these are its counts
own_of : (j : Job) (b : Lent) (o : Outcome) → outcome j b ≡ o → OwnAccepted j (reply_of o) (exits j b)
unfolding reply_of
own_of j b (refused r) e n k q = let z : ◌≡◌ {A = ℕ} 0 1 = cc in absurd (omega arith)
own_of j b (built m ls log) e n k q =
    rw (← built_polygons q, ← built_vertices q) (own j b m ls log e)

pub each_accepted : EachAccepted
each_accepted j b = own_of j b (outcome j b) refl
