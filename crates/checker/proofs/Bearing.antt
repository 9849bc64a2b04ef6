-- 43: what an open side bears, each way out of the tests; and the corners of a sound mesh are vertices. Assumes nothing.
use mathlib.Core.Path.{◌≡◌, refl, sym}
use mathlib.Core.Bool.{true, cond}
use mathlib.Core.List.{List, []}
use Prim.Native.Nat.{ℕ, ◌+◌, ◌*◌, ◌/◌, ◌≤◌, ◌<◌}
use lib.Dec.{eqb, ltb}
use lib.ListN.{length, get_or}
use borrow.Author.Tests.{lt-ltb, le-ltb}
use Rattle.rules.specs.Lists.{next}
use Rattle.rules.specs.Mesh.{place_of}
use Rattle.rules.specs.Links.{none}
use Rattle.rules.specs.Portals.{portal_of}
use Rattle.rules.specs.Checks.{vertex_stride}
use Rattle.rules.specs.Exits.{decoded}
use Rattle.rules.specs.declared.Point.{Point}
use Rattle.rules.specs.Handed.{vertex_count, polygon_count, mesh_in, corners_at, all_of, Consistent}
use Rattle.rules.specs.Checker.{open_link, portal_holds, portals_hold}
use Rattle.laws.proofs.Lists.{get_d_any}
use Rattle.laws.proofs.HandedWords.{corner_read, place_read}
use Rattle.stored.specs.Stored.{stored_vertices}
use Rattle.checker.specs.Asked.{handed_in, unclaimed_in}
use Rattle.checker.specs.Steps.{vertices_in, side_bears, SidesReady}

pub place_is : (vs : List ℕ) (c : ℕ) → c < length vs / vertex_stride
    → record { x = get_or vs (c * vertex_stride) 0; z = get_or vs (c * vertex_stride + 2) 0 } ≡ place_of (vertices_in vs) c
unfolding mesh_in decoded vertex_count stored_vertices
place_is vs c h = sym (place_read (handed_in 0 vs [] []) c h)

-- what R7 gives, with a border and without
pub bordered : (w h border : ℕ) {p q x y : Point} {r : ℕ} → 0 < border → p ≡ x → q ≡ y → r ≡ portal_of w h p q → r ≡ cond (ltb 0 border) (portal_of w h x y)
    none
bordered w h border b e f g = rw (lt-ltb 0 border b, ← e, ← f) g

pub borderless : (border : ℕ) (portal : ℕ) → border ≤ 0 → none ≡ cond (ltb 0 border) portal none
borderless border portal b = rw (le-ltb 0 border b) refl

-- side j
module _ {vs cs ls : List ℕ} (r : SidesReady vs cs ls) (w h border j : ℕ) (k : j < length cs) where
  link_is : get_or ls j none ≡ get_or ls j 0
  link_is = get_d_any ls j none 0 (rw r.alike k)

  pub not_open : get_or ls j 0 < none → true ≡ side_bears vs w h border cs ls j
  unfolding side_bears
  not_open l = rw (link_is, lt-ltb (get_or ls j 0) none l) refl

  pub open_decides : none ≤ get_or ls j 0 → (e o : ℕ) → e ≡ next j (length cs)
      → o ≡ cond (ltb 0 border) (portal_of w h (place_of (vertices_in vs) (get_or cs j 0)) (place_of (vertices_in vs) (get_or cs e 0))) none
      → eqb (get_or ls j 0) o ≡ side_bears vs w h border cs ls j
  unfolding side_bears open_link
  open_decides l e o f g = rw (g, f, link_is, le-ltb (get_or ls j 0) none l) refl

-- polygon i, whose corners are `own`, and whose links `mine`
module _ (nvp : ℕ) (vs ps ls : List ℕ) (i : ℕ) {own mine : List ℕ} (e : own ≡ corners_at (mesh_in (handed_in nvp vs ps ls)) i) where
  pub bears_is : (w h border : ℕ) → mine ≡ get_or (mesh_in (handed_in nvp vs ps ls)).links i []
      → all_of (side_bears vs w h border own mine) 0 (length own) ≡ portals_hold (unclaimed_in nvp w h border vs ps ls) i
  unfolding portals_hold portal_holds side_bears mesh_in decoded vertex_count stored_vertices
  bears_is w h border f = rw (e, f) refl

  pub sides_ready : Consistent (handed_in nvp vs ps ls) → i < polygon_count (handed_in nvp vs ps ls) → length mine ≡ length own → SidesReady vs own mine
  unfolding vertex_count
  sides_ready g h a = record {
    alike = a;
    inside = λ k l.
        let m = handed_in nvp vs ps ls in
        let q : k < length (corners_at (mesh_in m) i) = rw e at l in
        rw (e, corner_read m i k h q) ((g.corners i h).inside k q);
  }
