-- 42: the link of a side, and the links of a polygon, each way out of their tests. Assumes nothing.
use Rattle.std.specs.List.{list_all}
use mathlib.Core.Path.{◌≡◌, refl, sym, ◌∙◌, ap}
use mathlib.Core.Bool.{Bool, true, false}
use mathlib.Core.Logic.{◌≢◌}
use mathlib.Core.List.{List, []}
use Prim.Native.Nat.{ℕ, ◌+◌, ◌-◌, ◌*◌, ◌≤◌, ◌<◌}
use native.Mathlib.Omega.{arith}
use lib.Dec.{eqb, leb}
use lib.ListN.{length, get_or}
use borrow.Author.Tests.{lt-ltb, le-ltb, eq-eqb, ne_eqb}
use Rattle.mem.specs.Slice.{view, length_view, view_view}
use Rattle.mem.specs.Tab.{length_tab}
use Rattle.rules.specs.Lists.{next}
use Rattle.rules.specs.Links.{none}
use Rattle.rules.specs.Exits.{decoded, stored_polygon}
use Rattle.rules.specs.Handed.{Handed, polygon_count, buffers_of, mesh_in, link_word, corners_at, link_at}
use Rattle.rules.specs.Handed.{all_of, any_of, names_back, last_portal, link_holds, links_hold}
use Rattle.laws.proofs.Lists.{get_d_any}
use Rattle.checker.specs.Steps.{PolygonAt}
use Rattle.checker.proofs.Rows.{unused_all, unused_is}

pub polygons_many : (m : Handed) → length (mesh_in m).polygons ≡ polygon_count m
unfolding mesh_in decoded
polygons_many m = length_tab (stored_polygon m.nvp (buffers_of m)) (polygon_count m)

-- side j of polygon i, whose corners are `own`, and whose links `mine`
module _ {m : Handed} {np i : ℕ} {own mine : List ℕ} (p : PolygonAt m np i own mine) (j : ℕ) (h : j < length own) where
  link_is : link_at (mesh_in m).links i j ≡ get_or mine j 0
  link_is = ap (λ (l : List ℕ). get_or l j none) (sym p.links) ∙ get_d_any mine j none 0 (rw p.alike h)

  pub open_side : none ≤ get_or mine j 0 → leb (get_or mine j 0) last_portal ≡ link_holds (mesh_in m) i j
  unfolding link_holds
  open_side o = rw (link_is, le-ltb (get_or mine j 0) none o) refl

  module _ (l : get_or mine j 0 < none) where
    pub past_last : np ≤ get_or mine j 0 → false ≡ link_holds (mesh_in m) i j
    unfolding link_holds
    past_last k = rw (link_is, lt-ltb (get_or mine j 0) none l, polygons_many m, ← p.count, le-ltb (get_or mine j 0) np k) refl

    module _ (k : get_or mine j 0 < np) where
      pub itself : get_or mine j 0 ≡ i → false ≡ link_holds (mesh_in m) i j
      unfolding link_holds
      itself e = rw (link_is, lt-ltb (get_or mine j 0) none l, polygons_many m, ← p.count, lt-ltb (get_or mine j 0) np k, eq-eqb (get_or mine j 0) i e) refl

      pub another : get_or mine j 0 ≢ i
          → any_of (names_back (corners_at (mesh_in m) (get_or mine j 0)) (get_or (mesh_in m).links (get_or mine j 0) [])
          (get_or own j 0) (get_or own (next j (length own)) 0) i) 0 (length (corners_at (mesh_in m) (get_or mine j 0)))
          ≡ link_holds (mesh_in m) i j
      unfolding link_holds
      another e =
          rw (p.corners, link_is, lt-ltb (get_or mine j 0) none l, polygons_many m, ← p.count, lt-ltb (get_or mine j 0) np k, ne_eqb (get_or mine j 0) i e)
          refl

-- the links of polygon i, of which `holds` says whether those of its sides hold: those past its last corner begin at t
module _ (m : Handed) (i : ℕ) {holds : Bool} (q : holds ≡ all_of (link_holds (mesh_in m) i) 0 (length (corners_at (mesh_in m) i))) where
  pub side_fails : holds ≡ false → false ≡ links_hold m i
  unfolding links_hold
  side_fails e = rw (sym q ∙ e) refl

  pub past_decides : holds ≡ true → (t : ℕ) → t ≡ i * m.nvp + length (corners_at (mesh_in m) i) → t ≤ i * m.nvp + m.nvp → i * m.nvp + m.nvp ≤ length m.links
      → list_all (λ w. eqb w none) (view m.links t (i * m.nvp + m.nvp - t)) ≡ links_hold m i
  unfolding links_hold link_word
  past_decides e t f b h =
      let c = length (corners_at (mesh_in m) i) in
      let row = view m.links (i * m.nvp) m.nvp in
      let long : length row ≡ m.nvp = length_view m.links (i * m.nvp) m.nvp h in
      let left : i * m.nvp + m.nvp - t ≡ m.nvp - c = omega (arith, f) in
      let past : view m.links t (i * m.nvp + m.nvp - t) ≡ view row c (length row - c) =
      rw (left, f, long) (sym (view_view m.links (i * m.nvp) m.nvp c (m.nvp - c) (omega (arith, b, f)))) in
      ap (list_all (λ w. eqb w none)) past ∙ unused_all row c (omega (arith, long, b, f))
      ∙ rw (unused_is m.links (i * m.nvp) m.nvp c h, sym q ∙ e) refl
