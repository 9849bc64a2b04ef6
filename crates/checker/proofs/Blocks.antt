-- 40: each way out of the test of the buffers. A test that fails contradicts what sound buffers have; if none does, the grid decides. Assumes nothing.
use mathlib.Core.Path.{◌≡◌, refl, sym, ◌∙◌, ap}
use mathlib.Core.Bool.{Bool, true, false, not, ◌&&◌, ◌||◌, true≢false}
use mathlib.Core.List.{List}
use Prim.Native.Nat.{ℕ, ◌*◌, ◌/◌, ◌<◌}
use native.Mathlib.Omega.{arith}
use lib.Dec.{eqb, ltb}
use lib.ListN.{length, get_or}
use borrow.Author.Tests.{ltb-false, le-ltb, le-leb, eq-eqb}
use Rattle.ints.specs.Bools.{and_left, and_right, or_left, or_right}
use Rattle.mem.specs.Loops.{over_cong}
use Rattle.rules.specs.Weld.{no_vertex}
use Rattle.rules.specs.Checks.{vertex_stride, is_high}
use Rattle.rules.specs.declared.Vertex.{Vertex}
use Rattle.rules.specs.Handed.{Handed, vertex_count, polygon_count, mesh_in, all_of, blocks_agree, within_limits, are_few, buffers_hold, GoodBuffers}
use Rattle.laws.proofs.Handed.{good_buffers}
use Rattle.laws.proofs.HandedWords.{vertex_read}
use Rattle.checker.specs.Asked.{handed_in}
use Rattle.stored.specs.Stored.{vertex_in}
use Rattle.checker.specs.Steps.{grid_holds}

refused : (m : Handed) → (GoodBuffers m → ⊥) → false ≡ buffers_hold m
refused m never = go (buffers_hold m) refl
  where
    go : (t : Bool) → buffers_hold m ≡ t → false ≡ buffers_hold m
    go true e = absurd (never (good_buffers m e))
    go false e = sym e

grid_is : (m : Handed) → all_of (λ k. not (is_high (get_or (mesh_in m).vertices k no_vertex))) 0 (vertex_count m) ≡ grid_holds m.vertices (vertex_count m)
unfolding grid_holds all_of vertex_in
grid_is m =
    over_cong true ◌&&◌ (λ k. not (is_high (get_or (mesh_in m).vertices k no_vertex))) _ 0 (vertex_count m)
    (λ k a h. ap (λ (v : Vertex). not (is_high v)) (vertex_read m k h))

-- the tests in their order, of nv vertices and np polygons
module _ (nvp : ℕ) (vs ps ls : List ℕ) where
  abbrev off_limits : Bool
  off_limits = ltb nvp 3 || ltb 12 nvp

  abbrev too_many : Bool
  too_many = ltb 65535 (length vs / vertex_stride) || ltb 65535 (length ps / nvp)

  abbrev agreeing : Bool
  agreeing = (eqb (length vs) (length vs / vertex_stride * vertex_stride) && eqb (length ps) (length ps / nvp * nvp)) && eqb (length ls) (length ps)

  pub limits_fail : off_limits ≡ true → false ≡ buffers_hold (handed_in nvp vs ps ls)
  limits_fail e = refused (handed_in nvp vs ps ls) (λ g. true≢false (sym e ∙ rw (le-ltb nvp 3 g.nvp_low, le-ltb 12 nvp g.nvp_high) refl))

  pub counts_fail : too_many ≡ true → false ≡ buffers_hold (handed_in nvp vs ps ls)
  unfolding vertex_count polygon_count
  counts_fail e = refused (handed_in nvp vs ps ls)
      (λ g. true≢false (sym e ∙ rw (le-ltb 65535 (length vs / vertex_stride) g.few_vertices, le-ltb 65535 (length ps / nvp) g.few_polygons) refl))

  pub blocks_fail : agreeing ≡ false → false ≡ buffers_hold (handed_in nvp vs ps ls)
  unfolding vertex_count polygon_count
  blocks_fail e = refused (handed_in nvp vs ps ls)
      (λ g. true≢false (sym (rw (eq-eqb (length vs) _ g.vertices, eq-eqb (length ps) _ g.polygons, eq-eqb (length ls) (length ps) g.links) refl) ∙ e))

  pub grid_decides : off_limits ≡ false → too_many ≡ false → agreeing ≡ true → grid_holds vs (length vs / vertex_stride) ≡ buffers_hold
      (handed_in nvp vs ps ls)
  unfolding buffers_hold blocks_agree are_few within_limits vertex_count polygon_count
  grid_decides a b c =
      let whole = eqb (length vs) (length vs / vertex_stride * vertex_stride) in
      let blocks = eqb (length ps) (length ps / nvp * nvp) in
      let both = and_left (whole && blocks) (eqb (length ls) (length ps)) c in
      rw (
        and_left whole blocks both,
        and_right whole blocks both,
        and_right (whole && blocks) (eqb (length ls) (length ps)) c,
        le-leb (length vs / vertex_stride) 65535 (ltb-false 65535 (length vs / vertex_stride) (or_left _ (ltb 65535 (length ps / nvp)) b)),
        le-leb (length ps / nvp) 65535 (ltb-false 65535 (length ps / nvp) (or_right (ltb 65535 (length vs / vertex_stride)) _ b)),
        le-leb 3 nvp (ltb-false nvp 3 (or_left (ltb nvp 3) (ltb 12 nvp) a)),
        le-leb nvp 12 (ltb-false 12 nvp (or_right (ltb nvp 3) (ltb 12 nvp) a)),
        grid_is (handed_in nvp vs ps ls),
      ) refl

  -- nothing is divided by zero, and no product wraps
  pub wide_enough : off_limits ≡ false → 0 < nvp
  wide_enough a = omega (arith, ltb-false nvp 3 (or_left (ltb nvp 3) (ltb 12 nvp) a))
