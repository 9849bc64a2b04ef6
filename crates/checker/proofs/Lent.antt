-- 42 and 43: the words of a polygon, lent. Its row lies in the buffers, its corners are counted, and what is lent of that count are its corners and its links.
-- Assumes nothing.
use mathlib.Core.Path.{◌≡◌, sym, ◌∙◌, ap}
use mathlib.Core.List.{List, []}
use Prim.Native.Nat.{ℕ, ◌+◌, ◌-◌, ◌*◌, ◌≤◌, ◌<◌}
use native.Mathlib.Omega.{arith}
use lib.ListN.{length, take, get_or}
use Rattle.mem.specs.Slice.{view, length_view}
use Rattle.mem.specs.Tab.{get_or_tab}
use Rattle.mem.specs.Loops.{block_fits}
use Rattle.rules.specs.Exits.{up_to_none, stored_polygon, stored_links, decoded}
use Rattle.rules.specs.Handed.{Handed, polygon_count, buffers_of, mesh_in, corners_at, GoodBuffers}
use Rattle.laws.proofs.HandedWords.{corners_read}
use Rattle.stored.specs.Counts.{count_most, corners_there}
use Rattle.checker.specs.Asked.{handed_in, links_in}
use Rattle.checker.specs.Steps.{row_at, RowEnds, RowsReady, PolygonAt}

-- a mesh that has passed 40 has its rows; and they are the same with no vertices
pub rows_ready : {m : Handed} → GoodBuffers m → RowsReady m
rows_ready g = record { few = g.few_polygons; corners = omega (arith, g.polygons); links = omega (arith, g.polygons, g.links) }

pub links_ready : (nvp : ℕ) (vs ps ls : List ℕ) → RowsReady (handed_in nvp vs ps ls) → RowsReady (links_in nvp ps ls)
unfolding polygon_count
links_ready nvp vs ps ls r = record { few = r.few; corners = r.corners; links = r.links }

-- what `count_corners` says of the row of polygon i, which is lent as k words, says where its corners end
pub row_ends : (nvp : ℕ) (ps : List ℕ) (i k c : ℕ) → k ≡ nvp → i * nvp + nvp ≤ length ps
    → (c ≡ length (up_to_none (view ps (i * nvp) k))) × (take c (view ps (i * nvp) k) ≡ up_to_none (view ps (i * nvp) k)) → RowEnds nvp ps i (i * nvp + c)
row_ends nvp ps i k c e h q = record {
  count = ap (λ (n : ℕ). i * nvp + n) (q.0 ∙ ap (λ (x : ℕ). length (up_to_none (view ps (i * nvp) x))) e);
  corners = corners_there ps (i * nvp) nvp k c e h q (i * nvp + c - i * nvp) (omega arith);
  within = omega (arith, count_most ps (i * nvp) nvp k c e h q);
}

module _ (m : Handed) (r : RowsReady m) (i : ℕ) (h : i < polygon_count m) where
  pub row_fits : i * m.nvp + m.nvp ≤ length m.polygons
  row_fits = block_fits i (polygon_count m) m.nvp (length m.polygons) h r.corners

  pub links_fit : i * m.nvp + m.nvp ≤ length m.links
  links_fit = block_fits i (polygon_count m) m.nvp (length m.links) h r.links

  links_read : get_or (mesh_in m).links i [] ≡ view m.links (i * m.nvp) (length (up_to_none (row_at m.nvp m.polygons i)))
  unfolding mesh_in decoded stored_links stored_polygon
  links_read = get_or_tab (stored_links m.nvp (buffers_of m)) (polygon_count m) i [] h

  -- its corners end at t
  module _ (t : ℕ) (e : RowEnds m.nvp m.polygons i t) where
    links_lent : view m.links (i * m.nvp) (t - i * m.nvp) ≡ get_or (mesh_in m).links i []
    links_lent =
        let l : length (up_to_none (row_at m.nvp m.polygons i)) ≡ t - i * m.nvp = omega (arith, e.count) in
        sym (links_read ∙ ap (view m.links (i * m.nvp)) l)

    pub count_is : t - i * m.nvp ≡ length (corners_at (mesh_in m) i)
    count_is =
        let l : t - i * m.nvp ≡ length (up_to_none (row_at m.nvp m.polygons i)) = omega (arith, e.count) in
        l ∙ ap length (sym (corners_read m i h))

    pub polygon_lent : {np : ℕ} → np ≡ polygon_count m
        → PolygonAt m np i (view m.polygons (i * m.nvp) (t - i * m.nvp)) (view m.links (i * m.nvp) (t - i * m.nvp))
    polygon_lent n = record {
      ready = r;
      count = n;
      there = rw n h;
      corners = e.corners ∙ sym (corners_read m i h);
      links = links_lent;
      alike =
          length_view m.links (i * m.nvp) (t - i * m.nvp) (omega (arith, links_fit, e.within, e.count))
          ∙ sym (length_view m.polygons (i * m.nvp) (t - i * m.nvp) (omega (arith, row_fits, e.within, e.count)));
    }
