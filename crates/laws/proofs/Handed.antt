-- A mesh that is handed in is sound exactly if its sentences hold: what `rules` states in its file `Handed`. Assumes nothing.
-- Key: `sound_exactly`; `good_buffers`, `good_corners`: what the tests of 40 and 41 say, for code that goes on behind them.
use Rattle.std.specs.Prelude.{ℕ, ◌*◌, ◌≤◌, ◌<◌, false, ◌&&◌, ◌||◌, ◌≢◌, [], leb, get_or, Option, Some, None, Result, Ok, Err, ⊤}
use Rattle.std.proofs.Common.{arith, sym, ◌∙◌, ap}
use Rattle.std.proofs.Math.Path.{◌≡◌, refl}
use Rattle.std.proofs.Math.Bool.{Bool, true, not}
use Rattle.std.proofs.Math.Logic.{⊎_elim}
use Rattle.std.proofs.Math.Dec.{eqb, ltb}
use borrow.Author.Tests.{ltb-true, ltb-false, leb-true, eqb-true, eqb-false, not-true, lt-ltb, le-ltb, le-leb, eq-eqb, ne_eqb}
use Rattle.std.proofs.Math.ListN.{length}
use Rattle.ints.specs.Bools.{and_left, and_right, or_left, or_right}
use Rattle.mem.specs.Cases.{lt_or_le}
use Rattle.rules.specs.declared.Vertex.{Vertex}
use Rattle.rules.specs.declared.Fault.{Fault}
use Rattle.rules.specs.declared.Fault.TheVariants.{BadBuffers, BadCorners, BadLinks}
use Rattle.rules.specs.Plane.{on_plane, InGrid}
use Rattle.rules.specs.Weld.{no_vertex}
use Rattle.rules.specs.Mesh.{side_start, side_end}
use Rattle.rules.specs.Links.{none}
use Rattle.rules.specs.Checks.{vertex_stride, is_high}
use Rattle.rules.specs.Exits.{Stored}
use Rattle.rules.specs.Handed.{Handed, vertex_count, polygon_count, mesh_in, corner_word, link_word, corners_at, link_at, all_of, any_of, first_fault, blocks_agree}
use Rattle.rules.specs.Handed.{within_limits, are_few, buffers_hold, corners_hold, names_back, last_portal, link_holds, links_hold, or_fault, soundness}
use Rattle.rules.specs.Handed.{GoodBuffers, GoodCorners, NamedBack, GoodLinks, Consistent, SoundExactly}
use Rattle.laws.specs.Tests.{One}
use Rattle.laws.proofs.Tests.{and_both, all_of_lem, all_true, any_of_lem, any_true, no_fault, fault_none}

-- ---- a vertex within the limits
in_grid : (v : Vertex) → not (is_high v) ≡ true → InGrid (on_plane v)
unfolding is_high
in_grid v e =
    let n = not-true (ltb 32767 v.x || ltb 32767 v.z) e in
    record {
      x_small = ltb-false 32767 v.x (or_left (ltb 32767 v.x) (ltb 32767 v.z) n);
      z_small = ltb-false 32767 v.z (or_right (ltb 32767 v.x) (ltb 32767 v.z) n);
    }

not_high : (v : Vertex) → InGrid (on_plane v) → not (is_high v) ≡ true
unfolding is_high
not_high v g = rw (le-ltb 32767 v.x g.x_small, le-ltb 32767 v.z g.z_small) refl

-- ---- a link that holds

module _ (s : Stored) (i j : ℕ) where
  -- whether side q of polygon l names side j of polygon i back
  abbrev back_at : ℕ → ℕ → Bool
  back_at l q = names_back (corners_at s l) (get_or s.links l []) (side_start (corners_at s i) j) (side_end (corners_at s i) j) i q

  named : (l : ℕ) → link_at s.links i j ≡ l → l < length s.polygons → l ≢ i → One (back_at l) (length (corners_at s l))
      → NamedBack s.polygons s.links i j
  unfolding names_back
  named l e there other o =
      let x = eqb (side_start (corners_at s l) o.k) (side_end (corners_at s i) j) in
      let y = eqb (side_end (corners_at s l) o.k) (side_start (corners_at s i) j) in
      let z = eqb (link_at s.links l o.k) i in
      let r = and_right x (y && z) o.holds in
      record {
        side = o.k;
        there = rw e there;
        other = λ q. other (sym e ∙ q);
        within = rw e o.below;
        starts = rw e (eqb-true _ _ (and_left x (y && z) o.holds));
        ends = rw e (eqb-true _ _ (and_left y z r));
        back = rw e (eqb-true _ _ (and_right y z r));
      }

  named_link : link_holds s i j ≡ true → link_at s.links i j < none → NamedBack s.polygons s.links i j
  unfolding link_holds
  named_link e h =
      let l = link_at s.links i j in
      let a = ltb l (length s.polygons) in
      let b = not (eqb l i) in
      let c = any_of (back_at l) 0 (length (corners_at s l)) in
      let t : (a && (b && c)) ≡ true = rw (lt-ltb l none h) at e in
      let r = and_right a (b && c) t in
      named l refl (ltb-true l (length s.polygons) (and_left a (b && c) t)) (eqb-false l i (not-true (eqb l i) (and_left b c r)))
      (any_true (back_at l) (length (corners_at s l)) (and_right b c r))

  link_most_lem : link_holds s i j ≡ true → link_at s.links i j ≤ last_portal
  unfolding link_holds
  link_most_lem e = let l = link_at s.links i j in ⊎_elim
      (λ (h : link_at s.links i j < none). omega arith)
      (λ (h : none ≤ link_at s.links i j). leb-true l last_portal (rw (le-ltb l none h) at e))
      (lt_or_le l none)

  link_holds_lem : (link_at s.links i j < none → NamedBack s.polygons s.links i j) → link_at s.links i j ≤ last_portal → link_holds s i j ≡ true
  unfolding link_holds names_back
  link_holds_lem f most = let l = link_at s.links i j in ⊎_elim
      (λ (h : link_at s.links i j < none).
      let n = f h in
      rw (lt-ltb l none h)
      (and_both _ _ (lt-ltb l (length s.polygons) n.there)
      (and_both _ _ (ap not (ne_eqb l i n.other))
      (any_of_lem (back_at l) (length (corners_at s l)) n.side n.within
      (and_both _ _ (eq-eqb _ _ n.starts) (and_both _ _ (eq-eqb _ _ n.ends) (eq-eqb _ _ n.back)))))))
      (λ (h : none ≤ link_at s.links i j). rw (le-ltb l none h) (le-leb l last_portal most))
      (lt_or_le l none)

-- ---- each test, and what it says

module _ (m : Handed) where
  pub good_buffers : buffers_hold m ≡ true → GoodBuffers m
  unfolding buffers_hold blocks_agree within_limits are_few
  good_buffers e = record {
    vertices = eqb-true _ _ (and_left whole _ a);
    polygons = eqb-true _ _ (and_left blocks _ (and_right whole _ a));
    links = eqb-true _ _ (and_right blocks _ (and_right whole _ a));
    few_vertices = leb-true _ _ (and_left (leb (vertex_count m) 65535) _ b);
    few_polygons = leb-true _ _ (and_right (leb (vertex_count m) 65535) _ b);
    nvp_low = leb-true _ _ (and_left (leb 3 m.nvp) _ c);
    nvp_high = leb-true _ _ (and_left (leb m.nvp 12) _ (and_right (leb 3 m.nvp) _ c));
    grid = λ k h. in_grid (get_or (mesh_in m).vertices k no_vertex)
        (all_true (λ k. not (is_high (get_or (mesh_in m).vertices k no_vertex))) 0 (vertex_count m)
        (and_right (leb m.nvp 12) _ (and_right (leb 3 m.nvp) _ c)) k (omega arith) h);
  }
    where
      whole : Bool
      whole = eqb (length m.vertices) (vertex_count m * vertex_stride)

      blocks : Bool
      blocks = eqb (length m.polygons) (polygon_count m * m.nvp)

      few : Bool
      few = are_few (vertex_count m) (polygon_count m)

      a : blocks_agree m ≡ true
      a = and_left (blocks_agree m) _ e

      b : are_few (vertex_count m) (polygon_count m) ≡ true
      b = and_left few _ (and_right (blocks_agree m) _ e)

      c : within_limits m ≡ true
      c = and_right few _ (and_right (blocks_agree m) _ e)

  buffers_good : GoodBuffers m → buffers_hold m ≡ true
  unfolding buffers_hold blocks_agree within_limits are_few
  buffers_good g =
      and_both _ _
      (and_both _ _ (eq-eqb _ _ g.vertices) (and_both _ _ (eq-eqb _ _ g.polygons) (eq-eqb _ _ g.links)))
      (and_both _ _
      (and_both _ _ (le-leb _ _ g.few_vertices) (le-leb _ _ g.few_polygons))
      (and_both _ _ (le-leb _ _ g.nvp_low) (and_both _ _ (le-leb _ _ g.nvp_high)
      (all_of_lem (λ k. not (is_high (get_or (mesh_in m).vertices k no_vertex))) 0 (vertex_count m) (λ k a h. not_high _ (g.grid k h))))))

  pub good_corners : (i : ℕ) → corners_hold m i ≡ true → GoodCorners m i
  unfolding corners_hold
  good_corners i e =
      let n = length (corners_at (mesh_in m) i) in
      let in_range = all_of (λ k. ltb (corner_word m i k) (vertex_count m)) 0 n in
      let after = all_of (λ k. eqb (corner_word m i k) none) n m.nvp in
      let r = and_right (leb 3 n) (in_range && after) e in
      record {
        long = leb-true 3 n (and_left (leb 3 n) (in_range && after) e);
        inside = λ k h. ltb-true (corner_word m i k) (vertex_count m)
            (all_true (λ k. ltb (corner_word m i k) (vertex_count m)) 0 n (and_left in_range after r) k (omega arith) h);
        after = λ k a h. eqb-true (corner_word m i k) none (all_true (λ k. eqb (corner_word m i k) none) n m.nvp (and_right in_range after r) k a h);
      }

  corners_good : (i : ℕ) → GoodCorners m i → corners_hold m i ≡ true
  unfolding corners_hold
  corners_good i g =
      let n = length (corners_at (mesh_in m) i) in
      and_both _ _ (le-leb 3 n g.long)
      (and_both _ _
      (all_of_lem (λ k. ltb (corner_word m i k) (vertex_count m)) 0 n (λ k a h. lt-ltb (corner_word m i k) (vertex_count m) (g.inside k h)))
      (all_of_lem (λ k. eqb (corner_word m i k) none) n m.nvp (λ k a h. eq-eqb (corner_word m i k) none (g.after k a h))))

  pub good_links : (i : ℕ) → links_hold m i ≡ true → GoodLinks m i
  unfolding links_hold
  good_links i e =
      let n = length (corners_at (mesh_in m) i) in
      let after = all_of (λ k. eqb (link_word m i k) none) n m.nvp in
      let each : (j : ℕ) → j < n → link_holds (mesh_in m) i j ≡ true =
      λ j h. all_true (link_holds (mesh_in m) i) 0 n (and_left (all_of (link_holds (mesh_in m) i) 0 n) after e) j (omega arith) h in
      record {
        named = λ j h l. named_link (mesh_in m) i j (each j h) l;
        most = λ j h. link_most_lem (mesh_in m) i j (each j h);
        after = λ k a h. eqb-true (link_word m i k) none
            (all_true (λ k. eqb (link_word m i k) none) n m.nvp (and_right (all_of (link_holds (mesh_in m) i) 0 n) after e) k a h);
      }

  links_good : (i : ℕ) → GoodLinks m i → links_hold m i ≡ true
  unfolding links_hold
  links_good i g =
      let n = length (corners_at (mesh_in m) i) in
      and_both _ _
      (all_of_lem (link_holds (mesh_in m) i) 0 n (λ j a h. link_holds_lem (mesh_in m) i j (g.named j h) (g.most j h)))
      (all_of_lem (λ k. eqb (link_word m i k) none) n m.nvp (λ k a h. eq-eqb (link_word m i k) none (g.after k a h)))

-- ---- 40 to 42, in their order

module _ (fault : ℕ → Fault) (rest : Result ⊤ Fault) where
  not_broken : (f : Option ℕ) → or_fault fault f rest ≡ (Ok tt) → f ≡ None
  unfolding or_fault
  not_broken (Some i) e = let z : ◌≡◌ {A = ℕ} 0 1 = cc in absurd (omega arith)
  not_broken None e = refl

  rest_sound : (f : Option ℕ) → or_fault fault f rest ≡ (Ok tt) → rest ≡ (Ok tt)
  unfolding or_fault
  rest_sound (Some i) e = let z : ◌≡◌ {A = ℕ} 0 1 = cc in absurd (omega arith)
  rest_sound None e = e

  passed_on : {f : Option ℕ} → f ≡ None → rest ≡ (Ok tt) → or_fault fault f rest ≡ (Ok tt)
  unfolding or_fault
  passed_on e h = rw e h

module _ (m : Handed) where
  abbrev in_links : Result ⊤ Fault
  in_links = or_fault BadLinks (first_fault (links_hold m) (polygon_count m)) (Ok tt)

  abbrev in_order : Result ⊤ Fault
  in_order = or_fault BadCorners (first_fault (corners_hold m) (polygon_count m)) in_links

  pub in_order_lem : buffers_hold m ≡ true → soundness m ≡ in_order
  unfolding soundness
  in_order_lem e = rw (e, soundness) refl

  pub out_of_order : buffers_hold m ≡ false → soundness m ≡ Err BadBuffers
  unfolding soundness
  out_of_order e = rw (e, soundness) refl

  buffers_hold_lem : soundness m ≡ (Ok tt) → buffers_hold m ≡ true
  buffers_hold_lem e = go (buffers_hold m) refl
    where
      go : (t : Bool) → buffers_hold m ≡ t → buffers_hold m ≡ true
      go true q = q
      go false q = let x = sym (out_of_order q) ∙ e in let z : ◌≡◌ {A = ℕ} 0 1 = cc in absurd (omega arith)

  consistent : soundness m ≡ (Ok tt) → Consistent m
  consistent e =
      let corners = sym (in_order_lem (buffers_hold_lem e)) ∙ e in
      let links = rest_sound BadCorners in_links (first_fault (corners_hold m) (polygon_count m)) corners in
      record {
        buffers = good_buffers m (buffers_hold_lem e);
        corners = λ i h. good_corners m i (fault_none (corners_hold m) (polygon_count m) (not_broken BadCorners in_links _ corners) i h);
        links = λ i h. good_links m i (fault_none (links_hold m) (polygon_count m) (not_broken BadLinks (Ok tt) _ links) i h);
      }

  sound : Consistent m → soundness m ≡ (Ok tt)
  sound c =
      in_order_lem (buffers_good m c.buffers)
      ∙ passed_on BadCorners in_links (no_fault (corners_hold m) (polygon_count m) (λ i h. corners_good m i (c.corners i h)))
      (passed_on BadLinks (Ok tt) (no_fault (links_hold m) (polygon_count m) (λ i h. links_good m i (c.links i h))) refl)

pub sound_exactly : SoundExactly
sound_exactly m = (consistent m, sound m)
