-- R6: links are mutual. A side from a to b whose link is a polygon names another one, which has a side from b to a that names it back. Each side is recorded
-- once, and takes a record once, so that no link is written twice; the two ends of a record run against each other. Assumes nothing.
-- Key: `links_mutual`: of R6's links; `portals_mutual`, `portals_open`: of the links with R7's portals.
use Prim.Native.Nat.{ℕ, ◌≤◌, ◌<◌}
use Rattle.std.proofs.Common.{arith, sym, ◌∙◌, subst, ⊎_elim, eq-eqb, ne_eqb}
use Rattle.std.specs.Prelude.{◌≡◌, Bool, ◌≢◌, ltb, length, get_or}
use Rattle.std.proofs.Math.Path.{refl}
use Rattle.std.proofs.Math.Bool.{true, false, cond}
use mathlib.Core.List.{List, []}
use Rattle.ints.specs.Bools.{cond_ind}
use Rattle.mem.specs.Cases.{eq_or_ne}
use Rattle.mem.specs.Tab.{tab, get_or_tab}
use Rattle.rules.specs.declared.Point.{Point}
use Rattle.rules.specs.declared.Vertex.{Vertex}
use Rattle.rules.specs.Mesh.{Polygon, polygon_at, side_start, side_end, place_of}
use Rattle.rules.specs.Links.{none, edges_of, links_of}
use Rattle.rules.specs.Portals.{portal_of, portal_at, portals_in, portals}
use Rattle.rules.specs.Handed.{link_at, NamedBack}
use Rattle.rules.specs.Checker.{open_link}
use Rattle.laws.proofs.Links.{portal_ind}
use Rattle.laws.specs.EdgeSides.{Runs, edge_at}
use Rattle.laws.specs.EdgeJoins.{Joins}
use Rattle.laws.proofs.EdgeJoins.{all_joined}
use Rattle.laws.specs.EdgeLinks.{From, above, below, Storing}
use Rattle.laws.proofs.EdgeLinks.{all_stored}

-- ---- links are mutual

moved : {ps : List Polygon} {i j p q a b : ℕ} → Runs ps p q a b → p ≡ i → q ≡ j → Runs ps i j a b
moved {ps} {i} {j} {p} {q} {a} {b} r e f = subst (λ (x : ℕ). Runs ps x j a b) e (subst (λ (y : ℕ). Runs ps p y a b) f r)

named_back : (ps : List Polygon) (ls : List (List ℕ)) (i j l q a b : ℕ) → link_at ls i j ≡ l → i ≢ l → Runs ps i j a b → Runs ps l q b a → link_at ls l q ≡ i
    → NamedBack ps ls i j
named_back ps ls i j l q a b e ne s r x = record {
  side = q;
  there = rw e r.there;
  other = λ y. ne (sym y ∙ e);
  within = rw e r.within;
  starts = rw e (r.starts ∙ sym s.ends);
  ends = rw e (r.ends ∙ sym s.starts);
  back = rw e x;
}

pub links_mutual : (ps : List Polygon) (i j : ℕ) → link_at (links_of ps) i j ≢ none → NamedBack ps (links_of ps) i j
links_mutual ps i j ne = go (s.from i j ne)
  where
    s : Storing ps (edges_of ps) (length (edges_of ps)) (links_of ps)
    s = all_stored ps

    r : Joins ps (length ps) 0 (edges_of ps)
    r = all_joined ps

    go : From (edges_of ps) (length (edges_of ps)) i j (link_at (links_of ps) i j) → NamedBack ps (links_of ps) i j
    go (above m h t a b c) =
        let d = edge_at (edges_of ps) m in
        named_back ps (links_of ps) i j d.other d.at d.low d.high c (λ x. t (sym x ∙ sym a))
        (moved (r.good m h).runs a b) ((r.good m h).against t) (s.against m h t ∙ a)
    go (below m h t a b c) =
        let d = edge_at (edges_of ps) m in
        named_back ps (links_of ps) i j d.poly d.side d.high d.low c (λ x. t (a ∙ x))
        (moved ((r.good m h).against t) a b) (r.good m h).runs (s.up m h t ∙ a)

-- ---- with the portals

portal_open : (w h : ℕ) (a b : Point) → none ≤ portal_of w h a b
portal_open = portal_ind (λ (n : ℕ). none ≤ n) (omega arith) (omega arith) (omega arith) (omega arith) (omega arith)

module _ (vs : List Vertex) (w h border : ℕ) (ps : List Polygon) where
  pub open_link_lem : (cs : List ℕ) (j : ℕ) → none ≤ open_link vs w h border cs j
  unfolding open_link
  open_link_lem cs j = cond_ind (λ (n : ℕ). none ≤ n) (ltb 0 border) (portal_open w h _ _) (omega arith)

  module _ (ls : List (List ℕ)) (i j : ℕ) (a : i < length ps) (b : j < length (polygon_at ps i).corners) where
    -- the link of a side of the mesh
    final : link_at (portals vs w h border ps ls) i j
        ≡ cond (ltb 0 border) (portal_at vs w h (polygon_at ps i).corners (get_or ls i []) j) (link_at ls i j)
    unfolding portals portals_in
    final = go (ltb 0 border)
      where
        f : ℕ → List ℕ
        f k = tab (portal_at vs w h (polygon_at ps k).corners (get_or ls k [])) (length (polygon_at ps k).corners)

        go : (t : Bool) → link_at (cond t (tab f (length ps)) ls) i j ≡ cond t (portal_at vs w h (polygon_at ps i).corners (get_or ls i []) j) (link_at ls i j)
        go true = rw (get_or_tab f (length ps) i [] a)
            (get_or_tab (portal_at vs w h (polygon_at ps i).corners (get_or ls i [])) (length (polygon_at ps i).corners) j none b)
        go false = refl

    -- a link stays, and where there is none R7 decides
    linked_stays : link_at ls i j ≢ none → link_at (portals vs w h border ps ls) i j ≡ link_at ls i j
    unfolding portal_at
    linked_stays ne = final ∙ go (ltb 0 border)
      where
        go : (t : Bool) → cond t (portal_at vs w h (polygon_at ps i).corners (get_or ls i []) j) (link_at ls i j) ≡ link_at ls i j
        go true = rw (ne_eqb (link_at ls i j) none ne) refl
        go false = refl

    none_opens : link_at ls i j ≡ none → link_at (portals vs w h border ps ls) i j ≡ open_link vs w h border (polygon_at ps i).corners j
    unfolding portal_at open_link
    none_opens e = final ∙ go (ltb 0 border)
      where
        go : (t : Bool) → cond t (portal_at vs w h (polygon_at ps i).corners (get_or ls i []) j) (link_at ls i j)
            ≡ cond t (portal_of w h (place_of vs (side_start (polygon_at ps i).corners j)) (place_of vs (side_end (polygon_at ps i).corners j))) none
        go true = rw (eq-eqb (link_at ls i j) none e) refl
        go false = e

  module _ (few : length ps < none) (i j : ℕ) (a : i < length ps) (b : j < length (polygon_at ps i).corners) where
    still_named : link_at (portals vs w h border ps (links_of ps)) i j ≡ link_at (links_of ps) i j → NamedBack ps (links_of ps) i j
        → NamedBack ps (portals vs w h border ps (links_of ps)) i j
    still_named e n =
        let l = link_at (links_of ps) i j in
        let x : link_at (links_of ps) (link_at (links_of ps) i j) n.side ≢ none = λ y. omega (arith, n.back) in
        record {
          side = n.side;
          there = rw e n.there;
          other = λ y. n.other (sym e ∙ y);
          within = rw e n.within;
          starts = rw e n.starts;
          ends = rw e n.ends;
          back = rw e (linked_stays (links_of ps) l n.side n.there n.within x ∙ n.back);
        }

    pub portals_mutual : link_at (portals vs w h border ps (links_of ps)) i j < none → NamedBack ps (portals vs w h border ps (links_of ps)) i j
    portals_mutual k =
        let ne : link_at (links_of ps) i j ≢ none = λ e. omega (arith, none_opens (links_of ps) i j a b e, open_link_lem (polygon_at ps i).corners j) in
        still_named (linked_stays (links_of ps) i j a b ne) (links_mutual ps i j ne)

    pub portals_open : none ≤ link_at (portals vs w h border ps (links_of ps)) i j
        → link_at (portals vs w h border ps (links_of ps)) i j ≡ open_link vs w h border (polygon_at ps i).corners j
    portals_open k = ⊎_elim
        (λ (e : link_at (links_of ps) i j ≡ none). none_opens (links_of ps) i j a b e)
        (λ (ne : link_at (links_of ps) i j ≢ none).
        absurd (omega (arith, (links_mutual ps i j ne).there, linked_stays (links_of ps) i j a b ne)))
        (eq_or_ne (link_at (links_of ps) i j) none)
