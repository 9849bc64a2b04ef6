-- The links that the taken records store: each end of a record has the other, and there are no more. Assumes nothing.
-- Key: `all_stored`.
use Rattle.std.specs.Prelude.{ℕ, zero, suc, ◌≤◌, ◌<◌, ◌≡◌, Bool, cond, ◌≢◌, List, [], ◌∷◌, length, get_or, set, replicate}
use Rattle.std.proofs.Common.{arith, sym, ◌∙◌, ap, ⊎_elim, eqb-true, get_or-set_same, get_or-set_other}
use Rattle.std.proofs.Math.Path.{refl}
use Rattle.std.proofs.Math.Bool.{true, false}
use Rattle.std.proofs.Math.Dec.{eqb}
use Rattle.std.proofs.lemmas.Bool.{eqb-false}
use Rattle.std.proofs.lemmas.List.{length-replicate, get_or-replicate}
use Rattle.std.proofs.Math.ListN.{get_or-eq_default}
use Rattle.std.proofs.Math.Seq.{set_out}
use Rattle.mem.specs.Cases.{lt_or_le, eq_or_ne}
use Rattle.mem.specs.Loops.{each_at}
use Rattle.rules.specs.declared.Edge.{Edge}
use Rattle.rules.specs.Mesh.{Polygon, polygon_at}
use Rattle.rules.specs.Links.{none, edges_of, set_link, store_edge, no_links, links_of}
use Rattle.rules.specs.Handed.{link_at}
use Rattle.laws.specs.Links.{Shaped}
use Rattle.laws.proofs.Links.{none_shaped, set_shaped}
use Rattle.laws.specs.EdgeSides.{Runs, edge_at}
use Rattle.laws.proofs.EdgeSides.{up_and_down}
use Rattle.laws.specs.EdgeJoins.{Taken, Joins}
use Rattle.laws.proofs.EdgeJoins.{all_joined}
use Rattle.laws.specs.EdgeLinks.{From, above, below, Storing}

-- ---- the links that are stored

-- a link that is set, and the others
link_same : (ps : List Polygon) (ls : List (List ℕ)) (i j n : ℕ) → Shaped ps ls → i < length ps → j < length (polygon_at ps i).corners
    → link_at (set_link i j n ls) i j ≡ n
unfolding set_link
link_same ps ls i j n s h k =
    let a : i < length ls = rw s.polygons h in
    let b : j < length (get_or ls i []) = rw (s.sides i) k in
    rw (get_or-set_same ls i (set (get_or ls i []) j n) [] a) (get_or-set_same (get_or ls i []) j n none b)

link_other : (ls : List (List ℕ)) (i j n p q : ℕ) → (p ≡ i → q ≡ j → ⊥) → link_at (set_link i j n ls) p q ≡ link_at ls p q
unfolding set_link
link_other ls i j n p q ne = ⊎_elim
    (λ (e : p ≡ i). ⊎_elim
    (λ (a : i < length ls). rw (e, get_or-set_same ls i (set (get_or ls i []) j n) [] a) (get_or-set_other (get_or ls i []) j q n none (ne e)))
    (λ (a : length ls ≤ i). ap (λ (m : List (List ℕ)). link_at m p q) (set_out ls i (set (get_or ls i []) j n) a))
    (lt_or_le i (length ls)))
    (λ (e : p ≢ i). ap (λ (m : List ℕ). get_or m q none) (get_or-set_other ls i p (set (get_or ls i []) j n) [] e))
    (eq_or_ne p i)

-- no links yet
none_yet : (ps : List Polygon) (i j : ℕ) → link_at (no_links ps) i j ≡ none
unfolding no_links
none_yet [] i j = refl
none_yet (p ∷ ps) zero j = ⊎_elim
    (λ (a : j < length p.corners). get_or-replicate (length p.corners) j none none a)
    (λ (a : length p.corners ≤ j). get_or-eq_default (replicate (length p.corners) none) none {n = j} (rw length-replicate a))
    (lt_or_le j (length p.corners))
none_yet (p ∷ ps) (suc i) j = none_yet ps i j

from_more : {es : List Edge} {k i j l : ℕ} → From es k i j l → From es (suc k) i j l
from_more (above m h t a b c) = above m (omega arith) t a b c
from_more (below m h t a b c) = below m (omega arith) t a b c

-- what holds below k, and at k
below_more : (Q : ℕ → Type 0) (k : ℕ) → ((m : ℕ) → m < k → Q m) → Q k → (m : ℕ) → m < suc k → Q m
below_more Q k old new m h = ⊎_elim (λ (a : m < k). old m a) (λ (a : k ≤ m). let e : m ≡ k = omega arith in rw e new) (lt_or_le m k)

module _ (ps : List Polygon) (es : List Edge) (n : ℕ) (r : Joins ps n 0 es) (k : ℕ) (h : k < length es) (ls : List (List ℕ)) (s : Storing ps es k ls) where
  module _ (t : Taken (edge_at es k)) where
    one : List (List ℕ)
    one = set_link (edge_at es k).poly (edge_at es k).side (edge_at es k).other ls

    two : List (List ℕ)
    two = set_link (edge_at es k).other (edge_at es k).at (edge_at es k).poly one

    runs : Runs ps (edge_at es k).poly (edge_at es k).side (edge_at es k).low (edge_at es k).high
    runs = (r.good k h).runs

    back : Runs ps (edge_at es k).other (edge_at es k).at (edge_at es k).high (edge_at es k).low
    back = (r.good k h).against t

    shaped_one : Shaped ps one
    unfolding one
    shaped_one = set_shaped ps _ _ _ ls s.shaped

    -- the link of any side now
    at_other : link_at two (edge_at es k).other (edge_at es k).at ≡ (edge_at es k).poly
    unfolding two
    at_other = link_same ps one (edge_at es k).other (edge_at es k).at (edge_at es k).poly shaped_one back.there back.within

    at_poly : link_at two (edge_at es k).poly (edge_at es k).side ≡ (edge_at es k).other
    unfolding two one
    at_poly = link_other one (edge_at es k).other (edge_at es k).at (edge_at es k).poly (edge_at es k).poly (edge_at es k).side (λ a b. t (sym a))
        ∙ link_same ps ls (edge_at es k).poly (edge_at es k).side (edge_at es k).other s.shaped runs.there runs.within

    at_rest : (p q : ℕ) → (p ≡ (edge_at es k).other → q ≡ (edge_at es k).at → ⊥) → (p ≡ (edge_at es k).poly → q ≡ (edge_at es k).side → ⊥)
        → link_at two p q ≡ link_at ls p q
    unfolding two one
    at_rest p q a b = link_other one (edge_at es k).other (edge_at es k).at (edge_at es k).poly p q a
        ∙ link_other ls (edge_at es k).poly (edge_at es k).side (edge_at es k).other p q b

    -- an earlier record's two sides are not these
    old_up : (m : ℕ) → m < k → Taken (edge_at es m) → link_at two (edge_at es m).poly (edge_at es m).side ≡ (edge_at es m).other
    old_up m a u =
        let b : m < length es = omega arith in
        at_rest (edge_at es m).poly (edge_at es m).side
        (λ x y. up_and_down (r.good m b).runs back (r.good m b).order (r.good k h).order x y)
        (λ x y. let z : m ≡ k = r.apart m k b h x y in omega arith)
        ∙ s.up m a u

    old_against : (m : ℕ) → m < k → Taken (edge_at es m) → link_at two (edge_at es m).other (edge_at es m).at ≡ (edge_at es m).poly
    old_against m a u =
        let b : m < length es = omega arith in
        at_rest (edge_at es m).other (edge_at es m).at
        (λ x y. let z : m ≡ k = r.once m k b h u t x y in omega arith)
        (λ x y. up_and_down runs ((r.good m b).against u) (r.good k h).order (r.good m b).order (sym x) (sym y))
        ∙ s.against m a u

    from_two : (i j : ℕ) → link_at two i j ≢ none → From es (suc k) i j (link_at two i j)
    from_two i j ne = ⊎_elim
        (λ (a : i ≡ (edge_at es k).other). ⊎_elim
        (λ (b : j ≡ (edge_at es k).at). below k (omega arith) t (sym a) (sym b) (rw (a, b) at_other))
        (λ (b : j ≢ (edge_at es k).at). not_other (λ x y. b y))
        (eq_or_ne j (edge_at es k).at))
        (λ (a : i ≢ (edge_at es k).other). not_other (λ x y. a x))
        (eq_or_ne i (edge_at es k).other)
      where
        rest : (i ≡ (edge_at es k).other → j ≡ (edge_at es k).at → ⊥) → (i ≡ (edge_at es k).poly → j ≡ (edge_at es k).side → ⊥) → From es (suc k) i j (link_at two i j)
        rest a b =
            let q : link_at two i j ≡ link_at ls i j = at_rest i j a b in
            rw q (from_more (s.from i j (λ x. ne (q ∙ x))))

        not_other : (i ≡ (edge_at es k).other → j ≡ (edge_at es k).at → ⊥) → From es (suc k) i j (link_at two i j)
        not_other c = ⊎_elim
            (λ (a : i ≡ (edge_at es k).poly). ⊎_elim
            (λ (b : j ≡ (edge_at es k).side). above k (omega arith) t (sym a) (sym b) (rw (a, b) at_poly))
            (λ (b : j ≢ (edge_at es k).side). rest c (λ x y. b y))
            (eq_or_ne j (edge_at es k).side))
            (λ (a : i ≢ (edge_at es k).poly). rest c (λ x y. a x))
            (eq_or_ne i (edge_at es k).poly)

    stored_two : Storing ps es (suc k) two
    unfolding two
    stored_two = record {
      shaped = set_shaped ps _ _ _ one shaped_one;
      up = below_more (λ m. Taken (edge_at es m) → link_at two (edge_at es m).poly (edge_at es m).side ≡ (edge_at es m).other) k old_up (λ u. at_poly);
      against = below_more (λ m. Taken (edge_at es m) → link_at two (edge_at es m).other (edge_at es m).at ≡ (edge_at es m).poly) k old_against (λ u. at_other);
      from = from_two;
    }

  stored_none : (edge_at es k).other ≡ (edge_at es k).poly → Storing ps es (suc k) ls
  stored_none q = record {
    shaped = s.shaped;
    up = below_more (λ m. Taken (edge_at es m) → link_at ls (edge_at es m).poly (edge_at es m).side ≡ (edge_at es m).other) k s.up (λ t. absurd (t q));
    against = below_more (λ m. Taken (edge_at es m) → link_at ls (edge_at es m).other (edge_at es m).at ≡ (edge_at es m).poly) k s.against (λ t. absurd (t q));
    from = λ i j ne. from_more (s.from i j ne);
  }

  store_kept : Storing ps es (suc k) (store_edge es k ls)
  unfolding store_edge two one
  store_kept = go (eqb (edge_at es k).other (edge_at es k).poly) refl
    where
      go : (t : Bool) → eqb (edge_at es k).other (edge_at es k).poly ≡ t
          → Storing ps es (suc k) (cond t ls (set_link (edge_at es k).other (edge_at es k).at (edge_at es k).poly
          (set_link (edge_at es k).poly (edge_at es k).side (edge_at es k).other ls)))
      go true q = stored_none (eqb-true (edge_at es k).other (edge_at es k).poly q)
      go false q = stored_two (eqb-false (edge_at es k).other (edge_at es k).poly q)

pub all_stored : (ps : List Polygon) → Storing ps (edges_of ps) (length (edges_of ps)) (links_of ps)
unfolding links_of
all_stored ps = each_at (store_edge (edges_of ps)) (Storing ps (edges_of ps)) (length (edges_of ps))
    (λ k ls h s. store_kept ps (edges_of ps) (length ps) (all_joined ps) k h ls s) (no_links ps)
    (record {
      shaped = none_shaped ps;
      up = λ m h. absurd (omega arith);
      against = λ m h. absurd (omega arith);
      from = λ i j ne. absurd (ne (none_yet ps i j));
    })
