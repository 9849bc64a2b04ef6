-- The sides of a mesh in the order in which R6 goes through them, and the records of those that run from a lower to a higher vertex: each is of a side
-- of its own. Assumes nothing.
-- Key: `all_recorded`; `side_at`: what each side keeps, as it is its turn.
use Prim.Native.Nat.{ℕ, suc, ◌≤◌, ◌<◌}
use Rattle.std.proofs.Common.{arith, sym, ◌∙◌, ⊎_elim, ltb-true, length-append}
use Rattle.std.specs.Prelude.{◌≡◌, Bool, true, false, cond, List, [], ◌∷◌, ◌++◌, ltb, length}
use Rattle.std.proofs.Math.Path.{refl}
use Rattle.std.proofs.Math.ListN.{get_or-append}
use Rattle.std.proofs.lemmas.List.{get_or_at}
use Rattle.mem.specs.Cases.{lt_or_le}
use Rattle.mem.specs.Loops.{each, each_at}
use Rattle.rules.specs.declared.Edge.{Edge}
use Rattle.rules.specs.Lists.{down}
use Rattle.rules.specs.Mesh.{Polygon, polygon_at, side_start, side_end}
use Rattle.rules.specs.Links.{no_edge, each_side, record_side}
use Rattle.laws.specs.EdgeSides.{Before, Runs, edge_at, Recorded, Records}

-- ---- sides, one after the other

pub before_more : {i j p q : ℕ} → Before i j p q → Before i (suc j) p q
before_more b = record { first = b.first; second = λ e. omega (arith, b.second e) }

pub before_turn : {i j p q : ℕ} → Before i j p q → Before (suc i) 0 p q
before_turn b = record { first = omega (arith, b.first); second = λ e. absurd (omega (arith, b.first)) }

pub before_self : (i j : ℕ) → Before i (suc j) i j
before_self i j = record { first = omega arith; second = λ e. omega arith }

pub not_itself : {i j p q : ℕ} → Before i j p q → p ≡ i → q ≡ j → ⊥
not_itself b e f = omega (arith, b.second e)

-- what each side keeps, as it is its turn
module _ {S : Type 0} (ps : List Polygon) (step : ℕ → ℕ → S → S) (P : ℕ → ℕ → S → Type 0)
    (kept : (i j : ℕ) (s : S) → i < length ps → j < length (polygon_at ps i).corners → P i j s → P i (suc j) (step i j s))
    (turned : (i : ℕ) (s : S) → P i (length (polygon_at ps i).corners) s → P (suc i) 0 s) where
  pub side_at : (s : S) → P 0 0 s → P (length ps) 0 (each_side ps step s)
  unfolding each_side
  side_at s p = each_at (λ i t. each (step i) 0 (length (polygon_at ps i).corners) t) (λ i t. P i 0 t) (length ps)
      (λ i t h q. turned i (each (step i) 0 (length (polygon_at ps i).corners) t)
      (each_at (step i) (P i) (length (polygon_at ps i).corners) (λ j u k r. kept i j u h k r) t q)) s p

-- one side does not run up and down
pub up_and_down : {ps : List Polygon} {i j p q a b c d : ℕ} → Runs ps i j a b → Runs ps p q d c → a < b → c < d → i ≡ p → j ≡ q → ⊥
up_and_down {ps} {i} {j} {p} {q} {a} {b} {c} {d} r s up down e f =
    let x : a ≡ d = sym r.starts ∙ rw (e, f) s.starts in
    let y : b ≡ c = sym r.ends ∙ rw (e, f) s.ends in
    omega arith

-- ---- the records

-- of a list with one more, what holds of the old ones and of the new one
more_ind : (Q : ℕ → Edge → Type 0) (es : List Edge) (e : Edge) → ((k : ℕ) → k < length es → Q k (edge_at es k)) → Q (length es) e
    → (k : ℕ) → k < length (es ++ (e ∷ [])) → Q k (edge_at (es ++ (e ∷ [])) k)
more_ind Q es e old new k h = ⊎_elim
    (λ (a : k < length es). rw (get_or-append es (e ∷ []) no_edge k a) (old k a))
    (λ (a : length es ≤ k).
    let q : k ≡ length es = omega (arith, length-append es (e ∷ [])) in
    rw (q, get_or_at es e [] no_edge (length es) refl) new)
    (lt_or_le k (length es))

module _ (ps : List Polygon) where
  recorded_more : {i j : ℕ} {e : Edge} → Recorded ps i j e → Recorded ps i (suc j) e
  recorded_more r = record { runs = r.runs; order = r.order; alone = r.alone; before = before_more r.before }

  recorded_turn : {i j : ℕ} {e : Edge} → Recorded ps i j e → Recorded ps (suc i) 0 e
  recorded_turn r = record { runs = r.runs; order = r.order; alone = r.alone; before = before_turn r.before }

  records_append : (i j : ℕ) (es : List Edge) (e : Edge) → Records ps i j es → Recorded ps i (suc j) e → e.poly ≡ i → e.side ≡ j
      → Records ps i (suc j) (es ++ (e ∷ []))
  records_append i j es e r n p s = record {
    good = more_ind (λ k d. Recorded ps i (suc j) d) es e (λ k h. recorded_more (r.good k h)) n;
    apart = λ k m h l. more_ind (λ x d. d.poly ≡ (edge_at (es ++ (e ∷ [])) m).poly → d.side ≡ (edge_at (es ++ (e ∷ [])) m).side → x ≡ m) es e
        (λ x a. more_ind (λ y d. (edge_at es x).poly ≡ d.poly → (edge_at es x).side ≡ d.side → x ≡ y) es e
        (λ y b. r.apart x y a b)
        (λ u v. absurd (not_itself (r.good x a).before (u ∙ p) (v ∙ s))) m l)
        (more_ind (λ y d. e.poly ≡ d.poly → e.side ≡ d.side → length es ≡ y) es e
        (λ y b u v. absurd (not_itself (r.good y b).before (sym u ∙ p) (sym v ∙ s)))
        (λ u v. refl) m l) k h;
  }

  records_more : (i j : ℕ) (es : List Edge) → Records ps i j es → Records ps i (suc j) es
  records_more i j es r = record { good = λ k h. recorded_more (r.good k h); apart = r.apart }

  record_kept : (i j : ℕ) (es : List Edge) → i < length ps → j < length (polygon_at ps i).corners → Records ps i j es
      → Records ps i (suc j) (record_side ps i j es)
  unfolding record_side
  record_kept i j es h k r = go (ltb a b) refl
    where
      a : ℕ
      a = side_start (polygon_at ps i).corners j

      b : ℕ
      b = side_end (polygon_at ps i).corners j

      new : Edge
      new = record { low = a; high = b; poly = i; side = j; other = i; at = 0 }

      go : (t : Bool) → ltb a b ≡ t → Records ps i (suc j) (cond t (es ++ (new ∷ [])) es)
      go true e = records_append i j es new r
          (record {
            runs = record { there = h; within = k; starts = refl; ends = refl };
            order = ltb-true a b e;
            alone = refl;
            before = before_self i j;
          }) refl refl
      go false e = records_more i j es r

  pub all_recorded : Records ps (length ps) 0 (each_side ps (record_side ps) [])
  all_recorded = side_at ps (record_side ps) (Records ps) record_kept
      (λ i es r. record { good = λ k h. recorded_turn (r.good k h); apart = r.apart })
      [] (record { good = λ k h. absurd (omega arith); apart = λ k m h. absurd (omega arith) })
