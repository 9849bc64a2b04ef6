-- The records of sides that are taken by sides that run against them: no side takes two. Assumes nothing.
-- Key: `all_joined`.
use Prim.Native.Nat.{ℕ, zero, suc, ◌<◌}
use Rattle.std.specs.Prelude.{◌≡◌, Bool, ◌&&◌, cond, ◌≢◌, List, [], eqb, ltb, set, Option, Some, None}
use Rattle.std.proofs.Math.Path.{refl}
use Rattle.std.proofs.Common.{sym, ◌∙◌, ⊎_elim, eqb-true, get_or-set_same, get_or-set_other}
use Rattle.std.proofs.Math.Bool.{true, false}
use Rattle.std.proofs.Math.ListN.{length, length-set}
use Rattle.ints.specs.Bools.{and_left, and_right}
use Rattle.mem.specs.Cases.{eq_or_ne}
use Rattle.rules.specs.declared.Edge.{Edge}
use Rattle.rules.specs.Lists.{when, or_else, down}
use Rattle.rules.specs.Mesh.{Polygon, polygon_at, side_start, side_end}
use Rattle.rules.specs.Links.{no_edge, each_side, record_side, is_free, newest, joined_to, join_at, join_side, edges_of}
use Rattle.laws.specs.Searches.{found}
use Rattle.laws.proofs.Searches.{found_in}
use Rattle.laws.specs.EdgeSides.{Runs, edge_at}
use Rattle.laws.proofs.EdgeSides.{before_more, before_turn, before_self, not_itself, side_at, all_recorded}
use Rattle.laws.specs.EdgeJoins.{Taken, Joined, Joins}

-- ---- the records taken

-- of a list with another record at k, what holds of it and of the others
set_ind : (Q : ℕ → Edge → Type 0) (es : List Edge) (k : ℕ) (e : Edge) → k < length es → ((m : ℕ) → m ≢ k → m < length es → Q m (edge_at es m)) → Q k e
    → (m : ℕ) → m < length es → Q m (edge_at (set es k e) m)
set_ind Q es k e h old new m l = ⊎_elim
    (λ (q : m ≡ k). rw (q, get_or-set_same es k e no_edge h) new)
    (λ (q : m ≢ k). rw (get_or-set_other es k m e no_edge q) (old m q l))
    (eq_or_ne m k)

-- a free record runs from low to high. (That it is joined to none plays no part: a record that were taken again would keep its last taker)
record Free (a b : ℕ) (e : Edge) : Type 0 where
  low : e.low ≡ a
  high : e.high ≡ b

is_free_lem : (low high : ℕ) (e : Edge) → is_free low high e ≡ true → Free low high e
unfolding is_free
is_free_lem low high e t =
    let x = eqb e.low low in
    let y = eqb e.high high in
    let z = eqb e.other e.poly in
    record { low = eqb-true e.low low (and_left x (y && z) t); high = eqb-true e.high high (and_left y z (and_right x (y && z) t)) }

-- what is found fits
module _ (test : ℕ → Bool) where
  Fits : Option ℕ → Type 0
  Fits (Some k) = test k ≡ true
  Fits None = Unit

  fits_more : (t : Bool) (n : ℕ) (f : Option ℕ) → test n ≡ t → Fits f → Fits (or_else (when t n) f)
  unfolding Fits or_else when
  fits_more true n f e h = e
  fits_more false n f e h = h

  fits : (n : ℕ) → Fits (found test n)
  unfolding down Fits
  fits zero = tt
  fits (suc n) = fits_more (test n) n (found test n) refl (fits n)

  found_fits : (n k : ℕ) → Some k ≡ found test n → test k ≡ true
  unfolding Fits
  found_fits n k e = rw (← e) at (fits n)

module _ (ps : List Polygon) where
  joined_more : {i j : ℕ} {e : Edge} → Joined ps i j e → Joined ps i (suc j) e
  joined_more r = record { runs = r.runs; order = r.order; against = r.against; before = λ t. before_more (r.before t) }

  joined_turn : {i j : ℕ} {e : Edge} → Joined ps i j e → Joined ps (suc i) 0 e
  joined_turn r = record { runs = r.runs; order = r.order; against = r.against; before = λ t. before_turn (r.before t) }

  joins_more : (i j : ℕ) (es : List Edge) → Joins ps i j es → Joins ps i (suc j) es
  joins_more i j es r = record { good = λ k h. joined_more (r.good k h); apart = r.apart; once = r.once }

  -- record k is joined to side j of polygon i, which runs against it
  module _ (i j : ℕ) (es : List Edge) (r : Joins ps i j es) (k : ℕ) (h : k < length es) (side : Runs ps i j (edge_at es k).high (edge_at es k).low) where
    new : Edge
    new = record { low = (edge_at es k).low; high = (edge_at es k).high; poly = (edge_at es k).poly; side = (edge_at es k).side; other = i; at = j }

    new_good : Joined ps i (suc j) new
    unfolding new
    new_good = record { runs = (r.good k h).runs; order = (r.good k h).order; against = λ t. side; before = λ t. before_self i j }

    kept_poly : (m : ℕ) → m < length es → (edge_at (set es k new) m).poly ≡ (edge_at es m).poly
    unfolding new
    kept_poly = set_ind (λ m e. e.poly ≡ (edge_at es m).poly) es k new h (λ m q l. refl) refl

    kept_side : (m : ℕ) → m < length es → (edge_at (set es k new) m).side ≡ (edge_at es m).side
    unfolding new
    kept_side = set_ind (λ m e. e.side ≡ (edge_at es m).side) es k new h (λ m q l. refl) refl

    Once : Edge → Edge → ℕ → ℕ → Type 0
    Once d e x y = Taken d → Taken e → d.other ≡ e.other → d.at ≡ e.at → x ≡ y

    once_new : (x y : ℕ) → x < length es → y < length es → Once (edge_at (set es k new) x) (edge_at (set es k new) y) x y
    unfolding new Once
    once_new x y a b = set_ind (λ x d. Once d (edge_at (set es k new) y) x y) es k new h
        (λ x p a. set_ind (λ y e. Once (edge_at es x) e x y) es k new h
        (λ y q b. r.once x y a b)
        (λ t u v w. absurd (not_itself ((r.good x a).before t) v w)) y b)
        (set_ind (λ y e. Once new e k y) es k new h
        (λ y q b t u v w. absurd (not_itself ((r.good y b).before u) (sym v) (sym w)))
        (λ t u v w. refl) y b) x a

    joins_set : Joins ps i (suc j) (set es k new)
    unfolding Once
    joins_set =
        let n = length-set es k new in
        record {
          good = λ m l. set_ind (λ m e. Joined ps i (suc j) e) es k new h (λ m q l. joined_more (r.good m l)) new_good m (rw n at l);
          apart = λ x y a b u v.
              let c : x < length es = rw n at a in
              let d : y < length es = rw n at b in
              r.apart x y c d (sym (kept_poly x c) ∙ u ∙ kept_poly y d) (sym (kept_side x c) ∙ v ∙ kept_side y d);
          once = λ x y a b. once_new x y (rw n at a) (rw n at b);
        }

  join_kept : (i j : ℕ) (es : List Edge) → i < length ps → j < length (polygon_at ps i).corners → Joins ps i j es → Joins ps i (suc j) (join_side ps i j es)
  unfolding join_side join_at joined_to newest new
  join_kept i j es h k r = go (ltb b a) refl
    where
      a : ℕ
      a = side_start (polygon_at ps i).corners j

      b : ℕ
      b = side_end (polygon_at ps i).corners j

      test : ℕ → Bool
      test n = is_free b a (edge_at es n)

      take : (f : Option ℕ) → f ≡ found test (length es) → Joins ps i (suc j) (join_at i j es f)
      take (Some n) e =
          let l = found_in test (length es) n e in
          let f = is_free_lem b a (edge_at es n) (found_fits test (length es) n e) in
          joins_set i j es r n l (record { there = h; within = k; starts = sym f.high; ends = sym f.low })
      take None e = joins_more i j es r

      go : (t : Bool) → ltb b a ≡ t → Joins ps i (suc j) (cond t (join_at i j es (newest b a es)) es)
      go true e = take (newest b a es) refl
      go false e = joins_more i j es r

  -- the records are those of all sides that run up, and each that is taken is taken by a side that runs against it
  pub all_joined : Joins ps (length ps) 0 (edges_of ps)
  unfolding edges_of
  all_joined =
      let r = all_recorded ps in
      side_at ps (join_side ps) (Joins ps) join_kept
      (λ i es s. record { good = λ k h. joined_turn (s.good k h); apart = s.apart; once = s.once })
      (each_side ps (record_side ps) [])
      (record {
        good = λ k h. record {
          runs = (r.good k h).runs;
          order = (r.good k h).order;
          against = λ t. absurd (t (r.good k h).alone);
          before = λ t. absurd (t (r.good k h).alone);
        };
        apart = r.apart;
        once = λ k m h l t. absurd (t (r.good k h).alone);
      })
