-- Counts, the neighbours of a vertex, and lists that are written piece by piece. Assumes nothing.
use mathlib.Core.Path.{◌≡◌, refl, sym, ap, ◌∙◌}
use mathlib.Core.Bool.{Bool, true, false, true≢false, ◌&&◌}
use mathlib.Core.List.{List, [], ◌∷◌, ◌++◌, append_assoc, append-nil}
use Prim.Native.Nat.{ℕ, ◌+◌, ◌*◌, ◌≤◌, ◌<◌}
use native.Mathlib.Omega.{arith}
use borrow.Author.Tests.{eq-eqb, ne_eqb, lt-leb, le-leb, ltb-false}
use lib.Dec.{leb, ltb}
use lib.ListN.{length, get_or, replicate, length-append}
use Rattle.mem.specs.Slice.{view, splice, splice_nil, splice_append, length_splice, view_same, blank_again}
use Rattle.mem.specs.Loops.{over, over_turn, over_end, Left, turn, next, end}
use Rattle.mem.specs.Tab.{blocks_after}
use Rattle.mem.specs.Packed.{every_at}
use Rattle.rules.specs.Mesh.{Polygon, no_polygon, polygon_at, side_start, side_end}
use Rattle.rules.specs.Removal.{holds, held_once, other_end, neighbours_in, neighbours, met_once}
use Rattle.laws.proofs.Around.{polygon_few}
use Rattle.records.specs.Layout.{polygon_size, most_corners, polygon_in, polygons_at, Small}
use Rattle.records.specs.Values.{corners_of, polygon_of, Loaded}
use Rattle.records.specs.Polygons.{loaded_of, loaded_corners, length_corners, length_polygons}
use Rattle.records.specs.declared.polygon.Poly.{Poly}
use Rattle.holes.specs.declared.test.Met.{Met}
use Rattle.holes.specs.Verdict.{Wrote, Tested, PushReady, Pushed, few_open}

-- ---- a list that is written piece by piece from `at` on: xs is there, rest is to come

pub record Pushing (v : List ℕ) (at : ℕ) (whole rest : List ℕ) (w : List ℕ) (k : ℕ) : Type 0 where
  pub xs : List ℕ
  pub same : whole ≡ xs ++ rest
  pub is : w ≡ splice v at xs
  pub count : length xs ≡ k
  pub long : length w ≡ length v
  pub fits : at + k ≤ length w

pub pushing_none : (v : List ℕ) (at : ℕ) (whole rest : List ℕ) → whole ≡ rest → at ≤ length v → Pushing v at whole rest v 0
pushing_none v at whole rest e h = record { xs = []; same = e; is = sym (splice_nil v at); count = refl; long = refl; fits = omega arith }

-- what is to come begins with the piece ys
pub record Piece (now ys rest : List ℕ) : Type 0 where
  pub is : now ≡ ys ++ rest

module _ {v : List ℕ} {at : ℕ} {whole : List ℕ} {w : List ℕ} {k : ℕ} {now : List ℕ} (p : Pushing v at whole now w k) where
  -- there is room for it, where there is room for all
  pub pushing_room : {ys rest : List ℕ} → Piece now ys rest → at + length whole ≤ length v → at + k + length ys ≤ length w
  pushing_room {ys} {rest} e h = omega (arith, ap length p.same, length-append p.xs now, ap length e.is, length-append ys rest, p.count, p.long)

  -- and it is written
  pub pushing_more : {u : List ℕ} {m : ℕ} {ys rest : List ℕ} → Piece now ys rest → at + k + length ys ≤ length w → Wrote w (at + k) ys m u
      → Pushing v at whole rest u (k + m)
  pushing_more {u} {m} {ys} {rest} e h q =
      let l : length u ≡ length w = ap length q.is ∙ length_splice w (at + k) ys in
      record {
        xs = p.xs ++ ys;
        same = p.same ∙ rw (e.is, append_assoc p.xs ys rest);
        is = q.is ∙ rw (p.is, ← p.count) (splice_append v at p.xs ys);
        count = rw (length-append p.xs ys, p.count, q.count);
        long = l ∙ p.long;
        fits = omega (arith, q.count);
      }

  pub pushing_end : now ≡ [] → Wrote v at whole k w
  pushing_end e = rw (p.same, e, append-nil) (record { count = sym p.count; is = p.is })

-- ---- the neighbours in one polygon, side by side

-- those on the sides from j on
unfoldable pub ends_from : ℕ → List ℕ → ℕ → ℕ → List ℕ
ends_from rem cs n j = over [] ◌++◌ (λ i. other_end rem (side_start cs i) (side_end cs i)) j n

module _ (rem : ℕ) (p : Poly) where
  pub ends_all : length p.corners ≡ most_corners → p.n ≤ most_corners → neighbours_in rem (corners_of p) ≡ ends_from rem (corners_of p) p.n 0
  unfolding neighbours_in ends_from
  ends_all l h = rw (length_corners p l h)

  pub ends_turn : (j : ℕ) {a b : ℕ} → j < p.n → a ≡ get_or (corners_of p) j 0 → b ≡ side_end (corners_of p) j
      → Piece (ends_from rem (corners_of p) p.n j) (other_end rem a b) (ends_from rem (corners_of p) p.n (j + 1))
  unfolding ends_from
  ends_turn j h e f = record { is = rw (e, f) (over_turn [] ◌++◌ (λ i. other_end rem (side_start (corners_of p) i) (side_end (corners_of p) i)) j p.n h) }

  pub ends_end : (j : ℕ) → p.n ≤ j → ends_from rem (corners_of p) p.n j ≡ []
  unfolding ends_from
  ends_end j h = over_end [] ◌++◌ (λ i. other_end rem (side_start (corners_of p) i) (side_end (corners_of p) i)) j p.n h

-- `other_end`, case by case
pub end_a : (rem a b : ℕ) → a ≡ rem → other_end rem a b ≡ b ∷ []
unfolding other_end
end_a rem a b e = rw (eq-eqb a rem e)

pub end_b : (rem a b : ℕ) → (a ≡ rem → ⊥) → b ≡ rem → other_end rem a b ≡ a ∷ []
unfolding other_end
end_b rem a b n e = rw (ne_eqb a rem n, eq-eqb b rem e)

pub end_none : (rem a b : ℕ) → (a ≡ rem → ⊥) → (b ≡ rem → ⊥) → other_end rem a b ≡ []
unfolding other_end
end_none rem a b n m = rw (ne_eqb a rem n, ne_eqb b rem m)

no_words : (xs : List ℕ) → length xs ≤ 0 → xs ≡ []
no_words [] h = refl
no_words (x ∷ xs) h = absurd (omega arith)

-- polygons before the place that is written
polygons_kept : (w : List ℕ) (o np q : ℕ) (xs : List ℕ) → o + np * polygon_size ≤ q → polygons_at (splice w q xs) o np ≡ polygons_at w o np
unfolding polygons_at
polygons_kept w o np q xs h = blocks_after polygon_in w q o polygon_size np xs h

-- ---- the neighbours in all polygons, one by one, as long as each holds the vertex at most once

-- those in the polygons from i on
unfoldable pub neighbours_from : ℕ → List Polygon → ℕ → ℕ → List ℕ
neighbours_from rem ps n i = over [] ◌++◌ (λ k. neighbours_in rem (polygon_at ps k).corners) i n

-- whether polygon i holds it at most once
abbrev pub held_at : ℕ → List Polygon → ℕ → Bool
held_at rem ps i = leb (holds rem (polygon_at ps i)) 1

-- i polygons were looked at: each holds the vertex at most once, and the neighbours in them are written, k words
pub record Looking (v : List ℕ) (o np q rem : ℕ) (w : List ℕ) (k i : ℕ) : Type 0 where
  pub pushing : Pushing v q (neighbours rem (polygons_at v o np)) (neighbours_from rem (polygons_at v o np) np i) w k
  pub held : Left true ◌&&◌ (held_at rem (polygons_at v o np)) (λ x. x) (held_once rem (polygons_at v o np)) np i
  pub few : k ≤ 2 * i
  pub within : i ≤ np

module _ {v : List ℕ} {o np q : ℕ} (ready : PushReady v o np q) (rem : ℕ) where
  pub look_none : Looking v o np q rem v 0 0
  unfolding neighbours neighbours_from held_once
  look_none = record {
    pushing = pushing_none v q _ _ (rw length_polygons) (omega (arith, ready.room));
    held = record { same = rw length_polygons };
    few = omega arith;
    within = omega arith;
  }

  module _ {w : List ℕ} {k i : ℕ} (l : Looking v o np q rem w k i) where
    kept : polygons_at w o np ≡ polygons_at v o np
    kept = rw l.pushing.is (polygons_kept v o np q l.pushing.xs ready.behind)

    -- polygon i can be loaded
    pub look_small : length (polygon_at (polygons_at w o np) i).corners ≤ most_corners
    look_small = rw kept (every_at Small no_polygon (polygons_at v o np) ready.small i)

    -- all were looked at
    pub look_end : np ≤ i → Pushed v o np q rem (record { once = true; n = k }) w
    unfolding neighbours_from
    look_end h =
        let ps = polygons_at v o np in
        let d = pushing_end l.pushing (over_end [] ◌++◌ (λ j. neighbours_in rem (polygon_at ps j).corners) i np h) in
        record {
          xs = neighbours rem ps;
          count = d.count;
          most = omega (arith, l.few, l.within);
          is = d.is;
          once = sym (end l.held h);
          all = λ e. refl;
        }

    -- polygon i does not hold it: nothing is written
    module _ (h : i < np) {t : Bool} (e : t ≡ ltb 0 (holds rem (polygon_at (polygons_at w o np) i))) (f : t ≡ false) where
      not_held : holds rem (polygon_at (polygons_at v o np) i) ≤ 0
      not_held = ltb-false 0 (holds rem (polygon_at (polygons_at v o np) i)) (rw kept at (sym e ∙ f))

      no_piece : neighbours_from rem (polygons_at v o np) np i ≡ neighbours_from rem (polygons_at v o np) np (i + 1)
      unfolding neighbours_from holds
      no_piece =
          let cs = (polygon_at (polygons_at v o np) i).corners in
          over_turn [] ◌++◌ (λ j. neighbours_in rem (polygon_at (polygons_at v o np) j).corners) i np h
          ∙ rw (no_words (neighbours_in rem cs) (omega (arith, polygon_few rem cs, not_held)))

      pub look_past : Looking v o np q rem w k (i + 1)
      look_past = record {
        pushing = rw no_piece at l.pushing;
        held = next l.held h (λ r. rw (le-leb (holds rem (polygon_at (polygons_at v o np) i)) 1 (omega (arith, not_held))));
        few = omega (arith, l.few);
        within = omega arith;
      }

    module _ (h : i < np) {p : Poly} {c : ℕ} (e : Loaded (polygon_at (polygons_at w o np) i) p) (f : c ≡ holds rem (polygon_of p)) where
      held_is : holds rem (polygon_at (polygons_at v o np) i) ≡ c
      held_is = rw (← kept) (sym (f ∙ ap (holds rem) (loaded_of e)))

      -- polygon i holds it twice
      pub look_twice : 1 < c → Pushed v o np q rem (record { once = false; n = k }) w
      look_twice z = record {
        xs = l.pushing.xs;
        count = sym l.pushing.count;
        most = omega (arith, l.few, l.within);
        is = l.pushing.is;
        once = sym (turn l.held h ∙ rw (held_is, lt-leb c 1 z));
        all = λ (y : false ≡ true). absurd (true≢false (sym y));
      }

      -- what is to come: the neighbours in polygon i, and those in the polygons after it
      piece : Piece (neighbours_from rem (polygons_at v o np) np i) (neighbours_in rem (corners_of p)) (neighbours_from rem (polygons_at v o np) np (i + 1))
      unfolding neighbours_from
      piece = record { is = rw (loaded_corners e, kept) (over_turn [] ◌++◌ (λ j. neighbours_in rem (polygon_at (polygons_at v o np) j).corners) i np h) }

      module _ (z : c ≤ 1) where
        -- or it does not: it has two neighbours at most
        two : length (neighbours_in rem (corners_of p)) ≤ 2
        unfolding holds polygon_of
        two = omega (arith, polygon_few rem (corners_of p), f)

        pub look_room : q + k + length (neighbours_in rem (corners_of p)) ≤ length w
        look_room = omega (arith, two, l.few, l.pushing.long, ready.room)

        pub look_more : {u : List ℕ} {m : ℕ} → Wrote w (q + k) (neighbours_in rem (corners_of p)) m u → Looking v o np q rem u (k + m) (i + 1)
        look_more d = record {
          pushing = pushing_more l.pushing piece look_room d;
          held = next l.held h (λ r. rw (held_is, le-leb c 1 z));
          few = omega (arith, l.few, d.count, two);
          within = omega arith;
        }

-- ---- whether few are met once: the k words that were written are lent, k being written q + k - q, and then zeros again

pub few_tested : {v w u : List ℕ} (o np q rem m : ℕ) {met : Met} {r : ℕ} → PushReady v o np q → Pushed v o np q rem met w → m ≡ met.n
    → r ≡ met_once (view w q m) → u ≡ splice w q (replicate met.n 0) → Tested (few_open rem (polygons_at v o np)) v (met.once && leb r 2) u
unfolding few_open
few_tested {v} {w} {u} o np q rem m {met} {r} ready d z e f = record {
  answer = go met.once refl;
  is = f ∙ rw d.is (blank_again v q (2 * np) 0 ready.blank d.xs met.n (sym d.count) d.most);
}
  where
    go : (b : Bool) → met.once ≡ b → (met.once && leb r 2) ≡ (held_once rem (polygons_at v o np) && leb (met_once (neighbours rem (polygons_at v o np))) 2)
    go true y =
        let s : view w q m ≡ neighbours rem (polygons_at v o np) =
        rw (z, d.is) (view_same v q met.n d.xs (sym d.count) (omega (arith, ready.room, d.most))) ∙ d.all y in
        rw (d.once, e, s)
    go false y = rw (← d.once, y)
