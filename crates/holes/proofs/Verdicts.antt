-- The test as a whole: what its steps ask for and what they come to. Scratch that was zeros is zeros again. Assumes nothing.
-- Key: `few_sides` and `walked_all`: what the sides say; `not_few` and `by_sides`: what the test says.
use mathlib.Core.Path.{◌≡◌, refl, sym, ap, subst, ◌∙◌}
use mathlib.Core.Bool.{Bool, true, false, ◌&&◌}
use mathlib.Core.List.{List, ◌++◌}
use Prim.Native.Nat.{ℕ, ◌+◌, ◌-◌, ◌*◌, ◌≤◌, ◌<◌}
use native.Mathlib.Omega.{arith}
use borrow.Author.Tests.{lt-ltb, le-ltb}
use lib.Dec.{eqb, leb, ltb}
use lib.ListN.{length, replicate, length-append, length-replicate}
use Rattle.ints.specs.Bools.{and_left}
use Rattle.mem.specs.Slice.{view, splice, splice_over, blank_first, blank_behind, blank_again}
use Rattle.rules.specs.Mesh.{Polygon}
use Rattle.rules.specs.Removal.{sides_left, walk, held_once, neighbours, met_once, can_remove}
use Rattle.rules.specs.declared.Side.{Side}
use Rattle.rules.specs.declared.ChainPoint.{ChainPoint}
use Rattle.laws.specs.Measures.{spares_in}
use Rattle.laws.proofs.Merge.{polygons_few}
use Rattle.laws.proofs.Removal.{sides_few}
use Rattle.records.specs.Layout.{polygons_at, side_size, sides_at, side_records, point_size, point_records}
use Rattle.records.specs.Polygons.{length_polygons}
use Rattle.records.specs.Fixed.{side_fixed, point_fixed, fixed_length}
use Rattle.trails.specs.Sides.{Collected}
use Rattle.trails.specs.Trails.{walk_size, walk_room, WalkedTo}
use Rattle.trails.specs.declared.walk.Walked.{Walked}
use Rattle.holes.specs.Verdict.{Tested, PushReady, few_open, SidesReady, sides_used, TestReady}

-- ---- what the sides say

module _ {w : List ℕ} {o np q rem : ℕ} (r : SidesReady w o np q rem) {u : List ℕ} {n : ℕ} (c : Collected w u o np q rem n) where
  abbrev sides : List Side
  sides = sides_left rem (polygons_at w o np)

  counted : length (side_records sides) ≡ n * side_size
  counted = fixed_length side_fixed sides ∙ rw c.count

  -- words in the scratch, and then zeros in their place
  wiped : (xs : List ℕ) (m : ℕ) → length xs ≡ m → m ≤ n * walk_room → splice (splice w q xs) q (replicate m 0) ≡ w
  wiped xs m e h = blank_again w q (length sides * walk_room) 0 r.blank xs m e (omega (arith, c.count))

  -- too few of them
  pub few_sides : {x : List ℕ} → n ≤ 2 → x ≡ splice u q (replicate (n * side_size) 0) → Tested (sides_used rem (polygons_at w o np)) w false x
  unfolding sides_used
  few_sides h e = record {
    answer = rw (le-ltb 2 (length sides) (omega (arith, c.count)));
    is = e ∙ rw c.is (wiped (side_records sides) (n * side_size) counted (omega arith));
  }

  module _ {x : List ℕ} {e : ℕ} {k : Walked} (many : 2 < n) (f : e ≡ q + walk_size n) (d : WalkedTo u x q e n k) where
    abbrev chain : List ChainPoint
    chain = (walk (sides_at u q n)).chain

    chain_counted : length (point_records chain) ≡ k.points * point_size
    chain_counted = fixed_length point_fixed chain ∙ rw d.points

    chain_few : k.points * point_size ≤ walk_size n
    chain_few = omega (arith, d.counts)

    -- the sides are gone, and behind the chain are zeros as there were
    chain_alone : x ≡ splice w q (point_records chain)
    chain_alone =
        let z = e - q - length chain * point_size in
        let ys = point_records chain ++ replicate z 0 in
        let l : length ys ≡ length (point_records chain) + z = simp (length-append, length-replicate) in
        d.is ∙ ap (λ (b : List ℕ). splice b q ys) c.is
        ∙ splice_over w q (side_records sides) ys (omega (arith, counted, l, chain_counted, d.points, chain_few))
        ∙ blank_behind w q (length sides * walk_room) 0 r.blank (point_records chain) z (omega (arith, c.count, chain_counted, d.points, chain_few))

    -- more than two, and a walk along them
    pub walked_all : {y : List ℕ} → y ≡ splice x q (replicate (k.points * point_size) 0)
        → Tested (sides_used rem (polygons_at w o np)) w (eqb k.left 0) y
    unfolding sides_used
    walked_all g = record {
      answer = rw (d.left, c.sides, lt-ltb 2 (length sides) (omega (arith, c.count)));
      is = g ∙ rw chain_alone (wiped (point_records chain) (k.points * point_size) chain_counted (omega (arith, chain_few)));
    }

-- ---- what the steps of the test ask for, and what they come to

regroup : (a b c d : Bool) → ((a && c) && (b && d)) ≡ (a && (b && (c && d)))
regroup true true c d = refl
regroup true false true d = refl
regroup true false false d = refl
regroup false b c d = refl

parts : (rem : ℕ) (ps : List Polygon) → (few_open rem ps && sides_used rem ps) ≡ can_remove rem ps
unfolding can_remove few_open sides_used
parts rem ps =
    regroup (held_once rem ps) (ltb 2 (length (sides_left rem ps))) (leb (met_once (neighbours rem ps)) 2) (eqb (length (walk (sides_left rem ps)).rest) 0)

module _ {w : List ℕ} {o np q : ℕ} (r : TestReady w o np q) where
  zeros : (n : ℕ) → n ≤ spares_in (polygons_at w o np) * walk_room → view w q n ≡ replicate n 0
  zeros n h = blank_first w q (spares_in (polygons_at w o np) * walk_room) 0 r.blank n h

  pairs_fit : 2 * np ≤ spares_in (polygons_at w o np) * walk_room
  pairs_fit = omega (arith, polygons_few r.long, length_polygons w o np)

  pub push_ready : PushReady w o np q
  push_ready = record { behind = r.behind; small = r.small; room = omega (arith, pairs_fit, r.room); blank = zeros (2 * np) pairs_fit }

  module _ (rem : ℕ) {b : Bool} {u : List ℕ} (f : Tested (few_open rem (polygons_at w o np)) w b u) where
    -- too many neighbours are met once, or a polygon holds the vertex twice
    pub not_few : b ≡ false → Tested (can_remove rem (polygons_at w o np)) w false u
    not_few h = record { answer = rw (sym f.answer ∙ h) at (parts rem (polygons_at w o np)); is = f.is }

    module _ (h : b ≡ true) where
      few : few_open rem (polygons_at w o np) ≡ true
      few = sym f.answer ∙ h

      sides_fit : length (sides_left rem (polygons_at w o np)) * walk_room ≤ spares_in (polygons_at w o np) * walk_room
      unfolding few_open
      sides_fit = omega (arith, sides_few rem (polygons_at w o np) r.long (and_left _ _ few))

      pub sides_ready : SidesReady u o np q rem
      sides_ready = subst (λ (l : List ℕ). SidesReady l o np q rem) (sym f.is) (record {
        behind = r.behind;
        small = r.small;
        room = omega (arith, sides_fit, r.room);
        blank = zeros (length (sides_left rem (polygons_at w o np)) * walk_room) sides_fit;
      })

      -- the rest is up to the sides
      pub by_sides : {a : Bool} {x : List ℕ} → Tested (sides_used rem (polygons_at u o np)) u a x → Tested (can_remove rem (polygons_at w o np)) w a x
      by_sides s = record {
        answer = s.answer ∙ ap (λ (l : List ℕ). sides_used rem (polygons_at l o np)) f.is ∙ (rw few at (parts rem (polygons_at w o np)));
        is = s.is ∙ f.is;
      }
