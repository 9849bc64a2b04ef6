-- The join of two values: the corners past a side of each, one after the other, are the corners of the join. Assumes nothing.
use mathlib.Core.Path.{◌≡◌, refl, sym, ap, ◌∙◌}
use mathlib.Core.Bool.{cond}
use mathlib.Core.List.{List, ◌++◌}
use Prim.Native.Nat.{ℕ, ◌+◌, ◌-◌, ◌*◌, ◌%◌, ◌≤◌, ◌<◌}
use native.Mathlib.Omega.{arith}
use native.Mathlib.Nat.{mod-lt}
use mir.Syntax.{w64}
use mir.Val.{Fits}
use lib.Dec.{eqb}
use lib.ListN.{length, get_or, replicate, length-append}
use Rattle.mem.specs.Slice.{splice, splice_append}
use Rattle.mem.specs.Tab.{tab, Filled, filled_all}
use Rattle.rules.specs.Links.{none}
use Rattle.rules.specs.Exits.{padded}
use Rattle.rules.specs.Mesh.{corner_round}
use Rattle.rules.specs.Merge.{past_side, joined}
use Rattle.laws.proofs.Joins.{length_past}
use Rattle.records.specs.Layout.{most_corners}
use Rattle.records.specs.Values.{corners_of, polygon_of, Loaded, On}
use Rattle.records.specs.Polygons.{length_corners, get_or_corners, padded_splice, poly_eq}
use Rattle.records.specs.declared.polygon.Poly.{Poly}

-- the k-th corner past side e
unfoldable pub past : List ℕ → ℕ → ℕ → ℕ
past cs e k = corner_round cs (e + 1 + k)

-- a corner counted round has a place among the words of corners
pub round_below : (p : Poly) (e k : ℕ) → On p e → k % p.n < most_corners
round_below p e k o = omega (arith, mod-lt k {m = p.n} (omega (arith, o.below)), o.most)

pub round_fits : (p : Poly) (e k : ℕ) → On p e → Fits w64 (k % p.n * 4)
round_fits p e k o = omega (arith, round_below p e k o)

module _ (p : Poly) (l : length p.corners ≡ most_corners) (e : ℕ) (o : On p e) where
  pub past_at : (k : ℕ) → get_or p.corners ((e + 1 + k) % p.n) 0 ≡ past (corners_of p) e k
  unfolding past
  past_at k = rw (length_corners p l o.most, get_or_corners p ((e + 1 + k) % p.n) (mod-lt (e + 1 + k) (omega (arith, o.below))))

  -- the loop has written all of them
  pub past_put : {c d : List ℕ} {at i : ℕ} → Filled c at (past (corners_of p) e) (p.n - 1) d i → p.n - 1 ≤ i → d ≡ splice c at (past_side (corners_of p) e)
  unfolding past past_side
  past_put {c} {d} {at} f h =
      filled_all f h ∙ ap (λ (n : ℕ). splice c at (tab (past (corners_of p) e) (n - 1))) (sym (length_corners p l o.most))

  past_long : length (past_side (corners_of p) e) ≡ p.n - 1
  past_long = length_past (corners_of p) e ∙ ap (λ (n : ℕ). n - 1) (length_corners p l o.most)

-- both are written, one behind the other, into an array of blanks
pub join_made : (p q : Poly) (i j : ℕ) → length p.corners ≡ most_corners → length q.corners ≡ most_corners → On p i → On q j → p.n + q.n ≤ most_corners + 2
    → {c d : List ℕ} {g : ℕ} → c ≡ splice (replicate most_corners none) 0 (past_side (corners_of p) i) → d ≡ splice c (p.n - 1) (past_side (corners_of q) j)
    → g ≡ cond (eqb p.region q.region) p.region 0
    → Loaded (joined (polygon_of p) (polygon_of q) i j) (record { corners = d; n = p.n - 1 + (q.n - 1); region = g; code = p.code })
unfolding joined polygon_of
join_made p q i j l m op oq h {c} {d} {g} e f r =
    let X : List ℕ = past_side (corners_of p) i in
    let Y : List ℕ = past_side (corners_of q) j in
    let lx : length X ≡ p.n - 1 = past_long p l i op in
    let long : length (X ++ Y) ≡ p.n - 1 + (q.n - 1) = simp length-append (omega (arith, lx, past_long q m j oq)) in
    let at : p.n - 1 ≡ 0 + length X = omega (arith, lx) in
    let small : p.n - 1 + (q.n - 1) ≤ most_corners = omega (arith, op.below, oq.below) in
    let made : d ≡ padded most_corners (X ++ Y) =
    f ∙ rw (at, e) (splice_append (replicate most_corners none) 0 X Y ∙ padded_splice most_corners (X ++ Y) (omega (arith, long, small))) in
    record { is = poly_eq _ _ made (sym long) r refl; count = sym long; most = small }
