-- Demand 3, as `rules` states it: of every job that is built, ground is neither lost nor cut twice; and the corners add up. Assumes nothing.
-- Key: `area_law`, `contour_corner_law`, `removal_corner_law`, `corner_law`.
use Rattle.std.specs.Prelude.{ℕ, ◌-◌, ◌≤◌, ◌≡◌, refl, Bool, true, false, cond, List, [], ◌∷◌, pos, ◌+ℤ◌, ◌-ℤ◌, length}
use Rattle.std.proofs.Common.{arith, ap₂}
use Rattle.ints.specs.Ring.{nat, ◌⊖◌, is_eq}
use Rattle.rules.specs.Mesh.{Polygon, no_polygon}
use Rattle.rules.specs.Removal.{Removal}
use Rattle.rules.specs.Job.{count_t}
use Rattle.rules.specs.Areas.{sum_of, spare_corners, spares_of, corners_taken, AreaLaw, ContourCorners, RemovalCorners, CornerLaw}
use Rattle.laws.specs.Lists.{All, none, more, total}
use Rattle.laws.proofs.Lists.{all_of_lem}
use Rattle.laws.specs.Measures.{spares_in, taken_by}
use Rattle.laws.specs.Merge.{Long}
use Rattle.laws.proofs.Removal.{corners_removed}
use Rattle.laws.proofs.Contours.{contour_corners}
use Rattle.laws.proofs.Build.{balanced, goes_may, long_enough}

pub area_law : AreaLaw
area_law j b m ls log e = (balanced j b m ls log e).areas

-- ---- corners: the rules' sum is in ℤ, the laws count in ℕ

less_two : (n : ℕ) → 2 ≤ n → pos n -ℤ pos 2 ≡ pos (n - 2)
less_two n h = is_eq (nat n ⊖ nat 2) (nat (n - 2)) (omega arith)

spares_stated : {ps : List Polygon} → All Long ps → spares_of ps ≡ pos (spares_in ps)
unfolding spares_of sum_of spare_corners total
spares_stated none = refl
spares_stated (more {a = p} h a) = ap₂ ◌+ℤ◌ (less_two (length p.corners) (omega arith)) (spares_stated a)

taken_stated : (r : Removal) → corners_taken r ≡ pos (taken_by r)
unfolding corners_taken
taken_stated r = go r.closed
  where
    go : (b : Bool) → cond b (pos 2) (pos 1) ≡ pos (cond b 2 1)
    go true = refl
    go false = refl

all_taken : (log : List Removal) → sum_of corners_taken log ≡ pos (total taken_by log)
unfolding sum_of total
all_taken [] = refl
all_taken (r ∷ log) = ap₂ ◌+ℤ◌ (taken_stated r) (all_taken log)

pub contour_corner_law : ContourCorners
contour_corner_law nvp region code vs numbers ps ts three low e =
    let c = contour_corners nvp region code vs numbers ps ts three low e in
    rw (spares_stated c.long, c.spares, less_two (length ps) (omega arith)) refl

pub removal_corner_law : RemovalCorners
removal_corner_law nvp i m t r three long g q =
    let a = all_of_lem m.polygons no_polygon long in
    let s = corners_removed nvp i m t r three a (goes_may i m g) q in
    rw (spares_stated s.long, spares_stated a, taken_stated r)
    (is_eq (nat (spares_in t.polygons)) (nat (spares_in m.polygons) ⊖ nat (taken_by r)) (omega (arith, s.spares)))

pub corner_law : CornerLaw
corner_law j b m ls log e =
    let h = balanced j b m ls log e in
    rw (spares_stated (long_enough j.nvp m h.sound), all_taken log)
    (is_eq (nat (spares_in m.polygons)) (nat (count_t j) ⊖ nat (total taken_by log)) (omega (arith, h.spares)))
