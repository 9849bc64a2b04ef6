-- A polygon's doubled area is a sum over its directed sides. Assumes nothing.
-- Key: `area_path`: a list's area is the sum of `cross` over its sides. `Outlines` has what follows for lists turned, reversed or cut.
use Rattle.std.specs.Prelude.{◌+◌, ◌*◌, ◌<◌, ◌≡◌, length, ℤ, pos, neg_ℤ, ◌+ℤ◌}
use Rattle.std.proofs.Common.{arith, ◌∙◌}
use Rattle.std.proofs.Math.Path.{refl, sym, ap}
use mathlib.Core.List.{List, [], ◌∷◌, ◌++◌, map}
use Rattle.std.proofs.Math.IntN.{+ℤ_idr, +ℤ_assoc}
use Rattle.ints.specs.Ring.{Is, at, nat, neg, ◌⊕◌, ◌⊖◌, ◌⊗◌, is_eq, is_move}
use Rattle.rules.specs.declared.Point.{Point}
use Rattle.rules.specs.Plane.{D, fan, area}
use Rattle.laws.specs.Sides.{cross, path}

-- ---- triangles: what each is, as a difference of two naturals
pub cross_is : (p q : Point) → Is (cross p q) (p.x * q.z) (q.x * p.z)
unfolding cross
cross_is p q = is_move (p.x * q.z) (q.x * p.z) (nat p.x ⊗ nat q.z ⊖ nat q.x ⊗ nat p.z) (omega arith)

pub D-is : (a b c : Point) → Is (D a b c) (a.x * b.z + b.x * c.z + c.x * a.z) (b.x * a.z + c.x * b.z + a.x * c.z)
unfolding D
D-is a b c = is_move (a.x * b.z + b.x * c.z + c.x * a.z) (b.x * a.z + c.x * b.z + a.x * c.z)
    ((nat b.x ⊖ nat a.x) ⊗ (nat c.z ⊖ nat a.z) ⊖ (nat c.x ⊖ nat a.x) ⊗ (nat b.z ⊖ nat a.z)) (omega arith)

pub cross_anti : (p q : Point) → cross p q ≡ neg_ℤ (cross q p)
cross_anti p q = is_eq (cross_is p q) (neg (cross_is q p)) (omega arith)

pub cross_self : (p : Point) → cross p p ≡ pos 0
cross_self p = is_eq (cross_is p p) (nat 0) (omega arith)

pub D-cross : (a b c : Point) → D a b c ≡ cross a b +ℤ cross b c +ℤ cross c a
D-cross a b c = is_eq (D-is a b c) (cross_is a b ⊕ cross_is b c ⊕ cross_is c a) (omega arith)

-- a side that touches the point that it is seen from
pub D-start : (v b : Point) → D v v b ≡ pos 0
D-start v b = is_eq (D-is v v b) (nat 0) (omega arith)

pub D-end : (v a : Point) → D v a v ≡ pos 0
D-end v a = is_eq (D-is v a v) (nat 0) (omega arith)

pub D-turned : (v a b : Point) → D v a b ≡ neg_ℤ (D a v b)
D-turned v a b = is_eq (D-is v a b) (neg (D-is a v b)) (omega arith)

-- ---- a polygon's area is the sum over its sides
fan_path : (p q : Point) (l : List Point) → fan p q l ≡ cross p q +ℤ path cross q (l ++ (p ∷ []))
unfolding fan path
fan_path p q [] = rw (cross_anti p q) (is_eq (nat 0) (neg (at (cross q p)) ⊕ (at (cross q p) ⊕ nat 0)) (omega arith))
fan_path p q (r ∷ l) = rw (fan_path p r l, D-cross p q r, cross_anti p r)
    (is_eq (at (cross p q) ⊕ at (cross q r) ⊕ at (cross r p) ⊕ (neg (at (cross r p)) ⊕ at (path cross r (l ++ (p ∷ [])))))
    (at (cross p q) ⊕ (at (cross q r) ⊕ at (path cross r (l ++ (p ∷ []))))) (omega arith))

pub area_path : (p : Point) (l : List Point) → area (p ∷ l) ≡ path cross p (l ++ (p ∷ []))
unfolding area path
area_path p [] = sym (+ℤ_idr (cross p p) ∙ cross_self p)
area_path p (q ∷ l) = fan_path p q l

pub area_triangle : (a b c : Point) → area (a ∷ (b ∷ (c ∷ []))) ≡ D a b c
unfolding area fan
area_triangle a b c = +ℤ_idr (D a b c)

-- below three points there is no area
pub area_few : (l : List Point) → length l < 3 → area l ≡ pos 0
unfolding area fan
area_few [] h = refl
area_few (p ∷ []) h = refl
area_few (p ∷ (q ∷ [])) h = refl
area_few (p ∷ (q ∷ (r ∷ l))) h = absurd (omega arith)

-- ---- a path through r is the path to r, and the path from r
module _ {A : Type 0} (g : A → A → ℤ) where
  pub path_through : (p : A) (l : List A) (r : A) (m : List A) → path g p (l ++ (r ∷ m)) ≡ path g p (l ++ (r ∷ [])) +ℤ path g r m
  unfolding path
  path_through p [] r m = is_eq (at (g p r) ⊕ at (path g r m)) (at (g p r) ⊕ nat 0 ⊕ at (path g r m)) (omega arith)
  path_through p (q ∷ l) r m = ap (λ (z : ℤ). g p q +ℤ z) (path_through q l r m) ∙ sym (+ℤ_assoc (g p q) (path g q (l ++ (r ∷ []))) (path g r m))

  pub path_map : {B : Type 0} (f : B → A) (p : B) (l : List B) → path g (f p) (map f l) ≡ path (λ a b. g (f a) (f b)) p l
  unfolding path
  path_map f p [] = refl
  path_map f p (q ∷ l) = ap (λ (z : ℤ). g (f p) (f q) +ℤ z) (path_map f q l)
