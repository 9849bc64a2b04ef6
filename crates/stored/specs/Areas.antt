-- The area of a stored mesh: it goes by the vertices and the corners alone, and the area of one polygon more is that polygon's on top. Assumes nothing.
-- Key: `area_stored`.
use Rattle.std.specs.Prelude.{◌≡◌, [], ◌∷◌, ℤ, ◌+ℤ◌}
use Rattle.std.proofs.Math.Path.{refl}
use Prim.Native.Nat.{ℕ, zero, suc, ◌+◌}
use Rattle.std.proofs.Math.IntN.{+ℤ_idr}
use Rattle.mem.specs.Tab.{tab, tab_snoc}
use Rattle.rules.specs.Checks.{Lent}
use Rattle.rules.specs.Exits.{stored_polygon, decoded}
use Rattle.rules.specs.Areas.{sum_of, points_of, polygon_area, stored_area}
use Rattle.laws.proofs.Lists.{sum_append}
use Rattle.stored.specs.Stored.{lent_of, stored_in}

module _ {A : Type 0} (f : A → ℤ) where
  sum_one : (a : A) → sum_of f (a ∷ []) ≡ f a
  unfolding sum_of
  sum_one a = +ℤ_idr (f a)

  -- the sum over one more
  pub sum_more : (g : ℕ → A) (n : ℕ) → sum_of f (tab g (n + 1)) ≡ sum_of f (tab g n) +ℤ f (g n)
  sum_more g n = rw (tab_snoc g n, sum_append f (tab g n) (g n ∷ []), sum_one (g n))

  sum_alike : (g h : ℕ → A) → ((i : ℕ) → f (g i) ≡ f (h i)) → (n : ℕ) → sum_of f (tab g n) ≡ sum_of f (tab h n)
  unfolding tab
  sum_alike g h e zero = refl
  sum_alike g h e (suc n) = rw (sum_append f (tab g n) (g n ∷ []), sum_append f (tab h n) (h n ∷ []), sum_one (g n), sum_one (h n), sum_alike g h e n, e n)

-- for those who have a mesh out of a build: the area needs no other buffer
pub area_stored : (nvp n k : ℕ) (b : Lent) → stored_area (decoded nvp n k b) ≡ stored_area (stored_in nvp n k b.vertices b.polygons)
unfolding stored_area decoded stored_in lent_of polygon_area points_of stored_polygon
area_stored nvp n k b =
    sum_alike (polygon_area (decoded nvp n k b).vertices) (stored_polygon nvp b) (stored_polygon nvp (lent_of b.vertices b.polygons [] [] []))
    (λ i. refl) n
