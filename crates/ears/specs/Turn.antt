-- What one turn of the cutting leaves in a part, and what the part holds once all are done. Definitions only.
use Rattle.std.specs.Prelude.{List, [], ◌∷◌, ◌++◌, ◌≡◌, ℕ, ◌+◌, take, Some, None, Result, Ok, Err}
use Rattle.mem.specs.Slice.{view, splice}
use Rattle.mem.specs.Tab.{blocks}
use Rattle.rules.specs.Ears.{Ears, done, stuck, find_ear, triangle_at, cut_ear}
use Rattle.rules.specs.Fuel.{cutting}
use Rattle.plane.specs.Points.{points_in}
use Rattle.ears.specs.declared.cut.NoEar.{NoEar}

-- the ear of the m words behind a is cut, and its triangle stands at t; all is as it was where there is no ear
unfoldable pub cut_once : ℕ → ℕ → ℕ → List ℕ → List ℕ
cut_once a m t w =
    let ps = points_in (take a w) in
    let ws = view w a m in
    elim (find_ear ps ws) [
      | Some e ↦ splice (splice w t (triangle_at ws e.at)) a (cut_ear ps e.at ws ++ (0 ∷ []))
      | None ↦ w
    ]

-- the answer r, with its triangles in the words from o on
unfoldable pub ears_at : ℕ → List ℕ → Result ℕ NoEar → Ears
ears_at o w (Ok k) = done (blocks (λ t. t) w o 3 k)
ears_at o w (Err e) = stuck e.after

-- from v, with n index words behind its a words of points, the cutting comes to r, and leaves w: the points are as they were, and the triangles stand
-- behind the index words
pub record AllCut (a n : ℕ) (v w : List ℕ) (r : Result ℕ NoEar) : Type 0 where
  pub answer : cutting (points_in (take a v)) (view v a n) [] ≡ ears_at (a + n) w r
  pub front : take a w ≡ take a v
