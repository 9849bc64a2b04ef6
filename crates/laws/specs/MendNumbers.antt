-- Request 12, as the code has it: the points that are left are their original numbers, and a flag is written where the vertex stands. Definitions only.
use Rattle.std.specs.Prelude.{ℕ, suc, ◌+◌, ◌*◌, ◌≤◌, ◌<◌, Bool, cond, eqb, length, set}
use mathlib.Core.List.{List, [], ◌∷◌, ◌++◌, map}
use Rattle.std.proofs.Math.ListN.{get_or}
use Rattle.rules.specs.Lists.{next, without}
use Rattle.rules.specs.Plane.{on_plane, vequal}
use Rattle.rules.specs.Job.{job_stride, vertex_at, flag_at}
use Rattle.rules.specs.Mend.{Traced, Mending, place_then}
use Rattle.laws.specs.Lists.{All}

-- the point that the original number k names
unfoldable pub point_of : List ℕ → ℕ → Traced
point_of ns k = record { number = k; vertex = vertex_at ns k; flag = flag_at ns k }

-- the numbers p and q name the same place
unfoldable pub same_place : List ℕ → ℕ → ℕ → Bool
same_place ns p q = vequal (on_plane (vertex_at ns p)) (on_plane (vertex_at ns q))

-- ---- flags that are written

-- the numbers once p has the flag that q had, if that is a 1
unfoldable pub carried : List ℕ → ℕ → ℕ → List ℕ
carried ns p q = cond (eqb (flag_at ns q) 1) (set ns (p * job_stride + 3) 1) ns

-- the same, where flags are written at all: a walk that only counts leaves them
unfoldable pub carried_if : Bool → List ℕ → ℕ → ℕ → List ℕ
carried_if writes ns p q = cond writes (carried ns p q) ns

-- ---- numbers that rise
pub data Up : ℕ → List ℕ → Type 0 where
  up_none : {b : ℕ} → Up b []
  up_more : {b k : ℕ} {ks : List ℕ} → b ≤ k → Up (suc k) ks → Up b (k ∷ ks)

-- ---- losses

-- the original numbers of the points that are left, those that are lost, and the contour's numbers
pub record Numbered : Type 0 where
  pub left : List ℕ
  pub lost : List ℕ
  pub numbers : List ℕ

unfoldable pub mending_of : Numbered → Mending
mending_of w = record { points = map (point_of w.numbers) w.left; lost = w.lost }

unfoldable pub lose_number : ℕ → Numbered → Numbered
lose_number i w =
    let k = next i (length w.left) in
    let q = get_or w.left k 0 in
    record { left = without w.left k; lost = w.lost ++ (q ∷ []); numbers = carried w.numbers (get_or w.left i 0) q }

unfoldable pub lose_two_numbers : ℕ → Numbered → Numbered
lose_two_numbers i w = lose_number (place_then i (length w.left)) (lose_number i w)

-- what is left rises, and has its numbers
pub record Sound (w : Numbered) : Type 0 where
  pub rising : Up 0 w.left
  pub inside : All (λ k. k * job_stride + 3 < length w.numbers) w.left
