-- Places as words in the buffer, read back from it; and what the answer of the cutting says. Laws for all who cut. Assumes nothing.
-- Key: `points_back`: places read back from their words; `was_done`, `was_stuck`.
use Rattle.std.specs.Prelude.{◌≡◌, refl, List, [], ◌∷◌, ℕ, zero, suc, ◌+◌, ◌*◌, ◌/◌, ◌≤◌, ◌<◌, length, get_or, set, Ok, Err}
use Rattle.std.proofs.Common.{sym, ap, ◌∙◌, arith, ext_get_or}
use Rattle.mem.specs.Slice.{splice, set_each, stored_each}
use Rattle.mem.specs.Tab.{tab, length_tab, get_or_tab}
use Rattle.mem.specs.Packed.{every_of, packed, length_packed}
use Rattle.rules.specs.Plane.{InGrid, origin}
use Rattle.rules.specs.Ears.{Ears, done, stuck}
use Rattle.rules.specs.declared.Point.{Point}
use Rattle.laws.specs.Lists.{All}
use Rattle.laws.proofs.Lists.{all_head, all_tail}
use Rattle.plane.specs.Points.{point_of, points_in}
use Rattle.ears.specs.Part.{no_ear, answer_of}
use Rattle.ears.specs.declared.cut.NoEar.{NoEar}
use Rattle.holes.specs.Fill.{place_words}

-- ---- places and their words

pub two : (p : Point) → length (place_words p) ≡ 2
unfolding place_words
two p = refl

pub put_two : (w : List ℕ) (at : ℕ) (p : Point) → set (set w at p.x) (at + 1) p.z ≡ splice w at (place_words p)
unfolding place_words set_each
put_two w at p = stored_each w at p.x (p.z ∷ [])

pub placed_words : (ps : List Point) → length (packed place_words ps) ≡ length ps * 2
placed_words ps = length_packed place_words 2 (λ p. Unit) origin (λ p t. two p) ps (every_of (λ p. Unit) origin ps (λ i. tt))

-- places read back from their words
place_at : (ps : List Point) (k : ℕ) → k < length ps → point_of (packed place_words ps) k ≡ get_or ps k origin
unfolding point_of packed place_words
place_at [] k h = absurd (omega arith)
place_at (p ∷ ps) zero h = refl
place_at (p ∷ ps) (suc k) h =
    let e : suc k * 2 ≡ suc (suc (k * 2)) = omega arith in
    let f : suc (suc (k * 2)) + 1 ≡ suc (suc (k * 2 + 1)) = omega arith in
    rw (e, f) (place_at ps k (omega arith))

pub points_back : (ps : List Point) → points_in (packed place_words ps) ≡ ps
unfolding points_in
points_back ps =
    let n : length (packed place_words ps) / 2 ≡ length ps = omega (arith, placed_words ps) in
    rw n (ext_get_or origin (tab (point_of (packed place_words ps)) (length ps)) ps (length_tab _ (length ps))
    (λ k a. let h : k < length ps = rw length_tab at a in get_or_tab _ (length ps) k origin h ∙ place_at ps k h))

pub grid_words : (ps : List Point) → All InGrid ps → (k : ℕ) → get_or (packed place_words ps) k 0 ≤ 32767
unfolding packed place_words
grid_words [] a k = omega arith
grid_words (p ∷ ps) a zero = (all_head a).x_small
grid_words (p ∷ ps) a (suc zero) = (all_head a).z_small
grid_words (p ∷ ps) a (suc (suc k)) = grid_words ps (all_tail a) k

-- ---- the answer of the cutting

pub record WasDone (t : Ears) (k : ℕ) : Type 0 where
  pub ts : List (List ℕ)
  pub is : t ≡ done ts
  pub count : k ≡ length ts

pub was_done : (t : Ears) (k : ℕ) → Ok k ≡ answer_of t → WasDone t k
unfolding answer_of
was_done (done ts) k e = record { ts = ts; is = refl; count = cc }
was_done (stuck j) k e = cc

pub was_stuck : (t : Ears) (e : NoEar) → Err e ≡ answer_of t → t ≡ stuck e.after
unfolding answer_of
was_stuck (done ts) e q = cc
was_stuck (stuck j) e q = let z : e ≡ no_ear j = cc in sym (ap (λ (x : NoEar). stuck x.after) z)
