-- The doubled area of points in a slice, as a loop adds it up from place 1 on, in an i64: each turn adds a D within 2147352578, so that the sum of
-- 2 ^ 31 of them fits. Assumes nothing.
use Rattle.std.proofs.Common.{◌≡◌, ℕ, zero, suc, ◌+◌, ◌*◌, ◌/◌, ◌<◌, ◌≤◌, List, ◌∷◌, length, drop, ℤ, pos, ◌+ℤ◌, sym, refl, ap, ◌∙◌, add-one, arith, lit<, drop_of_length-le, drop-cons, w32, w64, SFits, to_z, of_z}
use lib.IntN.{+ℤ_assoc, +ℤ_idl, +ℤ_idr}
use Rattle.ints.specs.Order.{Within, within_pos, within_add, within_le, within_fits}
use Rattle.ints.specs.Machine.{Reads, reads_self, cast_fits, cast_reads, add_fits, add_reads}
use Rattle.mem.specs.Tab.{tab, length_tab, get_or_tab}
use Rattle.rules.specs.Plane.{D, fan, area}
use Rattle.rules.specs.declared.Point.{Point}
use Rattle.plane.specs.Points.{point_of, points_in, GridWords}
use Rattle.plane.specs.Sizes.{D-within}
use Rattle.plane.proofs.Sizes.{on_grid}

-- ---- the sum, turn by turn, of n points that are given place by place

module _ (f : ℕ → Point) (n : ℕ) where
  -- what the turns from k on add
  unfoldable pub rest : ℕ → ℤ
  rest k = fan (f 0) (f k) (drop (k + 1) (tab f n))

  tab_from : (k : ℕ) → k < n → drop k (tab f n) ≡ f k ∷ drop (k + 1) (tab f n)
  tab_from k h =
      rw (add-one k) (drop-cons (tab f n) k (f 0) (rw (length_tab f n) h)
      ∙ ap (λ (p : Point). p ∷ drop (suc k) (tab f n)) (get_or_tab f n k (f 0) h))

  rest_more : (k : ℕ) → k + 1 < n → rest k ≡ D (f 0) (f k) (f (k + 1)) +ℤ rest (k + 1)
  unfolding rest fan
  rest_more k h = rw (tab_from (k + 1) h)

  rest_none : (k : ℕ) → n ≤ k + 1 → rest k ≡ pos 0
  unfolding rest fan
  rest_none k h = rw (drop_of_length-le (tab f n) {i = k + 1} (rw (length_tab f n) h))

  area_rest : 2 ≤ n → area (tab f n) ≡ rest 1
  unfolding rest area
  area_rest h = ap area (tab_from 0 (omega arith) ∙ ap (λ (l : List Point). f 0 ∷ l) (tab_from 1 h))

few : (f : ℕ → Point) (n : ℕ) → n < 3 → area (tab f n) ≡ pos 0
unfolding tab area fan
few f zero h = refl
few f (suc zero) h = refl
few f (suc (suc zero)) h = refl
few f (suc (suc (suc n))) h = absurd (omega arith)

pub area_few : (ws : List ℕ) → length ws / 2 < 3 → area (points_in ws) ≡ pos 0
unfolding points_in
area_few ws h = few (point_of ws) (length ws / 2) h

-- ---- the loop's invariant: s is the sum where the turn k begins
pub record Summed (ws : List ℕ) (s : ℤ) (k : ℕ) : Type 0 where
  pub below : k + 1 ≤ length ws / 2
  pub same : area (points_in ws) ≡ s +ℤ rest (point_of ws) (length ws / 2) k
  pub size : Within (k * 2147352578) s

pub summed_none : (ws : List ℕ) → 3 ≤ length ws / 2 → Summed ws (pos 0) 1
unfolding points_in
summed_none ws h =
    record {
      below = omega arith;
      same = area_rest (point_of ws) (length ws / 2) (omega arith) ∙ sym (+ℤ_idl (rest (point_of ws) (length ws / 2) 1));
      size = within_pos (omega arith);
    }

pub summed_all : {ws : List ℕ} {s : ℤ} {k : ℕ} → Summed ws s k → length ws / 2 ≤ k + 1 → s ≡ area (points_in ws)
summed_all {ws} {s} {k} r h = sym (r.same ∙ rw (rest_none (point_of ws) (length ws / 2) k h) (+ℤ_idr s))

-- a turn: s are the bits of the sum, d is the D that it adds, and z are its bits
module _ {ws : List ℕ} (s : ℕ) {k z : ℕ} {d : ℤ} (g : GridWords ws) (r : Summed ws (to_z w64 s) k) (z-is : Reads w32 z d)
    (d-is : d ≡ D (point_of ws 0) (point_of ws k) (point_of ws (k + 1))) where
  turn_size : Within 2147352578 d
  turn_size = rw d-is (D-within (on_grid g 0) (on_grid g k) (on_grid g (k + 1)))

  pub cast_needs : SFits w64 (to_z w32 z)
  cast_needs = cast_fits z-is (within_fits (lit< tt) turn_size)

  turn_reads : Reads w64 (of_z w64 (to_z w32 z)) d
  turn_reads = cast_reads z-is (within_fits (lit< tt) turn_size)

  more_size : Within ((k + 1) * 2147352578) (to_z w64 s +ℤ d)
  more_size = within_le (omega arith) (within_add r.size turn_size)

  more_fits : SFits w64 (to_z w64 s +ℤ d)
  more_fits = within_fits (omega arith) more_size

  pub add_needs : SFits w64 (to_z w64 s +ℤ to_z w64 (of_z w64 (to_z w32 z)))
  add_needs = add_fits (reads_self w64 s) turn_reads more_fits

  turn_rest : k + 1 < length ws / 2 → rest (point_of ws) (length ws / 2) k ≡ d +ℤ rest (point_of ws) (length ws / 2) (k + 1)
  turn_rest h = rw d-is (rest_more (point_of ws) (length ws / 2) k h)

  pub summed_more : k + 1 < length ws / 2 → Summed ws (to_z w64 (of_z w64 (to_z w64 s +ℤ to_z w64 (of_z w64 (to_z w32 z))))) (k + 1)
  summed_more h =
      let q = add_reads (reads_self w64 s) turn_reads more_fits in
      record {
        below = omega arith;
        same = rw q.reads (r.same ∙ rw (turn_rest h) (sym (+ℤ_assoc (to_z w64 s) d (rest (point_of ws) (length ws / 2) (k + 1)))));
        size = rw q.reads more_size;
      }
